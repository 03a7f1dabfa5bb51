use Rattle.rescue_run.proofs.Furthers.{read_one, stop_one}
use Rattle.rescue_run.proofs.further.load_one.Goals as goal

pub returns-in-Ok : goal.returns-in-Ok
returns-in-Ok g c =
    let seen = g.F.Shelf.seen in record {
      reads = read_one c.args.which c.args.name.now (seen c.args.shelf.now) (seen c.load.new.self) c.items.result.now c.limit.result c.in-Ok.bytes
          c.items.ensures.list c.limit.ensures.value c.in-Ok.ensures.loads;
    }

pub returns-in-Err : goal.returns-in-Err
returns-in-Err g c =
    let seen = g.F.Shelf.seen in record {
      reads = stop_one c.args.which c.args.name.now (seen c.args.shelf.now) (seen c.load.new.self) c.items.result.now c.limit.result c.in-Err.fault c.refusal.result
          c.items.ensures.list c.limit.ensures.value c.refusal.ensures.value c.in-Err.ensures.loads;
    }
