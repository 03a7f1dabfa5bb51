use Rattle.std.proofs.Common.{subst}
use Rattle.rescue_run.specs.ReadsFiles.{ReadsLater}
use Rattle.rescue_run.proofs.Reading.{reads_later, reads_never}
use Rattle.rescue_run.proofs.loading.load_files.Goals as goal

pub returns-in-Err-clause-reads : goal.returns-in-Err-clause-reads
returns-in-Err-clause-reads g c =
    let seen = g.F.Shelf.seen in
    reads_never c.args.files.now (seen c.args.shelf.now) (seen c.load.new.self) c.items.result.now c.limit.result c.in-Err.fault c.refusal.result
    c.items.ensures.list c.limit.ensures.value c.refusal.ensures.value c.in-Err.ensures.loads

pub returns-in-Ok-clause-reads : goal.returns-in-Ok-clause-reads
returns-in-Ok-clause-reads g c =
    let seen = g.F.Shelf.seen in
    reads_later c.args.files.now c.in-Ok.program (seen c.args.shelf.now) (seen c.load.new.self) (seen c.load_later.new.shelf) c.items.result.now c.limit.result
    c.load_later.result c.items.ensures.list c.limit.ensures.value c.in-Ok.ensures.loads
    (subst (λ program. ReadsLater c.args.files.now.points program (seen c.load.new.self) (seen c.load_later.new.shelf) c.load_later.result)
    c.items-in-Ok.ensures.list c.load_later.ensures.reads)
