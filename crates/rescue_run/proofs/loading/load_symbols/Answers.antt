use Rattle.rescue_run.proofs.Reading.{symbols_loaded, symbols_unread}
use Rattle.rescue_run.proofs.loading.load_symbols.Goals as goal

pub returns-in-Err-clause-reads : goal.returns-in-Err-clause-reads
returns-in-Err-clause-reads g c =
    let seen = g.F.Shelf.seen in
    symbols_unread c.args.name.now (seen c.args.shelf.now) (seen c.load.new.self) c.items.result.now c.limit.result c.in-Err.fault c.refusal.result
    c.items.ensures.list c.limit.ensures.value c.refusal.ensures.value c.in-Err.ensures.loads

pub returns-in-Ok-clause-reads : goal.returns-in-Ok-clause-reads
returns-in-Ok-clause-reads g c =
    let seen = g.F.Shelf.seen in
    symbols_loaded c.args.name.now (seen c.args.shelf.now) (seen c.load.new.self) c.items.result.now c.limit.result c.in-Ok.program c.listing_of.result
    c.items.ensures.list c.limit.ensures.value c.in-Ok.ensures.loads
    c.listing_of.ensures.value
