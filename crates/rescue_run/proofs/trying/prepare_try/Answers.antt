use Rattle.rescue_run.proofs.Trials.{tries_loaded, tries_unread}
use Rattle.rescue_run.proofs.trying.prepare_try.Goals as goal

pub returns-in-Err-clause-tries : goal.returns-in-Err-clause-tries
returns-in-Err-clause-tries g c =
    let seen = g.F.Shelf.seen in
    tries_unread c.args.setup c.args.program.now c.args.input.now (seen c.args.shelf.now) (seen c.load.new.self) c.items.result.now c.limit.result c.in-Err.fault
    c.refusal.result c.items.ensures.list c.limit.ensures.value c.refusal.ensures.value c.in-Err.ensures.loads

pub returns-in-Ok-clause-tries : goal.returns-in-Ok-clause-tries
returns-in-Ok-clause-tries g c =
    let seen = g.F.Shelf.seen in
    tries_loaded c.args.setup c.args.program.now c.args.input.now c.in-Ok.program (seen c.args.shelf.now) (seen c.load.new.self) (seen c.prepare_trials.new.shelf)
    c.items.result.now c.limit.result c.prepare_trials.result c.items.ensures.list c.limit.ensures.value c.in-Ok.ensures.loads c.prepare_trials.ensures.tries
