use Rattle.std.proofs.Common.{◌∙◌, Ok, ap, sym, subst}
use Rattle.rescue_run.specs.declared.task.Task.TheVariants as task
use Rattle.rescue_run.specs.declared.task.TryTask.{TryTask}
use Rattle.rescue_run.specs.Loading.{image_of, IsNamed}
use Rattle.rescue_run.specs.Trying.{TriesProgram}
use Rattle.rescue_run.proofs.Trials.{input_given, input_unread}
use Rattle.rescue_run.proofs.trying.prepare_trials.Goals as goal

pub returns-in-Ok-load-clause-tries : goal.returns-in-Ok-load-clause-tries
returns-in-Ok-load-clause-tries g c =
    let old = g.F.Shelf.seen c.args.shelf.now in
    let new = g.F.Shelf.seen c.load.new.self in
    let list = c.items.ensures.list in
    subst (λ (t : TryTask). TriesProgram c.args.setup c.args.program c.args.input.now old new (Ok (task.Try t))) (sym c.try_task.ensures.value)
    (input_given c.args.setup c.args.program c.args.input.now old new c.items-in-Ok.result.now c.limit.result c.in-Ok.image c.in-Ok-load.input
    (subst IsNamed list c.in-Ok.ensures.kept) (c.in-Ok.ensures.ok ∙ ap image_of list) c.items-in-Ok.ensures.list c.limit.ensures.value
    c.in-Ok-load.ensures.loads)

pub returns-in-Err-load-clause-tries : goal.returns-in-Err-load-clause-tries
returns-in-Err-load-clause-tries g c =
    input_unread c.args.setup c.args.program c.args.input.now (g.F.Shelf.seen c.args.shelf.now) (g.F.Shelf.seen c.load.new.self) c.items-in-Ok.result.now
    c.limit.result c.in-Err-load.fault c.refusal.result (subst IsNamed c.items.ensures.list c.in-Ok.ensures.kept) c.items-in-Ok.ensures.list
    c.limit.ensures.value c.refusal.ensures.value c.in-Err-load.ensures.loads
