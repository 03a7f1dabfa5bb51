use Rattle.std.proofs.Common.{subst}
use Rattle.machine_core.specs.QuietSteps.{Steps}
use Rattle.hart_workers.proofs.Ending.{ended_over}
use Rattle.hart_workers.proofs.steps.step_hart.Goals as goal

pub returns-in-Ok-Ended-clause-over : goal.returns-in-Ok-Ended-clause-over
returns-in-Ok-Ended-clause-over g c = λ is.
    let m = c.args.machine.now in
    let n = c.step.new.self in
    let x = c.in-Ok-Ended._ending in
    ended_over x m n (subst (λ y. Steps c.args.hart c.args.quantum m y n) c.in-Ok-Ended.field-0-is c.in-Ok-Ended.ensures.steps)
