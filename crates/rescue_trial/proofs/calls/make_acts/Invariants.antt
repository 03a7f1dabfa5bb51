use Rattle.std.proofs.Common.{◌≡◌, true}
use Rattle.run_history.specs.After.{ran}
use Rattle.run_history.specs.Legal.{can_run}
use Rattle.rescue_trial.specs.Begins.{begins}
use Rattle.rescue_trial.specs.Path.{calls_ran}
use Rattle.rescue_trial.proofs.calls.make_acts.Given as goal

abbrev pub invariant-loop-left : goal.invariant-loop-left
invariant-loop-left l =
    (can_run l.plain l.actor l.left ≡ true)
    × (ran l.plain l.actor l.left ≡ ran l.fn.plain l.actor l.count)
    × (calls_ran (begins l.functions) l.hart l.actor l.left l.plain l.calls.items
    ≡ calls_ran (begins l.functions) l.hart l.actor l.count l.fn.plain l.fn.calls.items)

abbrev pub decreases-loop-left : goal.decreases-loop-left
decreases-loop-left l = l.left
