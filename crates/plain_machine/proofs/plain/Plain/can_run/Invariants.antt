use Rattle.std.proofs.Common.{◌≡◌, ◌≤◌, ◌-◌, true}
use Rattle.run_history.specs.After.{ran}
use Rattle.run_history.specs.Legal.{can_run}
use Rattle.plain_machine.proofs.plain.Plain.can_run.Given as goal

abbrev pub invariant-loop-made : goal.invariant-loop-made
invariant-loop-made l =
    (l.made ≤ l.count) × (can_run l.fn.self l.hart l.made ≡ true) × (l.self ≡ ran l.fn.self l.hart l.made)

abbrev pub decreases-loop-made : goal.decreases-loop-made
decreases-loop-made l = l.count - l.made
