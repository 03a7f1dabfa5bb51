use Rattle.std.proofs.Common.{◌≡◌}
use Rattle.open_calls.specs.Nest.{lowest}
use Rattle.run_history.specs.Ahead.{ahead}
use Rattle.hart_workers.proofs.steps.finish_call.Given as goal

abbrev pub invariant-loop-next : goal.invariant-loop-next
invariant-loop-next g l = lowest l.call.nest ≡ lowest l.initial.call.nest

-- each step leaves less ahead of the hart
abbrev pub decreases-loop-next : goal.decreases-loop-next
decreases-loop-next g l = ahead l.call.state l.call.hart
