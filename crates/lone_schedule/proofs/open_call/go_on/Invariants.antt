use Rattle.std.proofs.Common.{◌≡◌}
use Rattle.open_calls.specs.Nest.{lowest}
use Rattle.run_history.specs.Ahead.{ahead}
use Rattle.lone_schedule.specs.Drives.{IsCalling}
use Rattle.lone_schedule.proofs.open_call.go_on.Given as goal

abbrev pub invariant-loop-next : goal.invariant-loop-next
invariant-loop-next g l = record {
  calling : IsCalling g.K.Origin.state l.call;
  outermost : lowest l.call.nest ≡ lowest l.initial.call.nest;
  hart : l.call.hart ≡ l.initial.call.hart;
}

abbrev pub decreases-loop-next : goal.decreases-loop-next
decreases-loop-next g l = ahead l.call.state l.call.hart
