use Rattle.std.proofs.Common.{◌≡◌, ◌-◌, ◌++◌, [], replicate}
use Rattle.hart_slots.proofs.slots.no_frames.Given as goal

abbrev pub invariant-loop : goal.invariant-loop
invariant-loop l = l.frames.items ++ replicate (l.count - l.counter) [] ≡ replicate l.count []
