use Rattle.std.proofs.Common.{◌≡◌, take}
use Rattle.hart_slots.proofs.slots.copies.Given as goal

abbrev pub invariant-loop-each : goal.invariant-loop-each
invariant-loop-each l = l.copies.items ≡ take l.each-index l.frames
