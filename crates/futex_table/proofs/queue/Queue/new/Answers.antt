use Rattle.std.proofs.Common.{refl, arith}
use Rattle.futex_table.proofs.OwnSlots.{HasOwnSlots-none}
use Rattle.futex_table.proofs.queue.Queue.new.Goals as goal

pub invariant_of-result : goal.invariant_of-result
invariant_of-result c = record { size = refl; within = omega arith; own = HasOwnSlots-none }
