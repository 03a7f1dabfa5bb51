use Rattle.std.proofs.Common.{arith}
use Rattle.futex_table.proofs.OwnSlots.{length-own}
use Rattle.futex_table.proofs.kept.KeptQueue.put_back.Goals as goal

pub slice_bounds-copy_from_slice-end : goal.slice_bounds-copy_from_slice-end
slice_bounds-copy_from_slice-end c =
    let few = length-own c.self.inside.waiters.items c.self.invariant in
    let whole = c.self.inside.waiters.ok.0 in
    let count = c.len-count.ensures in
    omega (arith, few, whole, count)
