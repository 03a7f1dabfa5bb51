use Rattle.hart_step.proofs.Deactivated.{table-text}
use Rattle.hart_step.proofs.restore.GuestRestore.put_page.Goals as goal

pub invariant_of-self-else-exec : goal.invariant_of-self-else-exec
invariant_of-self-else-exec c =
    let guest = c.self.inside in
    table-text guest.memory.space c.put_page.new.self.space guest.points guest.table.items (c.put_page.ensures.text c.if-exec.false) c.self.invariant
