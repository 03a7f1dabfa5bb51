use Rattle.std.proofs.Common.{sym, subst, arith, List}
use Rattle.guest_words.specs.declared.point.Point.{Point}
use Rattle.hart_step.specs.Table.{IsTable}
use Rattle.hart_step.proofs.Deactivated.{table-spent}
use Rattle.hart_step.proofs.Placed.{table_behind}
use Rattle.hart_step.proofs.guest.Guest.spend.Goals as goal

pub invariant_of-self : goal.invariant_of-self
invariant_of-self c =
    let guest = c.self.inside in
    let spent = subst (λ (points : List Point). IsTable guest.memory.space points guest.table.items) (sym c.spend.ensures.value)
    (table-spent guest.memory.space guest.points c.args.entry guest.table.items c.self.invariant) in
    table_behind guest.memory.space c.spend.new.self guest.table.items _ spent (λ whole. absurd (omega (arith, whole)))
