use Rattle.std.proofs.Common.{◌≤◌, length, ap, sym, ◌∙◌, arith}
use Rattle.guest_words.specs.State.{State}
use Rattle.plain_machine.proofs.NamedActs.{named-past}
use Rattle.plain_machine.proofs.plain.Plain.act.Goals as goal

pub returns-else-from-harts : goal.returns-else-from-harts
returns-else-from-harts c =
    let s = c.args.self.now in
    let slots = c.harts.ensures.value ∙ ap (λ (t : State). length t.slots) c.self.view_is in
    let from = c.from.ensures in
    let none = c.if-from-harts.false in
    let past : length s.slots ≤ c.args.hart = omega (arith, slots, from, none) in
    record { value = sym (named-past s c.args.hart past) }
