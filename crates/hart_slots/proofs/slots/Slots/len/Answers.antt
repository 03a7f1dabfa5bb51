use Rattle.std.proofs.Common.{◌≡◌, ◌≤◌, ap, sym, ◌∙◌, length, subst, rules}
use Rattle.hart_slots.proofs.Joins.{length-joined}
use Rattle.hart_slots.proofs.slots.Slots.len.Goals as goal

pub returns-clause-value : goal.returns-clause-value
returns-clause-value c =
    let is : c.len.result ≡ length c.self.inside.frames.items = search rules in
    is ∙ sym (length-joined c.self.inside.harts c.self.inside.frames.items c.self.invariant.0) ∙ ap length c.self.view_is

pub returns-clause-most : goal.returns-clause-most
returns-clause-most c =
    subst (λ n. n ≤ 64) (c.self.invariant.0 ∙ sym (length-joined c.self.inside.harts c.self.inside.frames.items c.self.invariant.0) ∙ ap length c.self.view_is) c.self.invariant.1
