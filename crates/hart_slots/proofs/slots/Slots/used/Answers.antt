use Rattle.std.proofs.Common.{◌≡◌, false, length, ap, sym, ◌∙◌, arith, subst, slice_get, List}
use Rattle.guest_words.specs.declared.hart.Slot.{Slot}
use Rattle.run_history.specs.Legal.{is_ready_slot}
use Rattle.hart_slots.proofs.IdleSlots.{idle-joined}
use Rattle.hart_slots.proofs.Joins.{length-joined}
use Rattle.hart_slots.proofs.slots.Slots.used.Goals as goal

pub returns : goal.returns
returns c =
    let hs = c.self.inside.harts in
    let fs = c.self.inside.frames.items in
    let least = c.min.ensures in
    let count = c.len.ensures.value in
    let same : length hs ≡ length c.args.self.now =
    c.self.invariant.0 ∙ sym (length-joined hs fs c.self.invariant.0) ∙ ap length c.self.view_is in
    record {
      within = omega (arith, least, count);
      idle = λ h behind.
          let P : List Slot → Type 0 = λ slots. is_ready_slot (slice_get slots h) ≡ false in
          subst P c.self.view_is
          (idle-joined hs fs h (λ d inside. c.used.ensures.idle h d (omega (arith, least, count, same, behind, inside)) inside));
    }
