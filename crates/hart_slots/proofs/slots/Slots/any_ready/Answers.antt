use Rattle.std.proofs.Common.{ap, ◌∙◌}
use Rattle.std.specs.List.{list_any}
use Rattle.guest_words.specs.declared.hart.Hart.{Hart}
use Rattle.guest_words.specs.declared.hart.Slot.{Slot}
use Rattle.guest_words.specs.Harts.{is_ready}
use Rattle.hart_slots.proofs.EachPart.{any-joined}
use Rattle.hart_slots.proofs.slots.Slots.any_ready.Goals as goal

pub returns : goal.returns
returns c = record {
  value =
      c.any_ready.ensures.value ∙ ap (list_any (λ (hart : Hart). is_ready hart.state)) c.items.ensures.list
      ∙ any-joined (λ (hart : Hart). is_ready hart.state) c.self.inside.harts c.self.inside.frames.items c.self.invariant.0 ∙ ap (list_any (λ (slot : Slot). is_ready slot.hart.state)) c.self.view_is;
}
