use Rattle.std.proofs.Common.{ap, ◌∙◌, drop}
use Rattle.std.specs.List.{position_from}
use Rattle.guest_words.specs.declared.hart.Hart.{Hart}
use Rattle.guest_words.specs.Harts.{is_free}
use Rattle.guest_words.specs.CallChanges.{free_slot}
use Rattle.hart_slots.proofs.EachPart.{position-drop}
use Rattle.hart_slots.proofs.slots.Slots.free.Goals as goal

pub returns : goal.returns
returns c = record {
  value =
      c.first_free.ensures.value ∙ ap (λ xs. position_from (λ (hart : Hart). is_free hart.state) 1 (drop 1 xs)) c.items.ensures.list
      ∙ position-drop (λ (hart : Hart). is_free hart.state) 1 c.self.inside.harts c.self.inside.frames.items c.self.invariant.0 ∙ ap free_slot c.self.view_is;
}
