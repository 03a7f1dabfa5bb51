use Rattle.std.proofs.Common.{ap, ◌∙◌, ◌||◌, ◌+◌, take, drop}
use Rattle.std.specs.List.{list_any}
use Rattle.guest_words.specs.declared.hart.Hart.{Hart}
use Rattle.guest_words.specs.CallChanges.{any_other, is_live}
use Rattle.hart_slots.specs.Parts.{is_live_state}
use Rattle.hart_slots.proofs.EachPart.{any-other}
use Rattle.hart_slots.proofs.slots.Slots.other_live.Goals as goal

pub returns : goal.returns
returns c = record {
  value =
      let test = (λ (hart : Hart). is_live_state hart.state) in
      c.any_live_beside.ensures.value ∙ ap (λ xs. list_any test (take c.args.h xs) || list_any test (drop (c.args.h + 1) xs)) c.items.ensures.list
      ∙ any-other test c.args.h c.self.inside.harts c.self.inside.frames.items c.self.invariant.0 ∙ ap (any_other is_live c.args.h) c.self.view_is;
}
