use Rattle.std.proofs.Common.{◌≡◌, rules, ap, ◌∙◌, ◌&&◌, ◌+◌, ◌==◌, List, length, take, drop}
use Rattle.std.specs.List.{list_all}
use Rattle.guest_words.specs.declared.hart.Frame.{Frame}
use Rattle.guest_words.specs.declared.hart.Slot.{Slot}
use Rattle.guest_words.specs.CallChanges.{each_other}
use Rattle.hart_slots.proofs.EachPart.{each-other}
use Rattle.hart_slots.proofs.slots.Slots.is_alone.Goals as goal

pub returns : goal.returns
returns c = record {
  value =
      let test = (λ (frames : List Frame). length frames == 0) in
      let is : c.as_slice.result.now ≡ c.self.inside.frames.items = search rules in
      c.none_open_beside.ensures.value ∙ ap (λ fs. list_all test (take c.args.h fs) && list_all test (drop (c.args.h + 1) fs)) is ∙ each-other test c.args.h c.self.inside.harts c.self.inside.frames.items c.self.invariant.0
      ∙ ap (each_other (λ (slot : Slot). length slot.frames == 0) c.args.h) c.self.view_is;
}
