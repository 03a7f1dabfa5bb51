use Rattle.std.proofs.Common.{◌≡◌, [], rules, get_or, ap, ◌∙◌, slice_get}
use Rattle.hart_slots.specs.Rejoined.{frames_of}
use Rattle.hart_slots.proofs.Joins.{frames-joined}
use Rattle.hart_slots.proofs.slots.Slots.frames.Goals as goal

pub returns : goal.returns
returns c = record {
  value =
      let is : c.as_slice.result.now ≡ c.self.inside.frames.items = search rules in
      c.frames_at.ensures.value ∙ ap (λ fs. get_or fs c.args.h []) is ∙ frames-joined c.self.inside.harts c.self.inside.frames.items c.args.h c.self.invariant.0
      ∙ ap (λ slots. frames_of (slice_get slots c.args.h)) c.self.view_is;
}
