use Rattle.std.proofs.Common.{ap, ◌∙◌, option_map, slice_get}
use Rattle.hart_slots.specs.Rejoined.{hart_of}
use Rattle.hart_slots.proofs.Joins.{hart-joined}
use Rattle.hart_slots.proofs.slots.Slots.hart.Goals as goal

pub returns : goal.returns
returns c = record {
  value =
      c.hart_at.ensures.value ∙ ap (λ xs. slice_get xs c.args.h) c.items.ensures.list
      ∙ hart-joined c.self.inside.harts c.self.inside.frames.items c.args.h c.self.invariant.0 ∙ ap (λ slots. option_map hart_of (slice_get slots c.args.h)) c.self.view_is;
}
