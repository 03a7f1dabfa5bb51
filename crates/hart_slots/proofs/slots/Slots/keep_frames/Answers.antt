use Rattle.std.proofs.Common.{[], ◌∙◌, ap, sym, length, take, length-set}
use Rattle.guest_words.specs.State.{changed}
use Rattle.hart_slots.specs.Parts.{on_frames}
use Rattle.hart_slots.specs.Rejoined.{joined}
use Rattle.hart_slots.proofs.Joins.{joined-frames}
use Rattle.hart_slots.proofs.slots.Slots.keep_frames.Goals as goal

pub invariant_of-self : goal.invariant_of-self
invariant_of-self c = (c.self.invariant.0 ∙ sym (ap length (c.keep_at.ensures.value []) ∙ length-set c.self.inside.frames.items c.args.h _), c.self.invariant.1)

pub returns : goal.returns
returns c = record {
  value =
      ap (joined c.self.inside.harts) (c.keep_at.ensures.value []) ∙ joined-frames (take c.args.count) c.args.h c.self.inside.harts c.self.inside.frames.items []
      ∙ ap (changed (on_frames (take c.args.count)) c.args.h) c.self.view_is;
}
