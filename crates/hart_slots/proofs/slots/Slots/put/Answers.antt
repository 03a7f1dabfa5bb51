use Rattle.std.proofs.Common.{ap, ◌∙◌}
use Rattle.guest_words.specs.State.{changed, on_hart}
use Rattle.hart_slots.specs.Rejoined.{joined}
use Rattle.hart_slots.proofs.Joins.{joined-set}
use Rattle.hart_slots.proofs.slots.Slots.put.Goals as goal

pub returns : goal.returns
returns c = record {
  value =
      ap (λ harts. joined harts c.self.inside.frames.items) c.put_at.ensures.value ∙ joined-set c.args.hart c.args.h c.self.inside.harts c.self.inside.frames.items
      ∙ ap (changed (on_hart (λ before. c.args.hart)) c.args.h) c.self.view_is;
}
