use Rattle.std.proofs.Common.{ap, ◌∙◌}
use Rattle.guest_words.specs.Harts.{touched}
use Rattle.guest_words.specs.State.{on_each}
use Rattle.hart_slots.specs.Rejoined.{joined}
use Rattle.hart_slots.proofs.Joins.{joined-map}
use Rattle.hart_slots.proofs.slots.Slots.touch.Goals as goal

pub returns : goal.returns
returns c = record {
  value =
      ap (λ harts. joined harts c.self.inside.frames.items) c.touched.ensures.value ∙ joined-map (touched c.args.from c.args.size) c.self.inside.harts c.self.inside.frames.items ∙ ap (on_each (touched c.args.from c.args.size)) c.self.view_is;
}
