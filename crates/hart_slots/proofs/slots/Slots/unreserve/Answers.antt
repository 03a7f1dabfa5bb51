use Rattle.std.proofs.Common.{ap, ◌∙◌}
use Rattle.guest_words.specs.Harts.{unreserved}
use Rattle.guest_words.specs.State.{on_each}
use Rattle.hart_slots.specs.Rejoined.{joined}
use Rattle.hart_slots.proofs.Joins.{joined-map}
use Rattle.hart_slots.proofs.slots.Slots.unreserve.Goals as goal

pub returns : goal.returns
returns c = record {
  value =
      ap (λ harts. joined harts c.self.inside.frames.items) c.clear_all.ensures.value ∙ joined-map (unreserved) c.self.inside.harts c.self.inside.frames.items ∙ ap (on_each (unreserved)) c.self.view_is;
}
