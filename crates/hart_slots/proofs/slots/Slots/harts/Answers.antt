use Rattle.std.proofs.Common.{ap, sym, ◌∙◌, map}
use Rattle.hart_slots.specs.Rejoined.{hart_of}
use Rattle.hart_slots.proofs.Joins.{map-hart_of-joined}
use Rattle.hart_slots.proofs.slots.Slots.harts.Goals as goal

pub returns : goal.returns
returns c = record { value = sym (map-hart_of-joined c.self.inside.harts c.self.inside.frames.items c.self.invariant.0) ∙ ap (map hart_of) c.self.view_is }
