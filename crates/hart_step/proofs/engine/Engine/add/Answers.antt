use Rattle.std.proofs.Common.{◌<◌, ◌≡◌, Some, subst, sym, slice_get}
use Rattle.guest_words.specs.CallChanges.{child_slot, free_slot}
use Rattle.hart_step.specs.Live.{Live}
use Rattle.hart_step.proofs.Engines.{engine_born, engine_slots}
use Rattle.hart_step.proofs.Waiting.{stays_child}
use Rattle.hart_step.proofs.engine.Engine.add.Goals as goal

pub invariant_of-self : goal.invariant_of-self
invariant_of-self c =
    let left = subst (λ (v : Live). v.state.steps < v.state.budget) (sym c.self.view_is) c.requires.left in
    let free = subst (λ (v : Live). free_slot v.state.slots ≡ Some c.args.slot) (sym c.self.view_is) c.requires.free in
    engine_born (engine_slots _ _ c.self.invariant c.add.ensures.value
    (stays_child c.args.slot (child_slot c.args.flags c.args.stack c.args.tls c.args.child c.self.inside.next_tid) (slice_get c.self.inside.slots c.args.parent) c.self.inside.slots free)) left
