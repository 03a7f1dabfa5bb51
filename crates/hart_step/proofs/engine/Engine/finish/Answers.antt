use Rattle.std.proofs.Common.{◌<◌, refl, subst, sym}
use Rattle.guest_words.specs.State.{closed}
use Rattle.hart_step.specs.Live.{Live}
use Rattle.hart_step.proofs.Engines.{engine_counted, engine_slots}
use Rattle.hart_step.proofs.Waiting.{stays_changed}
use Rattle.hart_step.proofs.engine.Engine.finish.Goals as goal

pub invariant_of-self : goal.invariant_of-self
invariant_of-self c =
    let left = subst (λ (v : Live). v.state.steps < v.state.budget) (sym c.self.view_is) c.requires.left in
    engine_counted (engine_slots _ _ c.self.invariant c.close.ensures.value (stays_changed closed c.args.hart c.self.inside.slots (λ slot. refl))) left
