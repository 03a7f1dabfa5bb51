use Rattle.std.proofs.Common.{refl}
use Rattle.guest_words.specs.State.{closed}
use Rattle.hart_step.proofs.Engines.{engine_slots}
use Rattle.hart_step.proofs.Waiting.{stays_changed}
use Rattle.hart_step.proofs.engine.Engine.close.Goals as goal

pub invariant_of-self : goal.invariant_of-self
invariant_of-self c = engine_slots _ _ c.self.invariant c.close.ensures.value (stays_changed closed c.args.hart c.self.inside.slots (λ slot. refl))
