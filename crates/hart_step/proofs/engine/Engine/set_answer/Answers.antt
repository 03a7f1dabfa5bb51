use Rattle.std.proofs.Common.{refl}
use Rattle.hart_step.proofs.Engines.{engine_slots}
use Rattle.hart_step.proofs.Waiting.{stays_changed}
use Rattle.hart_step.proofs.engine.Engine.set_answer.Goals as goal

pub invariant_of-self : goal.invariant_of-self
invariant_of-self c =
    engine_slots _ _ c.self.invariant c.answer.ensures.value (stays_changed _ c.args.hart c.self.inside.slots (λ slot. refl))
