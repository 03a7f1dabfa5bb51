use Rattle.std.proofs.Common.{◌≡◌, true, subst, sym}
use Rattle.run_history.specs.Legal.{is_ready_at}
use Rattle.hart_step.specs.Live.{Live}
use Rattle.guest_words.specs.State.{on_hart}
use Rattle.hart_step.proofs.Engines.{engine_slots}
use Rattle.hart_step.proofs.Waiting.{stays_ready}
use Rattle.hart_step.proofs.engine.Engine.put.Goals as goal

pub invariant_of-self : goal.invariant_of-self
invariant_of-self c =
    let can = subst (λ (v : Live). is_ready_at v.state c.args.slot ≡ true) (sym c.self.view_is) c.requires.ready in
    engine_slots _ _ c.self.invariant c.put.ensures.value (stays_ready (on_hart (λ before. c.args.hart)) c.args.slot c.self.inside.slots can)
