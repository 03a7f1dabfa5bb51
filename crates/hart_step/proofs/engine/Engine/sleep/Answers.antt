use Rattle.std.proofs.Common.{◌≡◌, List, map, true, subst, sym}
use Rattle.run_history.specs.Legal.{is_ready_at}
use Rattle.hart_step.specs.Live.{Live}
use Rattle.guest_words.specs.declared.hart.Slot.{Slot}
use Rattle.guest_words.specs.declared.hart.Waiter.{Waiter}
use Rattle.guest_words.specs.CallChanges.{asleep}
use Rattle.guest_words.specs.State.{changed, on_hart}
use Rattle.hart_slots.specs.Rejoined.{hart_of}
use Rattle.hart_step.specs.Live.{Waits}
use Rattle.hart_step.proofs.Engines.{engine_waits}
use Rattle.hart_step.proofs.Waiting.{ready_absent, sleep_waits}
use Rattle.hart_step.proofs.engine.Engine.sleep.Goals as goal

pub enqueue-requires-clause-absent : goal.enqueue-requires-clause-absent
enqueue-requires-clause-absent c =
    let can = subst (λ (v : Live). is_ready_at v.state c.args.hart ≡ true) (sym c.self.view_is) c.requires.ready in
    ready_absent c.self.inside.queue c.self.inside.slots c.args.hart can c.self.invariant.waits

pub invariant_of-self : goal.invariant_of-self
invariant_of-self c =
    let can = subst (λ (v : Live). is_ready_at v.state c.args.hart ≡ true) (sym c.self.view_is) c.requires.ready in
    engine_waits _ _ c.self.invariant
    (subst (λ (slots : List Slot). Waits c.enqueue.new.self (map hart_of slots)) (sym c.wait.ensures.value)
    (subst (λ (left : List Waiter). Waits left (map hart_of (changed (on_hart (asleep c.args.place)) c.args.hart c.self.inside.slots))) (sym c.enqueue.ensures.value) (sleep_waits c.self.inside.queue c.self.inside.slots c.args.hart c.args.place can c.self.invariant.waits)))
