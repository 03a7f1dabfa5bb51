use Rattle.std.proofs.Common.{List, map, subst, sym}
use Rattle.guest_words.specs.declared.hart.Slot.{Slot}
use Rattle.guest_words.specs.declared.hart.Waiter.{Waiter}
use Rattle.guest_words.specs.CallChanges.{readied, woken}
use Rattle.hart_slots.specs.Rejoined.{hart_of}
use Rattle.hart_step.specs.Live.{Waits}
use Rattle.hart_step.proofs.Engines.{engine_waits}
use Rattle.hart_step.proofs.Waiting.{rouse_waits}
use Rattle.hart_step.proofs.engine.Engine.rouse.Goals as goal

pub invariant_of-self : goal.invariant_of-self
invariant_of-self c =
    let before = c.self.inside.queue in
    let place = c.args.place in
    let most = c.args.most in
    let woke = c.wake.ensures.value (woken place most before) c.wake-woken.ensures.slots in
    engine_waits _ _ c.self.invariant
    (subst (λ (slots : List Slot). Waits c.wake-woken.new.self (map hart_of slots)) (sym woke)
    (subst (λ (left : List Waiter). Waits left (map hart_of (readied (woken place most before) c.self.inside.slots))) (sym c.wake-woken.ensures.rest) (rouse_waits place most before c.self.inside.slots c.wake-woken.ensures.own c.self.invariant.waits)))
