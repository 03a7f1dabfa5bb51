use Rattle.std.proofs.Common.{◌≡◌, ◌≤◌, ℕ, false, sym, ◌∙◌, arith, slice_get}
use Rattle.run_history.specs.Legal.{is_ready_slot}
use Rattle.lone_schedule.proofs.ReadySlots.{alone_idle, alone_ready}
use Rattle.lone_schedule.proofs.choice.choose.Goals as goal

pub returns-then-is_ready : goal.returns-then-is_ready
returns-then-is_ready g c =
    let slots = c.args.machine.now.state.slots in
    let few = c.if-used-le1.true in
    let idle : (j : ℕ) → 1 ≤ j → is_ready_slot (slice_get slots j) ≡ false = λ j behind. c.used.ensures.idle j (omega (arith, behind, few)) in
    record { value = sym (alone_ready slots c.args.word idle (sym c.is_ready.ensures.value ∙ c.if-is_ready.true)) }

pub returns-else-is_ready : goal.returns-else-is_ready
returns-else-is_ready g c =
    let slots = c.args.machine.now.state.slots in
    let few = c.if-used-le1.true in
    let idle : (j : ℕ) → 1 ≤ j → is_ready_slot (slice_get slots j) ≡ false = λ j behind. c.used.ensures.idle j (omega (arith, behind, few)) in
    record { value = sym (alone_idle slots c.args.word idle (sym c.is_ready.ensures.value ∙ c.if-is_ready.false)) }
