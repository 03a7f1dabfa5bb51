use Rattle.std.proofs.Common.{◌≡◌, ◌<◌, ◌≤◌, ℕ, true, false, length, ap, sym, ◌∙◌, arith, slice_get}
use Rattle.run_history.specs.Legal.{is_ready_slot}
use Rattle.lone_schedule.proofs.ReadySlots.{ready_here, ready_past, ready_none}
use Rattle.lone_schedule.proofs.choice.count_ready.Goals as goal
use Rattle.lone_schedule.proofs.choice.count_ready.Goals.{then-is_ready, else-is_ready}

pub loop-hart-preserved : goal.loop-hart-preserved
loop-hart-preserved g c =
    let slots = c.args.machine.now.state.slots in
    let h = c.loop-hart.hart in
    let before = c.loop-hart-test.true in
    let few = c.used-hart-end.ensures.within in
    let less : h < length slots = omega (arith, before, few) in
    let counts = c.loop-hart.invariant.counts in
    let within = c.loop-hart.invariant.within in
    elim c.if-is_ready.branch [
      | then-is_ready w ↦
          let is : is_ready_slot (slice_get slots h) ≡ true = sym c.is_ready.ensures.value ∙ w.if-is_ready.true in
          let all = ap length (ready_here slots h less is) in
          let more = w.count-is in
          record { counts = omega (arith, all, counts, more); within = omega (arith, within, more) }
      | else-is_ready w ↦
          let is : is_ready_slot (slice_get slots h) ≡ false = sym c.is_ready.ensures.value ∙ w.if-is_ready.false in
          let all = ap length (ready_past slots h less is) in
          let more = w.count-is in
          record { counts = omega (arith, all, counts, more); within = omega (arith, within, more) }
    ]

pub returns : goal.returns
returns g c =
    let slots = c.args.machine.now.state.slots in
    let h = c.loop-hart.hart in
    let below = c.loop-hart-test.false in
    let end = c.loop-hart.auto.hart-end in
    let idle : (j : ℕ) → h ≤ j → is_ready_slot (slice_get slots j) ≡ false = λ j behind. c.used-hart-end.ensures.idle j (omega (arith, behind, below, end)) in
    let none = ap length (ready_none slots h h idle) in
    let counts = c.loop-hart.invariant.counts in
    record { value = omega (arith, none, counts) }
