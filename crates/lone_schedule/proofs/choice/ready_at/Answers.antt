use Rattle.std.proofs.Common.{◌≡◌, ◌<◌, ◌≤◌, ℕ, true, false, ◌∷◌, length, ap, sym, ◌∙◌, arith, slice_get}
use Rattle.run_history.specs.Legal.{is_ready_slot}
use Rattle.lone_schedule.proofs.ReadySlots.{ready_here, ready_past, ready_none, get_later}
use Rattle.lone_schedule.proofs.choice.ready_at.Goals as goal
use Rattle.lone_schedule.proofs.choice.ready_at.Goals.{then-is_ready+else-left-eq0, else-is_ready}

pub returns-then-left-eq0 : goal.returns-then-left-eq0
returns-then-left-eq0 g c =
    let slots = c.args.machine.now.state.slots in
    let h = c.loop-hart.hart in
    let before = c.loop-hart-test.true in
    let few = c.used-hart-end.ensures.within in
    let less : h < length slots = omega (arith, before, few) in
    let is : is_ready_slot (slice_get slots h) ≡ true = sym c.is_ready.ensures.value ∙ c.if-is_ready.true in
    record {
      value = sym (ap (slice_get (h ∷ _)) c.if-left-eq0.true) ∙ sym (ap (λ xs. slice_get xs c.loop-hart.left) (ready_here slots h less is)) ∙ c.loop-hart.invariant;
    }

pub loop-hart-preserved : goal.loop-hart-preserved
loop-hart-preserved g c =
    let slots = c.args.machine.now.state.slots in
    let h = c.loop-hart.hart in
    let left = c.loop-hart.left in
    let before = c.loop-hart-test.true in
    let few = c.used-hart-end.ensures.within in
    let less : h < length slots = omega (arith, before, few) in
    elim c.if-is_ready.branch [
      | then-is_ready+else-left-eq0 w ↦
          let is : is_ready_slot (slice_get slots h) ≡ true = sym c.is_ready.ensures.value ∙ w.if-is_ready.true in
          ap (slice_get _) w.left-is ∙ sym (get_later h left _ w.if-left-eq0.false)
          ∙ sym (ap (λ xs. slice_get xs left) (ready_here slots h less is)) ∙ c.loop-hart.invariant
      | else-is_ready w ↦
          let is : is_ready_slot (slice_get slots h) ≡ false = sym c.is_ready.ensures.value ∙ w.if-is_ready.false in
          ap (slice_get _) w.left-is ∙ sym (ap (λ xs. slice_get xs left) (ready_past slots h less is)) ∙ c.loop-hart.invariant
    ]

pub returns : goal.returns
returns g c =
    let slots = c.args.machine.now.state.slots in
    let h = c.loop-hart.hart in
    let below = c.loop-hart-test.false in
    let end = c.loop-hart.auto.hart-end in
    let idle : (j : ℕ) → h ≤ j → is_ready_slot (slice_get slots j) ≡ false = λ j behind. c.used-hart-end.ensures.idle j (omega (arith, behind, below, end)) in
    record { value = sym (ap (λ xs. slice_get xs c.loop-hart.left) (ready_none slots h h idle)) ∙ c.loop-hart.invariant }
