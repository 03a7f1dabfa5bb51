-- What instructions in a row leave of the executable state.
use Rattle.std.proofs.Common.{◌≡◌, ◌≢◌, ℕ, zero, suc, ◌+◌, ◌-◌, ◌<◌, ◌≤◌, Bool, true, false, List, length, get_or, set, map, slice_get, Some, None, option_map, refl, ap, sym, ◌∙◌, subst, arith, length-set, get_or-set_other, if◌then◌else◌}
use Rattle.std.proofs.lemmas.List.{map-set}
use Rattle.std.proofs.lemmas.Option.{get_or_from_slice_get, slice_get-map}
use Rattle.guest_words.specs.declared.act.Act.{Act}
use Rattle.guest_words.specs.declared.act.Act.TheVariants as act
use Rattle.guest_words.specs.declared.hart.Hart.{Hart}
use Rattle.guest_words.specs.declared.hart.HartState.TheVariants.{Waiting}
use Rattle.guest_words.specs.declared.hart.Slot.{Slot}
use Rattle.guest_words.specs.declared.hart.Waiter.{Waiter}
use Rattle.guest_words.specs.declared.limits.TheConstants.{HEAP_BYTES}
use Rattle.guest_words.specs.declared.point.Point.{Point}
use Rattle.guest_words.specs.Endings.{is_budget_spent}
use Rattle.guest_words.specs.Harts.{is_ready}
use Rattle.guest_words.specs.Space.{page_up}
use Rattle.guest_words.specs.State.{State, changed, closed, frames_at, on_hart}
use Rattle.guest_words.specs.Widths.{bytes_in}
use Rattle.guest_atomics.specs.Free.{IsFreeBut}
use Rattle.guest_memory.specs.Kept.{AddressSpace}
use Rattle.guest_memory.proofs.Ranges.{free_after_number}
use Rattle.hart_slots.specs.Rejoined.{hart_of}
use Rattle.run_history.specs.Legal.{is_ready_at, is_ready_slot}
use Rattle.hart_step.specs.InARow.{Lone, act_at, after_acts, lone}
use Rattle.hart_step.specs.InPlace.{memory_after}
use Rattle.hart_step.specs.declared.did.Did.{Did}
use Rattle.hart_step.specs.Legs.{did_at, HasRun, IsLeg}
use Rattle.hart_step.specs.Live.{IsHeapClear, Waits, WaitsAt}
use Rattle.hart_step.proofs.Rows.{changed_is, closed_standing, in_row, leg_row, row_closed, row_did, row_end, row_end_is, row_open, standing}

-- stores leave the heap as it is, and the breaks

pub record KeepsHeap (old new : AddressSpace) : Type 0 where
  pub low : new.low ≡ old.low
  pub brk : new.brk ≡ old.brk
  pub clear : IsHeapClear old → IsHeapClear new

heap_same : (memory : AddressSpace) → KeepsHeap memory memory
heap_same memory = record { low = refl; brk = refl; clear = λ clear. clear }

heap_after : (act : Act) (memory : AddressSpace) → KeepsHeap memory (memory_after act memory)
heap_after (act.Next hart None) memory = heap_same memory
heap_after (act.Next hart (Some write)) memory =
    let from = page_up memory.brk in
    record { low = refl; brk = refl; clear = λ clear. free_after_number memory.space from (memory.low + HEAP_BYTES - from) write.address (bytes_in write.width) write.value clear }
heap_after (act.Fault name) memory = heap_same memory
heap_after (act.Call call) memory = heap_same memory
heap_after (act.Arrived point) memory = heap_same memory

pub heap_after_acts : (points : List Point) (frames n : ℕ) (start : Lone) → KeepsHeap start.memory (after_acts points frames n start).memory
unfolding after_acts
heap_after_acts points frames zero start = heap_same start.memory
heap_after_acts points frames (suc n) start =
    let l = after_acts points frames n start in
    let before = heap_after_acts points frames n start in
    let step = heap_after (act_at points frames l) l.memory in
    record { low = step.low ∙ before.low; brk = step.brk ∙ before.brk; clear = λ clear. step.clear (before.clear clear) }

-- a ready hart is no waiter's

waiter_apart : (harts : List Hart) (h : ℕ) (x : Hart) (waiter : Waiter) → slice_get harts h ≡ Some x → is_ready x.state ≡ true → WaitsAt waiter harts → waiter.slot ≢ h
waiter_apart harts h x waiter at ready waits same =
    let waiting : x.state ≡ Waiting waiter.place =
    ap (λ (y : Hart). y.state) (sym (get_or_from_slice_get harts h x x at)) ∙ ap (λ k. (get_or harts k x).state) (sym same) ∙ (waits x).1 in
    let never : false ≡ true = ap is_ready (sym waiting) ∙ ready in
    cc never

pub waits_set : (harts : List Hart) (h : ℕ) (x y : Hart) (waiting : List Waiter) → slice_get harts h ≡ Some x → is_ready x.state ≡ true → Waits waiting harts → Waits waiting (set harts h y)
waits_set harts h x y waiting at ready waits = λ k d less. by (get_or waiting k d) (waits k d less)
  where
    by : (waiter : Waiter) → WaitsAt waiter harts → WaitsAt waiter (set harts h y)
    by waiter old = λ d.
        let apart = waiter_apart harts h x waiter at ready old in
        let within = (old d).0 in
        let long = length-set harts h y in (
          omega (arith, within, long),
          ap (λ (z : Hart). z.state) (get_or-set_other harts h waiter.slot y d apart) ∙ (old d).1,
        )

pub waits_after : (slots : List Slot) (h : ℕ) (slot new : Slot) (waiting : List Waiter) → slice_get slots h ≡ Some slot → is_ready slot.hart.state ≡ true → Waits waiting (map hart_of slots)
    → Waits waiting (map hart_of (set slots h new))
waits_after slots h slot new waiting at ready waits =
    subst (λ harts. Waits waiting harts) (sym (map-set hart_of slots h new))
    (waits_set (map hart_of slots) h slot.hart new.hart waiting (slice_get-map hart_of slots h ∙ ap (option_map hart_of) at) ready waits)

-- what a row of instructions leaves
pub record Hurried (noted : Bool) (s : State) (h n most : ℕ) (done : Bool) (did : Did) (old after : AddressSpace) (new : State) : Type 0 where
  pub leg : IsLeg noted s new h n
  pub stays : done ≡ false → frames_at new h ≡ frames_at s h
  pub over : done ≡ true → frames_at new h < frames_at s h
  pub stops : done ≡ false → n < most → did_at new h ≡ Some did
  pub heap : IsHeapClear old → IsHeapClear after
  pub waits : Waits s.waiting (map hart_of s.slots) → Waits s.waiting (map hart_of new.slots)

module _ (s : State) (h n : ℕ) (old new : AddressSpace) (mid : List Slot) where
  -- the slots behind a row whose last act closes the top frame, or doesn't
  abbrev pub last_slots : Bool → List Slot
  last_slots done = if done then changed closed h mid else mid

  abbrev pub after_row : List Slot → List Point → ℕ → State
  after_row last points k = record s { memory = new.space; low = new.low; brk = new.brk; slots = last; points = points; steps = s.steps + k }

  waits_row : (slot : Slot) (hart : Hart) (done : Bool) → slice_get s.slots h ≡ Some slot → is_ready slot.hart.state ≡ true → mid ≡ set s.slots h (standing slot hart)
      → Waits s.waiting (map hart_of s.slots) → Waits s.waiting (map hart_of (last_slots done))
  waits_row slot hart true at own put waits =
      subst (λ slots. Waits s.waiting (map hart_of slots)) (sym (ap (changed closed h) put ∙ closed_standing s h slot at hart)) (waits_after s.slots h slot (closed (standing slot hart)) s.waiting at own waits)
  waits_row slot hart false at own put waits = subst (λ slots. Waits s.waiting (map hart_of slots)) (sym put) (waits_after s.slots h slot (standing slot hart) s.waiting at own waits)

  pub hurried : (noted done : Bool) (did : Did) (last : List Slot) (points : List Point) (k most : ℕ) → old.space ≡ s.memory → old.low ≡ s.low → old.brk ≡ s.brk → is_ready_at s h ≡ true → is_budget_spent s ≡ false
      → IsFreeBut h (map hart_of s.slots) → s.steps + n ≤ s.budget → HasRun s.points h s.slots mid old new n most done did → last ≡ last_slots done → points ≡ s.points → k ≡ n
      → Hurried noted s h n most done did old new (after_row last points k)
  unfolding in_row row_end
  hurried noted done did last points k most memory low brk ready left free within run lasts same_points count =
      let slot = run.slot in
      let at = run.at in
      let start = lone slot.hart old in
      let end = lone run.end new in
      let own : is_ready slot.hart.state ≡ true = ap is_ready_slot (sym at) ∙ ready in
      let kept = heap_after_acts s.points (length slot.frames) n start in
      let memory_is : new ≡ (after_acts s.points (length slot.frames) n start).memory = ap (λ (l : Lone). l.memory) run.row.after in
      let lows : new.low ≡ s.low = ap (λ (m : AddressSpace). m.low) memory_is ∙ kept.low ∙ low in
      let breaks : new.brk ≡ s.brk = ap (λ (m : AddressSpace). m.brk) memory_is ∙ kept.brk ∙ brk in
      let put : mid ≡ set s.slots h (standing slot run.end) = run.slots ∙ changed_is (on_hart (λ before. run.end)) h s.slots slot at in
      let steps : s.steps + k ≡ s.steps + n = ap (λ j. s.steps + j) count in
      let slots : last ≡ (if done then changed closed h (set s.slots h (standing slot run.end)) else set s.slots h (standing slot run.end)) = lasts ∙ ap (λ m. if done then changed closed h m else m) put in
      let there : after_row last points k ≡ row_end s h slot at free start refl memory own left end n done =
      (λ i. record s { memory = new.space; low = lows i; brk = breaks i; slots = slots i; points = same_points i; steps = steps i }) ∙ sym (row_end_is s h slot at free start refl memory own left end n done) in
      record {
        leg = subst (λ (t : State). IsLeg noted s t h n) (sym there) (leg_row s h slot at free start refl memory own left noted end n done within run.row);
        stays = λ is. ap (λ (t : State). frames_at t h) (there ∙ ap (row_end s h slot at free start refl memory own left end n) is) ∙ row_open s h slot at free start refl memory own left end n;
        over = λ is.
            subst (λ (t : State). frames_at t h < frames_at s h) (sym (there ∙ ap (row_end s h slot at free start refl memory own left end n) is))
            (row_closed s h slot at free start refl memory own left end n ((run.row.closes is).over));
        stops = λ is more.
            ap (λ (t : State). did_at t h) (there ∙ ap (row_end s h slot at free start refl memory own left end n) is) ∙ row_did s h slot at free start refl memory own left end n ∙ ap Some (sym (run.stops is more));
        heap = λ clear. subst IsHeapClear (sym memory_is) (kept.clear clear);
        waits = λ waits. subst (λ slots. Waits s.waiting (map hart_of slots)) (sym lasts) (waits_row slot run.end done at own put waits);
      }
