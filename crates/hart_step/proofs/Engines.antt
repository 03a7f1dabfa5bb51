-- What the executable state keeps, where a part of it changes.
use Rattle.std.proofs.Common.{◌≡◌, ◌≢◌, ℕ, ◌+◌, ◌-◌, ◌*◌, ◌/◌, ◌%◌, inl, inr, ◌<◌, ◌≤◌, Bool, true, false, ◌==◌, List, map, ap, sym, ◌∙◌, subst, arith}
use Rattle.std.proofs.lemmas.Bool.Decides.{leb_tells, nat_tests}
use Rattle.guest_words.specs.declared.hart.Slot.{Slot}
use Rattle.guest_words.specs.declared.hart.Waiter.{Waiter}
use Rattle.guest_words.specs.declared.record.Record.{Record}
use Rattle.guest_words.specs.Endings.{is_budget_spent}
use Rattle.guest_words.specs.State.{State}
use Rattle.guest_words.specs.Space.{Space, page_up, with_zeros, without}
use Rattle.guest_memory.proofs.Ranges.{free_after_loss, heap_grown, heap_shrunk, page_up-ascends, page_up-within, without_none, zeros_none}
use Rattle.guest_pages.specs.Stretch.{IsFree}
use Rattle.guest_words.specs.CallChanges.{heap_rights}
use Rattle.hart_step.specs.SlotActs.{fitted}
use Rattle.guest_memory.specs.Kept.{AddressSpace}
use Rattle.hart_slots.specs.Rejoined.{hart_of}
use Rattle.hart_step.specs.Ground.{Ground}
use Rattle.hart_step.specs.Inside.{IsEngine}
use Rattle.hart_step.specs.Live.{IsHeapClear, Waits}
use Rattle.hart_step.proofs.Waiting.{StaysWaiting, waits_kept}

module _ {memory : AddressSpace} {slots : List Slot} {waiting : List Waiter} {tid steps budget : ℕ} {records : List Record} {ports bytes : ℕ} {closed : List Bool} where
  -- other harts, and a waiting list that fits them
  pub engine_waits : (after : List Slot) (left : List Waiter) → IsEngine memory slots waiting tid steps budget records ports bytes closed → Waits left (map hart_of after)
      → IsEngine memory after left tid steps budget records ports bytes closed
  engine_waits after left is waits = record { heap = is.heap; waits = waits; tid = is.tid; within = is.within; most = is.most; sum = is.sum; shut = is.shut }

  -- harts of which those that wait go on waiting
  pub engine_slots : (after made : List Slot) → IsEngine memory slots waiting tid steps budget records ports bytes closed → after ≡ made → StaysWaiting slots made
      → IsEngine memory after waiting tid steps budget records ports bytes closed
  engine_slots after made is same stays =
      engine_waits after waiting is (subst (λ (new : List Slot). Waits waiting (map hart_of new)) (sym same) (waits_kept waiting slots made stays is.waits))

  -- memory whose heap is clear behind its break
  pub engine_memory : (after : AddressSpace) → IsEngine memory slots waiting tid steps budget records ports bytes closed → IsHeapClear after
      → IsEngine after slots waiting tid steps budget records ports bytes closed
  engine_memory after is clear = record { heap = clear; waits = is.waits; tid = is.tid; within = is.within; most = is.most; sum = is.sum; shut = is.shut }

  -- a step more
  pub engine_counted : IsEngine memory slots waiting tid steps budget records ports bytes closed → steps < budget → IsEngine memory slots waiting tid (steps + 1) budget records ports bytes closed
  engine_counted is left =
      let tid = is.tid in
      record { heap = is.heap; waits = is.waits; tid = omega (arith, tid); within = omega (arith, left); most = is.most; sum = is.sum; shut = is.shut }

  -- and a hart more
  pub engine_born : IsEngine memory slots waiting tid steps budget records ports bytes closed → steps < budget → IsEngine memory slots waiting (tid + 1) (steps + 1) budget records ports bytes closed
  engine_born is left =
      let tid = is.tid in
      record { heap = is.heap; waits = is.waits; tid = omega (arith, tid); within = omega (arith, left); most = is.most; sum = is.sum; shut = is.shut }

-- a step is left where the budget isn't spent
pub left_steps : (s : State) → s.steps ≤ s.budget → is_budget_spent s ≡ false → s.steps < s.budget
left_steps s within fresh =
    let apart : s.steps ≢ s.budget = λ same. let spent : (s.steps == s.budget) ≡ true = grind (arith, nat_tests, same) in cc in
    omega (arith, within, apart)

-- the heap lies below the area of mapped pages
pub heap_below : (low brk from : ℕ) → low % 4096 ≡ 0 → low ≤ 0x3f00000000 → brk ≤ low + 67108864 → 0x3f80000000 ≤ from → page_up brk + (low + 67108864 - page_up brk) ≤ from
heap_below low brk from whole below upto place =
    let end : (low + 67108864) % 4096 ≡ 0 = omega (arith, whole) in
    let top : page_up brk ≤ low + 67108864 = page_up-within brk (low + 67108864) upto end in
    joined (page_up brk) low from top below place
  where
    joined : (up low from : ℕ) → up ≤ low + 67108864 → low ≤ 0x3f00000000 → 0x3f80000000 ≤ from → up + (low + 67108864 - up) ≤ from
    joined up low from top below place = omega (arith, top, below, place)

-- where the break moves, the heap is clear behind it
pub heap_fitted : (memory : AddressSpace) (to spare : ℕ) → IsHeapClear memory → IsHeapClear (record memory { space = fitted memory.space (page_up memory.brk) (page_up to); brk = to; spare = spare })
heap_fitted memory to spare clear =
    let m = memory.space in
    let brk = memory.brk in
    let end = memory.low + 67108864 in
    elim (leb_tells brk to) [
      | inl up ↦
          free_after_loss (with_zeros m (page_up brk) (page_up to - page_up brk) heap_rights) (page_up to) (end - page_up to) (page_up to) (page_up brk - page_up to)
          (heap_grown m brk to end heap_rights clear up.1)
      | inr down ↦
          let less = down.1 in
          let lower = page_up-ascends to brk (omega (arith, less)) in
          let none : page_up to - page_up brk ≡ 0 = omega (arith, lower) in
          let same : with_zeros m (page_up brk) (page_up to - page_up brk) heap_rights ≡ m = ap (λ n. with_zeros m (page_up brk) n heap_rights) none ∙ zeros_none m (page_up brk) heap_rights in
          subst (λ (n : Space). IsFree (without n (page_up to) (page_up brk - page_up to)) (page_up to) (end - page_up to)) (sym same) (heap_shrunk m brk to end clear (omega (arith, less)))
    ]

-- memory that grows loses nothing, and memory that shrinks gains nothing

pub fitted_up : (m : Space) (old new : ℕ) → old ≤ new → fitted m old new ≡ with_zeros m old (new - old) heap_rights
fitted_up m old new up =
    let none : old - new ≡ 0 = omega (arith, up) in
    ap (without (with_zeros m old (new - old) heap_rights) new) none ∙ without_none (with_zeros m old (new - old) heap_rights) new

pub fitted_down : (m : Space) (old new : ℕ) → new ≤ old → fitted m old new ≡ without m new (old - new)
fitted_down m old new down =
    let none : new - old ≡ 0 = omega (arith, down) in
    ap (λ n. without n new (old - new)) (ap (λ n. with_zeros m old n heap_rights) none ∙ zeros_none m old heap_rights)

pub fitted_same : (m : Space) (old new : ℕ) → old ≡ new → fitted m old new ≡ m
fitted_same m old new same =
    let none : old - new ≡ 0 = omega (arith, same) in
    fitted_down m old new (omega (arith, same)) ∙ ap (without m new) none ∙ without_none m new

pub whole_pages : (n : ℕ) → n % 4096 ≡ 0 → 4096 * (n / 4096) ≡ n
whole_pages n whole = omega (arith, whole)

-- memory with another space has as much room as before
pub kept_spare : (new old : Ground) (space : Space) → new ≡ record old { memory = record old.memory { space = space } }
    → new ≡ record old { memory = record old.memory { space = space; spare = new.memory.spare } }
kept_spare new old space is =
    is ∙ ap (λ (k : ℕ). record old { memory = record old.memory { space = space; spare = k } }) (sym (ap (λ (g : Ground). g.memory.spare) is))
