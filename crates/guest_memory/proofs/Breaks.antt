-- Where the heap begins.
use Rattle.std.proofs.Common.{◌≡◌, ℕ, zero, suc, ◌+◌, ◌-◌, ◌/◌, ◌%◌, ◌<◌, ◌≤◌, ◌||◌, Bool, true, false, cond, List, [], ◌∷◌, Some, None, refl, sym, ap, ◌∙◌, arith, lit≤, if◌then◌else◌, inl, inr}
use Rattle.std.proofs.lemmas.Bool.Decides.{nat_tests, leb_tells, eqb_tells}
use Rattle.std.specs.List.{All, find, range_with_len}
use Rattle.guest_words.specs.declared.image.Load.{Load}
use Rattle.guest_words.specs.Image.{IsLoad, contains}
use Rattle.guest_words.specs.Space.{has_right}
use Rattle.guest_words.specs.Start.{is_in_pages, is_in_stack, loaded_cell, low_break, memory_of, stack_cell}
use Rattle.guest_words.proofs.StartMemory.{get-memory_of, get-memory_of_past}
use Rattle.guest_pages.specs.Stretch.{IsFree}
use Rattle.guest_memory.specs.Kept.{IsHeap}
use Rattle.guest_memory.specs.Text.{IsTextBelow}

low_aligned : (loads : List Load) → low_break loads % 4096 ≡ 0
low_aligned [] = refl
low_aligned (load ∷ loads) = let rest = low_aligned loads in omega (arith, rest)

low_within : (loads : List Load) → All IsLoad loads → low_break loads ≤ 0x3f00000000
low_within [] each = lit≤ tt
low_within (load ∷ loads) each =
    let is = each 0 load (omega arith) in
    let high = is.high in
    let rest = low_within loads (λ k d below. each (suc k) d (omega arith)) in
    omega (arith, high, rest)

pub heap-low_break : (loads : List Load) → All IsLoad loads → IsHeap (low_break loads) (low_break loads)
heap-low_break loads each = record {
  aligned = low_aligned loads;
  below = low_within loads each;
  from = omega arith;
  upto = omega arith;
}

-- a number of a range lies below its end
in_range : (n a p : ℕ) → contains (range_with_len a n) p ≡ true → p < a + n
in_range zero a p is = cc
in_range (suc n) a p is =
    elim (eqb_tells a p) [
      | inl same ↦ let e = same.1 in omega (arith, e)
      | inr other ↦
          let rest = in_range n (a + 1) p (sym (ap (λ b. b || contains (range_with_len (a + 1) n) p) other.0) ∙ is) in
          omega (arith, rest)
    ]

-- a page of a load lies below the low break
loaded_below : (all loads : List Load) (a : ℕ) → All IsLoad loads → has_right (λ rights. rights.exec) (loaded_cell all a (find (is_in_pages a) loads)) ≡ true → a < low_break loads
loaded_below all [] a each exec = cc
loaded_below all (load ∷ loads) a each exec =
    elim (is_in_pages a load) as (λ b. is_in_pages a load ≡ b → has_right (λ rights. rights.exec) (loaded_cell all a (cond b (Some load) (find (is_in_pages a) loads))) ≡ true → a < low_break (load ∷ loads)) [
      | true ↦ λ inside _.
          let some = (each 0 load (omega arith)).filled in
          let page = in_range ((load.address + load.size - 1) / 4096 + 1 - load.address / 4096) (load.address / 4096) (a / 4096) inside in
          omega (arith, page, some)
      | false ↦ λ _ exec.
          let rest = loaded_below all loads a (λ k d below. each (suc k) d (omega arith)) exec in
          omega (arith, rest)
    ] refl exec

cell_below : (loads : List Load) (a : ℕ) (b : Bool) → All IsLoad loads → has_right (λ rights. rights.exec) (if b then Some stack_cell else loaded_cell loads a (find (is_in_pages a) loads)) ≡ true → a < low_break loads
cell_below loads a true each exec = cc
cell_below loads a false each exec = loaded_below loads loads a each exec

-- nothing from the low break on may be executed
pub text_below : (loads : List Load) → All IsLoad loads → IsTextBelow (memory_of loads) (low_break loads)
text_below loads each a exec =
    elim (leb_tells 0x4000000000 a) [
      | inr below ↦ cell_below loads a (is_in_stack a) each (ap (has_right (λ rights. rights.exec)) (sym (get-memory_of loads a below.1)) ∙ exec)
      | inl past ↦ let never = sym (ap (has_right (λ rights. rights.exec)) (get-memory_of_past loads a past.1)) ∙ exec in cc
    ]

-- no load has a page from the low break on
loaded_none : (loads : List Load) (a : ℕ) → All IsLoad loads → low_break loads ≤ a → find (is_in_pages a) loads ≡ None
loaded_none [] a each past = refl
loaded_none (load ∷ loads) a each past =
    elim (is_in_pages a load) as (λ b. is_in_pages a load ≡ b → cond b (Some load) (find (is_in_pages a) loads) ≡ None) [
      | true ↦ λ inside.
          let some = (each 0 load (omega arith)).filled in
          let page = in_range ((load.address + load.size - 1) / 4096 + 1 - load.address / 4096) (load.address / 4096) (a / 4096) inside in
          absurd (omega (arith, page, some, past))
      | false ↦ λ _. loaded_none loads a (λ k d below. each (suc k) d (omega arith)) (omega (arith, past))
    ] refl

-- no page of the heap is there at the start
pub heap_gap : (loads : List Load) → All IsLoad loads → IsFree (memory_of loads) (low_break loads) 0x4000000
heap_gap loads each a low high =
    let end = low_within loads each in
    let out : is_in_stack a ≡ false = grind (arith, nat_tests, end, high) in
    get-memory_of loads a (omega (arith, end, high))
    ∙ ap (λ b. if b then Some stack_cell else loaded_cell loads a (find (is_in_pages a) loads)) out
    ∙ ap (loaded_cell loads a) (loaded_none loads a each low)
