-- At the start of a program that was accepted its text is safe.
use Rattle.std.proofs.Common.{◌≡◌, ℕ, ◌+◌, ◌-◌, ◌*◌, ◌/◌, ◌<◌, ◌≤◌, ◌&&◌, Bool, true, false, if◌then◌else◌, cond, List, [], ◌∷◌, Option, Some, refl, sym, subst, find, inl, inr, arith, lit≤}
use Rattle.std.proofs.lemmas.Bool.Decides.{leb_tells}
use Rattle.std.proofs.lemmas.List.Elements.{All-head, All-tail}
use Rattle.std.specs.FinMap.{get}
use Rattle.std.specs.List.{All}
use Rattle.guest_words.specs.declared.image.Cell.{Cell}
use Rattle.guest_words.specs.declared.image.Load.{Load}
use Rattle.guest_words.specs.Image.{IsLoad}
use Rattle.guest_words.specs.Start.{cell_at, is_in_pages, is_in_stack, loaded_cell, low_break, memory_of, stack_cell}
use Rattle.guest_words.proofs.PageLaws.{contains-range}
use Rattle.guest_words.proofs.StartMemory.{get-memory_of, get-memory_of_past}
use Rattle.text_laws.specs.Texts.{StartIsTextSafe, executes, writes}

-- a byte that can be written can't be executed, and one that can be executed lies below the heap
abbrev IsSafe : List Load → ℕ → Option Cell → Type 0
IsSafe loads a o = (writes o ≡ true → executes o ≡ false) × (executes o ≡ true → a < low_break loads)

sealed_apart : (b c : Bool) → (b && c) ≡ false → b ≡ true → c ≡ false
sealed_apart true c is e = is
sealed_apart false c is e = cc

-- a byte in a page of a load lies below the first page behind it
in_pages : (a : ℕ) (load : Load) → 0 < load.size → is_in_pages a load ≡ true → a < (load.address + load.size + 4095) / 4096 * 4096
in_pages a load some is =
    let first = load.address / 4096 in
    let page = ((contains-range first ((load.address + load.size - 1) / 4096 + 1 - first) (a / 4096)).0 is).1 in
    omega (arith, page, some)

loaded_safe : (all loads : List Load) (a : ℕ) → All IsLoad loads → IsSafe loads a (loaded_cell all a (find (is_in_pages a) loads))
loaded_safe all [] a each = (λ may. refl, λ may. cc)
loaded_safe all (load ∷ loads) a each =
    by (is_in_pages a load) refl (All-head IsLoad load loads each) (loaded_safe all loads a (All-tail IsLoad load loads each))
  where
    by : (b : Bool) → is_in_pages a load ≡ b → IsLoad load → IsSafe loads a (loaded_cell all a (find (is_in_pages a) loads))
        → IsSafe (load ∷ loads) a (loaded_cell all a (cond b (Some load) (find (is_in_pages a) loads)))
    by true inside is rest = (
      sealed_apart load.rights.write load.rights.exec is.sealed,
      λ may. let below = in_pages a load is.filled inside in omega (arith, below),
    )
    by false outside is rest = (rest.0, λ may. let below = rest.1 may in omega (arith, below))

cell_safe : (loads : List Load) (a : ℕ) → All IsLoad loads → IsSafe loads a (cell_at loads a)
cell_safe loads a each = by (is_in_stack a)
  where
    by : (b : Bool) → IsSafe loads a (if b then Some stack_cell else loaded_cell loads a (find (is_in_pages a) loads))
    by true = (λ may. refl, λ may. cc)
    by false = loaded_safe loads loads a each

memory_safe : (loads : List Load) (a : ℕ) → All IsLoad loads → IsSafe loads a (get (memory_of loads) a)
memory_safe loads a each = elim (leb_tells 0x4000000000 a) [
  | inr below ↦ subst (IsSafe loads a) (sym (get-memory_of loads a below.1)) (cell_safe loads a each)
  | inl past ↦ subst (IsSafe loads a) (sym (get-memory_of_past loads a past.1)) (λ may. refl, λ may. cc)
]

-- the loads end below the area of mapped pages
low_within : (loads : List Load) → All IsLoad loads → low_break loads ≤ 0x3f80000000
low_within [] each = lit≤ tt
low_within (load ∷ loads) each =
    let high = (All-head IsLoad load loads each).high in
    let rest = low_within loads (All-tail IsLoad load loads each) in
    omega (arith, high, rest)

pub start_is_text_safe : StartIsTextSafe
start_is_text_safe image points harts ports budget loads = record {
  apart = λ a. (memory_safe image.loads a loads.each).0;
  below = λ a. (memory_safe image.loads a loads.each).1;
  heap = omega arith;
  area = low_within image.loads loads.each;
}
