-- The flags of the slots that are woken so far, and of those that will be.
use Rattle.std.proofs.Common.{◌≡◌, ◌<◌, ◌+◌, ◌-◌, ℕ, zero, suc, Bool, true, false, ◌||◌, List, ◌∷◌, length, get_or, set, drop, nat_eq, inl, inr, refl, ap, sym, ◌∙◌, get_or-set_same, get_or-set_other, replicate, ◌≤◌, arith}
use Rattle.std.proofs.lemmas.Bool.Decides.{eqb_tells}
use Rattle.std.proofs.Math.Seq.{drop-cons}
use Rattle.std.proofs.Math.ListN.{drop_of_length-le}
use Rattle.guest_words.specs.declared.hart.Waiter.{Waiter}
use Rattle.guest_words.specs.CallChanges.{waits_at, woken}
use Rattle.futex_table.specs.Slots.{has_slot}
use Rattle.futex_table.proofs.OneWaiter.{woken-wakes, woken-passes, woken-none}

-- the slot is flagged, or will be
abbrev pub is_marked : List Bool → ℕ → List Waiter → Bool
is_marked flags slot coming = get_or flags slot false || has_slot slot coming

or-comm-true : (a b : Bool) → (true || b) ≡ (a || (true || b))
or-comm-true true b = refl
or-comm-true false b = refl

pub set-flag : (flags : List Bool) (k slot : ℕ) (b : Bool) → k < length flags
    → (get_or (set flags k true) slot false || b) ≡ (get_or flags slot false || (nat_eq slot k || b))
set-flag flags k slot b within =
    elim (eqb_tells slot k) [
      | inl same ↦
          ap (λ n. get_or (set flags k true) n false || b) same.1
          ∙ ap (λ v. v || b) (get_or-set_same flags k true false within)
          ∙ or-comm-true (get_or flags slot false) b
          ∙ ap (λ v. get_or flags slot false || (v || b)) (sym same.0)
      | inr apart ↦
          ap (λ v. v || b) (get_or-set_other flags k slot true false apart.1)
          ∙ ap (λ v. get_or flags slot false || (v || b)) (sym apart.0)
    ]

next : (waiters : List Waiter) (i : ℕ) (d : Waiter) → i < length waiters → drop i waiters ≡ get_or waiters i d ∷ drop (i + 1) waiters
next waiters i d within =
    let one : suc i ≡ i + 1 = omega arith in
    drop-cons waiters i d within ∙ ap (λ n. get_or waiters i d ∷ drop n waiters) one

pub coming-wakes : (place left i : ℕ) (waiters : List Waiter) (d : Waiter) → i < length waiters
    → waits_at place (get_or waiters i d) ≡ true → 0 < left
    → woken place left (drop i waiters) ≡ get_or waiters i d ∷ woken place (left - 1) (drop (i + 1) waiters)
coming-wakes place left i waiters d within waits some =
    ap (woken place left) (next waiters i d within) ∙ woken-wakes place left _ _ waits some

pub coming-passes : (place left i : ℕ) (waiters : List Waiter) (d : Waiter) → i < length waiters
    → (waits_at place (get_or waiters i d) ≡ true → left ≡ 0)
    → woken place left (drop i waiters) ≡ woken place left (drop (i + 1) waiters)
coming-passes place left i waiters d within spent =
    ap (woken place left) (next waiters i d within) ∙ woken-passes place left _ _ spent

-- the step of a waiter that is woken, and of one that isn't
pub marks-wakes : (flags : List Bool) (slot place left i : ℕ) (waiters : List Waiter) (d : Waiter) (total : Bool) → i < length waiters
    → (get_or waiters i d).slot < length flags → waits_at place (get_or waiters i d) ≡ true → 0 < left
    → is_marked flags slot (woken place left (drop i waiters)) ≡ total
    → is_marked (set flags (get_or waiters i d).slot true) slot (woken place (left - 1) (drop (i + 1) waiters)) ≡ total
marks-wakes flags slot place left i waiters d total within fits waits some so_far =
    set-flag flags (get_or waiters i d).slot slot _ fits
    ∙ ap (λ ys. is_marked flags slot ys) (sym (coming-wakes place left i waiters d within waits some))
    ∙ so_far

pub marks-passes : (flags : List Bool) (slot place left i : ℕ) (waiters : List Waiter) (d : Waiter) (total : Bool) → i < length waiters
    → (waits_at place (get_or waiters i d) ≡ true → left ≡ 0)
    → is_marked flags slot (woken place left (drop i waiters)) ≡ total
    → is_marked flags slot (woken place left (drop (i + 1) waiters)) ≡ total
marks-passes flags slot place left i waiters d total within spent so_far =
    ap (λ ys. is_marked flags slot ys) (sym (coming-passes place left i waiters d within spent)) ∙ so_far

unmarked : (n slot : ℕ) → get_or (replicate n false) slot false ≡ false
unmarked zero slot = refl
unmarked (suc n) zero = refl
unmarked (suc n) (suc slot) = unmarked n slot

pub marks-none : (n slot : ℕ) (coming : List Waiter) → is_marked (replicate n false) slot coming ≡ has_slot slot coming
marks-none n slot coming = ap (λ v. v || has_slot slot coming) (unmarked n slot)

-- with none to come the flags say it all
or-false : (b : Bool) → (b || false) ≡ b
or-false true = refl
or-false false = refl

pub marks-all : (flags : List Bool) (slot place left : ℕ) (waiters : List Waiter) (i : ℕ) (total : Bool) → length waiters ≤ i
    → is_marked flags slot (woken place left (drop i waiters)) ≡ total → get_or flags slot false ≡ total
marks-all flags slot place left waiters i total ended so_far =
    sym (or-false (get_or flags slot false))
    ∙ ap (λ ys. is_marked flags slot ys)
    (sym (woken-none place left) ∙ ap (woken place left) (sym (drop_of_length-le waiters ended)))
    ∙ so_far

pub count-wakes : (place left most i total : ℕ) (waiters : List Waiter) (d : Waiter) → i < length waiters
    → waits_at place (get_or waiters i d) ≡ true → 0 < left → left ≤ most
    → (most - left) + length (woken place left (drop i waiters)) ≡ total
    → (most - (left - 1)) + length (woken place (left - 1) (drop (i + 1) waiters)) ≡ total
count-wakes place left most i total waiters d within waits some fewer so_far =
    let one : length (woken place left (drop i waiters)) ≡ suc (length (woken place (left - 1) (drop (i + 1) waiters))) =
    ap length (coming-wakes place left i waiters d within waits some) in
    omega arith

pub count-all : (place left most i total : ℕ) (waiters : List Waiter) → length waiters ≤ i
    → (most - left) + length (woken place left (drop i waiters)) ≡ total → most - left ≡ total
count-all place left most i total waiters ended so_far =
    let none : length (woken place left (drop i waiters)) ≡ 0 =
    ap (λ xs. length (woken place left xs)) (drop_of_length-le waiters ended) ∙ ap length (woken-none place left) in
    omega arith
