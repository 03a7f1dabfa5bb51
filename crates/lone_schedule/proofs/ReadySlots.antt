-- The ready slots, one slot at a time.
use Rattle.std.proofs.Common.{◌≡◌, ℕ, zero, suc, ◌+◌, ◌-◌, ◌%◌, ◌<◌, ◌≤◌, true, false, if◌then◌else◌, List, [], ◌∷◌, length, drop, slice_get, Some, None, refl, ap, sym, ◌∙◌, arith}
use Rattle.guest_words.specs.declared.hart.Slot.{Slot}
use Rattle.run_history.specs.Legal.{is_ready_slot}
use Rattle.lone_schedule.specs.Choice.{ready_from}

abbrev Rest : ℕ → ℕ → List Slot → List ℕ
Rest i h slots = ready_from (h + 1) (drop (i + 1) slots)

ready_next : (slots : List Slot) (i h : ℕ) → i < length slots
    → ready_from h (drop i slots) ≡ (if is_ready_slot (slice_get slots i) then h ∷ Rest i h slots else Rest i h slots)
unfolding ready_from
ready_next [] i h less = absurd (omega (arith, less))
ready_next (slot ∷ slots) zero h less = refl
ready_next (slot ∷ slots) (suc i) h less =
    let more : suc i + 1 ≡ suc (i + 1) = omega arith in
    ready_next slots i h (omega (arith, less))
    ∙ ap (λ xs. if is_ready_slot (slice_get slots i) then h ∷ ready_from (h + 1) xs else ready_from (h + 1) xs)
    (sym (ap (λ n. drop n (slot ∷ slots)) more))

-- a slot that is ready comes next, and one that isn't is passed over
pub ready_here : (slots : List Slot) (h : ℕ) → h < length slots → is_ready_slot (slice_get slots h) ≡ true
    → ready_from h (drop h slots) ≡ h ∷ ready_from (h + 1) (drop (h + 1) slots)
ready_here slots h less is = ready_next slots h h less ∙ ap (λ b. if b then h ∷ Rest h h slots else Rest h h slots) is

pub ready_past : (slots : List Slot) (h : ℕ) → h < length slots → is_ready_slot (slice_get slots h) ≡ false
    → ready_from h (drop h slots) ≡ ready_from (h + 1) (drop (h + 1) slots)
ready_past slots h less is = ready_next slots h h less ∙ ap (λ b. if b then h ∷ Rest h h slots else Rest h h slots) is

-- from where no slot is ready none comes
pub ready_none : (slots : List Slot) (h k : ℕ) → ((j : ℕ) → k ≤ j → is_ready_slot (slice_get slots j) ≡ false)
    → ready_from h (drop k slots) ≡ []
unfolding ready_from
ready_none [] h zero idle = refl
ready_none [] h (suc k) idle = refl
ready_none (slot ∷ slots) h (suc k) idle = ready_none slots h k (λ j behind. idle (suc j) (omega (arith, behind)))
ready_none (slot ∷ slots) h zero idle =
    ap (λ b. if b then h ∷ ready_from (h + 1) slots else ready_from (h + 1) slots) (idle zero (omega arith))
    ∙ ready_none slots (h + 1) zero (λ j behind. idle (suc j) (omega arith))

-- the item at a place behind the first one
pub get_later : (x n : ℕ) (xs : List ℕ) → ¬ (n ≡ 0) → slice_get (x ∷ xs) n ≡ slice_get xs (n - 1)
get_later x zero xs some = absurd (some refl)
get_later x (suc n) xs some = let less : n ≡ suc n - 1 = omega arith in ap (slice_get xs) less

-- where no slot behind the first is ready, its hart alone can be chosen

pub alone_ready : (slots : List Slot) (w : ℕ) → ((j : ℕ) → 1 ≤ j → is_ready_slot (slice_get slots j) ≡ false) → is_ready_slot (slice_get slots 0) ≡ true
    → slice_get (ready_from 0 slots) (w % length (ready_from 0 slots)) ≡ Some 0
alone_ready [] w idle is = absurd (cc)
alone_ready (slot ∷ slots) w idle is =
    let one : ready_from 0 (slot ∷ slots) ≡ 0 ∷ [] = ready_here (slot ∷ slots) 0 (omega arith) is ∙ ap (λ xs. 0 ∷ xs) (ready_none (slot ∷ slots) 1 1 idle) in
    let first : w % 1 ≡ 0 = omega arith in
    ap (λ xs. slice_get xs (w % length xs)) one ∙ ap (slice_get (0 ∷ [])) first

pub alone_idle : (slots : List Slot) (w : ℕ) → ((j : ℕ) → 1 ≤ j → is_ready_slot (slice_get slots j) ≡ false) → is_ready_slot (slice_get slots 0) ≡ false
    → slice_get (ready_from 0 slots) (w % length (ready_from 0 slots)) ≡ None
alone_idle slots w idle is = ap (λ xs. slice_get xs (w % length xs)) (ready_none slots 0 0 all)
  where
    all : (j : ℕ) → 0 ≤ j → is_ready_slot (slice_get slots j) ≡ false
    all zero behind = is
    all (suc j) behind = idle (suc j) (omega arith)
