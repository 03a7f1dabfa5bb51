-- A hart beside which no other is ready or waits. With one slot alone it stays so, since a new hart
-- takes no slot but another.
use Rattle.std.proofs.Common.{◌≡◌, ◌≢◌, ℕ, zero, suc, ◌+◌, Bool, true, false, not, ◌||◌, List, [], ◌∷◌, length, take, drop, inl, inr, Option, Some, None, refl, ap, sym, ◌∙◌, slice_get, subst, arith}
use Rattle.std.proofs.lemmas.Bool.{or_from, or_parts}
use Rattle.std.specs.List.{list_any}
use Rattle.guest_words.specs.declared.hart.Slot.{Slot}
use Rattle.guest_words.specs.CallChanges.{any_other, is_live}
use Rattle.guest_words.specs.Endings.{is_stuck}
use Rattle.guest_words.specs.Harts.{is_ready}
use Rattle.guest_words.specs.State.{State}
use Rattle.run_history.specs.declared.entry.Entry.{Entry}
use Rattle.run_history.specs.After.{state_after}
use Rattle.run_history.proofs.Ands.{same_or}
use Rattle.run_history.proofs.SlotCount.{state_after_count}
use Rattle.run_history.proofs.Slots.{drop_next}

-- tests of the slots, one by one

abbrev pub is_in : (Slot → Bool) → Option Slot → Bool
is_in test None = false
is_in test (Some slot) = test slot

any_each : (test : Slot → Bool) (slots : List Slot) → list_any test slots ≡ false → (k : ℕ) → is_in test (slice_get slots k) ≡ false
any_each test [] none k = refl
any_each test (x ∷ xs) none zero = (or_parts (test x) _ none).0
any_each test (x ∷ xs) none (suc k) = any_each test xs ((or_parts (test x) _ none).1) k

each_any : (test : Slot → Bool) (slots : List Slot) → ((k : ℕ) → is_in test (slice_get slots k) ≡ false) → list_any test slots ≡ false
each_any test [] each = refl
each_any test (x ∷ xs) each = or_from (test x) _ (each zero) (each_any test xs (λ k. each (suc k)))

-- no slot but this one has a hart that is ready or waits
pub IsLone : ℕ → List Slot → Type 0
IsLone h slots = (k : ℕ) → k ≢ h → is_in is_live (slice_get slots k) ≡ false

other_next : (h : ℕ) (x : Slot) (xs : List Slot) → any_other is_live (suc h) (x ∷ xs) ≡ ((is_live x || list_any is_live (take h xs)) || list_any is_live (drop (h + 1) xs))
other_next h x xs = ap (λ ys. (is_live x || list_any is_live (take h xs)) || list_any is_live ys) (drop_next h x xs)

pub other_each : (h : ℕ) (slots : List Slot) → any_other is_live h slots ≡ false → IsLone h slots
unfolding IsLone
other_each h [] none k apart = refl
other_each zero (x ∷ xs) none zero apart = absurd (apart refl)
other_each zero (x ∷ xs) none (suc k) apart = any_each is_live xs none k
other_each (suc h) (x ∷ xs) none zero apart = (or_parts (is_live x) _ ((or_parts (is_live x || list_any is_live (take h xs)) _ (sym (other_next h x xs) ∙ none)).0)).0
other_each (suc h) (x ∷ xs) none (suc k) apart =
    let split = sym (other_next h x xs) ∙ none in
    let front = (or_parts (is_live x) (list_any is_live (take h xs)) ((or_parts (is_live x || list_any is_live (take h xs)) _ split).0)).1 in
    let back = (or_parts (is_live x || list_any is_live (take h xs)) (list_any is_live (drop (h + 1) xs)) split).1 in
    other_each h xs (or_from _ _ front back) k (λ e. apart (ap suc e))

pub each_other_none : (h : ℕ) (slots : List Slot) → IsLone h slots → any_other is_live h slots ≡ false
unfolding IsLone
each_other_none zero [] each = refl
each_other_none (suc h) [] each = let next : suc h + 1 ≡ suc (suc h) = omega arith in ap (λ n. list_any is_live (drop {A = Slot} n [])) next
each_other_none zero (x ∷ xs) each = each_any is_live xs (λ k. each (suc k) (λ e. omega (arith, e)))
each_other_none (suc h) (x ∷ xs) each =
    let rest = each_other_none h xs (λ k apart. each (suc k) (λ e. apart (omega (arith, e)))) in
    let here = each zero (λ e. omega (arith, e)) in
    other_next h x xs
    ∙ or_from _ _ (or_from _ _ here ((or_parts (list_any is_live (take h xs)) _ rest).0)) ((or_parts (list_any is_live (take h xs)) _ rest).1)

-- one slot has no other
pub one_lone : (slots : List Slot) → length slots ≡ 1 → IsLone 0 slots
unfolding IsLone
one_lone [] one k apart = refl
one_lone (x ∷ []) one zero apart = absurd (apart refl)
one_lone (x ∷ []) one (suc k) apart = refl
one_lone (x ∷ (y ∷ rest)) one k apart = absurd (omega (arith, one))

pub one_lone_after : (s : State) (es : List Entry) → length s.slots ≡ 1 → IsLone 0 (state_after s es).slots
one_lone_after s es one = one_lone (state_after s es).slots (state_after_count s es ∙ one)

-- where the lone hart isn't ready, none is

unready : (o : Option Slot) → is_in is_live o ≡ false → is_in (λ slot. is_ready slot.hart.state) o ≡ false
unready None live = refl
unready (Some slot) live = (or_parts (is_ready slot.hart.state) _ live).0

pub stuck_where : (s : State) (h : ℕ) → IsLone h s.slots → is_in (λ slot. is_ready slot.hart.state) (slice_get s.slots h) ≡ false → is_stuck s ≡ true
unfolding IsLone
stuck_where s h lone idle = ap not (each_any (λ slot. is_ready slot.hart.state) s.slots by)
  where
    by : (k : ℕ) → is_in (λ slot. is_ready slot.hart.state) (slice_get s.slots k) ≡ false
    by k = elim (same_or k h) [
      | inl same ↦ subst (λ (j : ℕ). is_in (λ slot. is_ready slot.hart.state) (slice_get s.slots j) ≡ false) (sym same) idle
      | inr apart ↦ unready (slice_get s.slots k) (lone k apart)
    ]
