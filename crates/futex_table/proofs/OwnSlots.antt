-- Slots of their own: they leave room, and stay so.
use Rattle.std.proofs.Common.{◌≡◌, ◌<◌, ◌≤◌, ℕ, zero, suc, Bool, true, false, if◌then◌else◌, List, [], ◌∷◌, ◌++◌, length, nat_eq, ◌||◌, ◌⊎◌, inl, inr, subst, refl, sym, length-append, arith}
use Rattle.std.specs.List.{All, AllByRecursion, IsDistinct}
use Rattle.std.proofs.lemmas.Bool.{eqb-true}
use Rattle.std.proofs.lemmas.List.{map-append, length-map}
use Rattle.std.proofs.lemmas.List.Elements.{All-cons, All-append}
use Rattle.std.proofs.lemmas.Map.Keys.{IsDistinct-head, IsDistinct-tail, IsDistinct-cons, IsDistinct-push}
use Rattle.std.proofs.lemmas.Map.Steps.{length-le_from_distinct_below}
use Rattle.std.proofs.lemmas.Cmp.{nat_eq_equiv}
use Rattle.guest_words.specs.declared.hart.Waiter.{Waiter}
use Rattle.guest_words.specs.declared.limits.TheConstants.{HARTS}
use Rattle.guest_words.specs.CallChanges.{waits_at, unwoken}
use Rattle.futex_table.specs.Slots.{slots_of, has_slot, HasOwnSlots}

chosen : {X : Type 0} (P : X → Type 0) (b : Bool) (x y : X) → P x → P y → P (if b then x else y)
chosen P true x y p q = p
chosen P false x y p q = q

-- what holds of each slot, or each waiter, holds of those that stay
each-unwoken : (P : ℕ → Type 0) (place most : ℕ) (waiting : List Waiter) → AllByRecursion P (slots_of waiting)
    → AllByRecursion P (slots_of (unwoken place most waiting))
unfolding unwoken
each-unwoken P place most [] each = tt
each-unwoken P place zero (x ∷ xs) each = each
each-unwoken P place (suc most) (x ∷ xs) each =
    chosen (λ ys. AllByRecursion P (slots_of ys)) (waits_at place x) _ _ (each-unwoken P place most xs each.1)
    (each.0, each-unwoken P place (suc most) xs each.1)

all-tail : (P : Waiter → Type 0) (x : Waiter) (xs : List Waiter) → All P (x ∷ xs) → All P xs
all-tail P x xs all k d within = all (suc k) d (omega (arith, within))

all-unwoken : (P : Waiter → Type 0) (place most : ℕ) (waiting : List Waiter) → All P waiting → All P (unwoken place most waiting)
unfolding unwoken
all-unwoken P place most [] all = all
all-unwoken P place zero (x ∷ xs) all = all
all-unwoken P place (suc most) (x ∷ xs) all =
    chosen (All P) (waits_at place x) _ _ (all-unwoken P place most xs (all-tail P x xs all))
    (All-cons P x _ (all 0 x (omega arith)) (all-unwoken P place (suc most) xs (all-tail P x xs all)))

distinct-unwoken : (place most : ℕ) (waiting : List Waiter) → IsDistinct nat_eq (slots_of waiting)
    → IsDistinct nat_eq (slots_of (unwoken place most waiting))
unfolding unwoken
distinct-unwoken place most [] distinct = distinct
distinct-unwoken place zero (x ∷ xs) distinct = distinct
distinct-unwoken place (suc most) (x ∷ xs) distinct =
    let others : IsDistinct nat_eq (slots_of xs) = IsDistinct-tail nat_eq x.slot (slots_of xs) distinct in
    chosen (λ ys. IsDistinct nat_eq (slots_of ys)) (waits_at place x) _ _ (distinct-unwoken place most xs others)
    (IsDistinct-cons nat_eq x.slot (slots_of (unwoken place (suc most) xs))
    (each-unwoken (λ y. nat_eq x.slot y ≡ false) place (suc most) xs (IsDistinct-head nat_eq x.slot (slots_of xs) distinct))
    (distinct-unwoken place (suc most) xs others))

pub HasOwnSlots-unwoken : (place most : ℕ) (waiting : List Waiter) → HasOwnSlots waiting → HasOwnSlots (unwoken place most waiting)
HasOwnSlots-unwoken place most waiting own = record {
  below = all-unwoken (λ waiter. waiter.slot < HARTS) place most waiting own.below;
  distinct = distinct-unwoken place most waiting own.distinct;
}

pub HasOwnSlots-none : HasOwnSlots []
unfolding IsDistinct
HasOwnSlots-none = record { below = λ k d within. absurd (omega (arith, within)); distinct = tt }

pub HasOwnSlots-push : (waiting : List Waiter) (slot place : ℕ) → HasOwnSlots waiting → slot < HARTS → has_slot slot waiting ≡ false
    → HasOwnSlots (waiting ++ (record { slot = slot; place = place }) ∷ [])
HasOwnSlots-push waiting slot place own below absent =
    let new : Waiter = record { slot = slot; place = place } in
    let P : Waiter → Type 0 = λ waiter. waiter.slot < HARTS in
    record {
      below = All-append P waiting (new ∷ []) own.below (All-cons P new [] below HasOwnSlots-none.below);
      distinct = subst (IsDistinct nat_eq) (sym (map-append (λ (w : Waiter). w.slot) waiting (new ∷ [])))
          (IsDistinct-push nat_eq_equiv (slots_of waiting) slot own.distinct absent);
    }

either : (a b : Bool) → (a || b) ≡ true → (a ≡ true) ⊎ (b ≡ true)
either true b one = inl refl
either false b one = inr one

slot-below : (waiting : List Waiter) (slot : ℕ) → All (λ waiter. waiter.slot < HARTS) waiting → has_slot slot waiting ≡ true → slot < HARTS
slot-below [] slot all found = absurd (cc)
slot-below (x ∷ xs) slot all found =
    elim (either (nat_eq slot x.slot) (has_slot slot xs) found) [
      | inl here ↦ omega (arith, eqb-true slot x.slot here, all 0 x (omega arith))
      | inr there ↦ slot-below xs slot (all-tail (λ waiter. waiter.slot < HARTS) x xs all) there
    ]

-- with slots of their own there are no more waiters than slots
pub length-own : (waiting : List Waiter) → HasOwnSlots waiting → length waiting ≤ HARTS
length-own waiting own =
    let slots : length (slots_of waiting) ≤ HARTS =
    length-le_from_distinct_below (slots_of waiting) HARTS own.distinct (λ slot found. slot-below waiting slot own.below found) in
    omega (arith, slots, length-map waiting (λ (w : Waiter). w.slot))

-- and one that has none leaves a place
pub room-own : (waiting : List Waiter) (slot : ℕ) → HasOwnSlots waiting → slot < HARTS → has_slot slot waiting ≡ false → length waiting < HARTS
room-own waiting slot own below absent =
    let new : Waiter = record { slot = slot; place = 0 } in
    omega (arith, length-own (waiting ++ new ∷ []) (HasOwnSlots-push waiting slot 0 own below absent), length-append waiting (new ∷ []))
