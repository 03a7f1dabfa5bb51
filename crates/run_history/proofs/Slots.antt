-- Slots with one of them changed, and with all of them changed one after the other.
use Rattle.std.proofs.Common.{◌≡◌, ◌≢◌, ℕ, zero, suc, ◌+◌, ◌<◌, ◌≤◌, List, [], ◌∷◌, ◌++◌, length, get_or, set, map, take, drop, ap, sym, ◌∙◌, refl, Option, Some, None, slice_get, option_map, length-set, arith}
use Rattle.std.proofs.lemmas.Option.{slice_get-get_or, slice_get_past}
use Rattle.guest_words.specs.declared.hart.Hart.{Hart}
use Rattle.guest_words.specs.declared.hart.Slot.{Slot}
use Rattle.guest_words.specs.State.{changed, changed_by, on_hart}

pub changed-inside : (f : Slot → Slot) (h : ℕ) (slots : List Slot) (d : Slot) → h < length slots → changed f h slots ≡ set slots h (f (get_or slots h d))
unfolding changed
changed-inside f h slots d less = ap (changed_by f h slots) (slice_get-get_or slots h d less)

pub changed-past : (f : Slot → Slot) (h : ℕ) (slots : List Slot) → length slots ≤ h → changed f h slots ≡ slots
unfolding changed
changed-past f h slots past = ap (changed_by f h slots) (slice_get_past slots h past)

-- a write to a slot that is there
pub changed-at : (f : Slot → Slot) (h : ℕ) (slots : List Slot) (d to : Slot) → h < length slots → d ≡ get_or slots h d → f d ≡ to → set slots h to ≡ changed f h slots
changed-at f h slots d to less is does =
    ap (set slots h) (sym does ∙ ap f is) ∙ sym (changed-inside f h slots d less)

pub length-changed : (f : Slot → Slot) (h : ℕ) (slots : List Slot) → length (changed f h slots) ≡ length slots
unfolding changed
length-changed f h slots = by (slice_get slots h)
  where
    by : (o : Option Slot) → length (changed_by f h slots o) ≡ length slots
    by None = refl
    by (Some slot) = length-set slots h (f slot)

-- a change of the hart in a slot is a change to what it becomes
pub changed-hart : (f : Hart → Hart) (h : ℕ) (slots : List Slot) (slot : Slot) → slice_get slots h ≡ Some slot
    → changed (on_hart (λ before. f slot.hart)) h slots ≡ changed (on_hart f) h slots
unfolding changed
changed-hart f h slots slot is = ap (changed_by (on_hart (λ before. f slot.hart)) h slots) is ∙ sym (ap (changed_by (on_hart f) h slots) is)

-- one slot more of a list whose first slots are changed
pub changed-more : (f : Slot → Slot) (xs ys : List Slot) (i : ℕ) (d to : Slot) → ys ≡ map f (take i xs) ++ drop i xs → i < length xs → d ≡ get_or ys i d → f d ≡ to
    → set ys i to ≡ map f (take (i + 1) xs) ++ drop (i + 1) xs
changed-more f xs ys i d to so_far less is does =
    let next : suc i ≡ i + 1 = omega arith in
    ap (set ys i) (sym does) ∙ ap (λ zs. set zs i (f d)) so_far ∙ by xs i less (is ∙ ap (λ zs. get_or zs i d) so_far)
    ∙ ap (λ k. map f (take k xs) ++ drop k xs) next
  where
    by : (xs : List Slot) (i : ℕ) → i < length xs → d ≡ get_or (map f (take i xs) ++ drop i xs) i d
        → set (map f (take i xs) ++ drop i xs) i (f d) ≡ map f (take (suc i) xs) ++ drop (suc i) xs
    by [] i less is = absurd (omega arith)
    by (x ∷ xs) zero less is = ap (λ (y : Slot). f y ∷ xs) is
    by (x ∷ xs) (suc i) less is = ap (λ zs. f x ∷ zs) (by xs i (omega arith) is)

-- the list keeps its length on the way
pub length-changing : (f : Slot → Slot) (xs : List Slot) (i : ℕ) → length (map f (take i xs) ++ drop i xs) ≡ length xs
length-changing f [] zero = refl
length-changing f [] (suc i) = refl
length-changing f (x ∷ xs) zero = refl
length-changing f (x ∷ xs) (suc i) = ap suc (length-changing f xs i)

set_get : (slots : List Slot) (h : ℕ) (x slot : Slot) → slice_get slots h ≡ Some slot → slice_get (set slots h x) h ≡ Some x
set_get [] h x slot is = cc
set_get (y ∷ ys) zero x slot is = refl
set_get (y ∷ ys) (suc h) x slot is = set_get ys h x slot is

set_other : (slots : List Slot) (h : ℕ) (x : Slot) (k : ℕ) → k ≢ h → slice_get (set slots h x) k ≡ slice_get slots k
set_other [] h x k apart = refl
set_other (y ∷ ys) zero x zero apart = absurd (apart refl)
set_other (y ∷ ys) zero x (suc k) apart = refl
set_other (y ∷ ys) (suc h) x zero apart = refl
set_other (y ∷ ys) (suc h) x (suc k) apart = set_other ys h x k (λ e. apart (ap suc e))

-- the changed slot, and the others
pub changed-get : (f : Slot → Slot) (h : ℕ) (slots : List Slot) → slice_get (changed f h slots) h ≡ option_map f (slice_get slots h)
unfolding changed
changed-get f h slots = by (slice_get slots h) refl
  where
    by : (o : Option Slot) → slice_get slots h ≡ o → slice_get (changed_by f h slots o) h ≡ option_map f o
    by None is = is
    by (Some slot) is = set_get slots h (f slot) slot is

pub changed-other : (f : Slot → Slot) (h : ℕ) (slots : List Slot) (k : ℕ) → k ≢ h → slice_get (changed f h slots) k ≡ slice_get slots k
unfolding changed
changed-other f h slots k apart = by (slice_get slots h)
  where
    by : (o : Option Slot) → slice_get (changed_by f h slots o) k ≡ slice_get slots k
    by None = refl
    by (Some slot) = set_other slots h (f slot) k apart

-- the slots behind the next one
pub drop_next : (h : ℕ) (x : Slot) (xs : List Slot) → drop (suc h + 1) (x ∷ xs) ≡ drop (h + 1) xs
drop_next h x xs = let next : suc h + 1 ≡ suc (h + 1) = omega arith in ap (λ n. drop n (x ∷ xs)) next
