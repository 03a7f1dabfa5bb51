-- Lists of places: what a search, a test of rules and a walk over them gives, place by place.
use Rattle.std.proofs.Common.{◌≡◌, ℕ, zero, suc, ◌+◌, ◌-◌, ◌*◌, ◌<◌, List, [], ◌∷◌, ◌++◌, map, Bool, true, false, cond, refl, sym, ap, ◌∙◌, arith, add-one, append_assoc}
use Rattle.std.specs.Prelude.{Some, None, find}
use Rattle.std.specs.List.{flat_map}
use Rattle.std.proofs.lemmas.List.{append-nil}
use Rattle.std.proofs.lemmas.Grind.{flat_map-append}
use Rattle.guest_words.specs.Rules.{Rule, first_broken}
use Rattle.guest_words.proofs.RuleLaws.{first_broken-append_none}
use Rattle.elf_symbols.specs.SymbolTable.{places}

pub places_none : (from step : ℕ) → places from step 0 ≡ []
unfolding places
places_none from step = refl

pub places_next : (from step k : ℕ) → places from step (k + 1) ≡ places from step k ++ (from + step * k) ∷ []
unfolding places
places_next from step k = ap (places from step) (add-one k)

-- the places behind some first ones
places_part : (from step k d : ℕ) → (rest : List ℕ) × (places from step (d + k) ≡ places from step k ++ rest)
unfolding places
places_part from step k zero = let same : 0 + k ≡ k = omega arith in ([], ap (places from step) same ∙ sym (append-nil (places from step k)))
places_part from step k (suc d) =
    let part = places_part from step k d in
    let last = (from + step * (d + k)) ∷ [] in
    let same : suc d + k ≡ suc (d + k) = omega arith in (
      part.0 ++ last,
      ap (places from step) same
          ∙ ap (λ xs. xs ++ last) part.1
          ∙ append_assoc (places from step k) part.0 last,
    )

-- the places from a place on
pub places_from : (from step k n : ℕ) → k < n → (rest : List ℕ) × (places from step n ≡ places from step k ++ ((from + step * k) ∷ rest))
places_from from step k n below =
    let part = places_part from step (k + 1) (n - (k + 1)) in
    let all : n - (k + 1) + (k + 1) ≡ n = omega arith in (
      part.0,
      rw all at part.1
          ∙ ap (λ xs. xs ++ part.0) (places_next from step k)
          ∙ append_assoc (places from step k) ((from + step * k) ∷ []) part.0,
    )

find_after : {X : Type 0} (p : X → Bool) (xs ys : List X) → find p xs ≡ None → find p (xs ++ ys) ≡ find p ys
find_after p [] ys none = refl
find_after p (x ∷ xs) ys none =
    elim (p x) as (λ b. cond b (Some x) (find p xs) ≡ None → cond b (Some x) (find p (xs ++ ys)) ≡ find p ys) [
      | true ↦ λ h. cc
      | false ↦ λ h. find_after p xs ys h
    ] none

-- a search that has found nothing yet, and then tests the next place
pub find_next : (p : ℕ → Bool) (from step k : ℕ) → find p (places from step k) ≡ None → p (from + step * k) ≡ false → find p (places from step (k + 1)) ≡ None
find_next p from step k none fails =
    let last : find p ((from + step * k) ∷ []) ≡ None = rw fails refl in
    rw places_next (find_after p (places from step k) ((from + step * k) ∷ []) none ∙ last)

pub find_stop : (p : ℕ → Bool) (from step k n : ℕ) → k < n → find p (places from step k) ≡ None → p (from + step * k) ≡ true → find p (places from step n) ≡ Some (from + step * k)
find_stop p from step k n below none passes =
    let part = places_from from step k n below in
    let here : find p ((from + step * k) ∷ part.0) ≡ Some (from + step * k) = rw passes refl in
    rw part.1 (find_after p (places from step k) ((from + step * k) ∷ part.0) none ∙ here)

map_append : {X Y : Type 0} (f : X → Y) (xs ys : List X) → map f (xs ++ ys) ≡ map f xs ++ map f ys
map_append f [] ys = refl
map_append f (x ∷ xs) ys = ap (λ zs. f x ∷ zs) (map_append f xs ys)

-- a test of rules that has found none broken yet, and then tries the next one
pub rules_next : {F : Type 0} (r : ℕ → Rule F) (from step k : ℕ) → first_broken (map r (places from step k)) ≡ None → (r (from + step * k)).broken ≡ false → first_broken (map r (places from step (k + 1))) ≡ None
rules_next r from step k kept here =
    let last : first_broken (r (from + step * k) ∷ []) ≡ None = rw here refl in
    ap (λ xs. first_broken (map r xs)) (places_next from step k)
    ∙ ap first_broken (map_append r (places from step k) ((from + step * k) ∷ []))
    ∙ first_broken-append_none (map r (places from step k)) (r (from + step * k) ∷ []) kept
    ∙ last

pub rules_stop : {F : Type 0} (r : ℕ → Rule F) (from step k n : ℕ) → k < n → first_broken (map r (places from step k)) ≡ None → (r (from + step * k)).broken ≡ true → first_broken (map r (places from step n)) ≡ Some ((r (from + step * k)).fault, (r (from + step * k)).offset)
rules_stop r from step k n below kept here =
    let part = places_from from step k n below in
    let x = from + step * k in
    let last : first_broken (r x ∷ map r part.0) ≡ Some ((r x).fault, (r x).offset) = rw here refl in
    ap (λ xs. first_broken (map r xs)) part.1
    ∙ ap first_broken (map_append r (places from step k) (x ∷ part.0))
    ∙ first_broken-append_none (map r (places from step k)) (r x ∷ map r part.0) kept
    ∙ last

-- a walk that appends what the next place gives
pub flat_map_next : {X : Type 0} (f : ℕ → List X) (from step k : ℕ) → flat_map f (places from step (k + 1)) ≡ flat_map f (places from step k) ++ f (from + step * k)
flat_map_next f from step k =
    ap (flat_map f) (places_next from step k)
    ∙ flat_map-append f (places from step k) ((from + step * k) ∷ [])
    ∙ ap (λ xs. flat_map f (places from step k) ++ xs) (append-nil (f (from + step * k)))
