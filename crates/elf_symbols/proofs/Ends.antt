-- Where the last zero byte of a text stands.
use Rattle.std.proofs.Common.{◌≡◌, ◌≢◌, ℕ, zero, suc, ◌+◌, ◌-◌, ◌<◌, ◌≤◌, List, [], ◌∷◌, length, get_or, drop, true, false, ◌||◌, refl, sym, ap, ◌∙◌, arith, length-drop, eq-eqb}
use Rattle.std.specs.Prelude.{nat_lt, ◌==◌}
use Rattle.std.proofs.lemmas.Bool.Decides.{nat_tests, same_from_decides, Decides-ltb}
use Rattle.std.proofs.lemmas.List.{get_or-drop}
use Rattle.std.proofs.Math.Bool.{or-true}
use Rattle.guest_words.specs.Image.{contains}

contains_at : (xs : List ℕ) (k x : ℕ) → k < length xs → get_or xs k 0 ≡ x → contains xs x ≡ true
contains_at [] k x below is = absurd (omega arith)
contains_at (y ∷ ys) zero x below is = ap (λ b. b || contains ys x) (eq-eqb y x is)
contains_at (y ∷ ys) (suc k) x below is = ap (λ b. y == x || b) (contains_at ys k x (omega arith) is) ∙ or-true (y == x)

place_of : (xs : List ℕ) (x : ℕ) → contains xs x ≡ true → (k : ℕ) × (k < length xs) × (get_or xs k 0 ≡ x)
place_of [] x has = cc
place_of (y ∷ ys) x has =
    elim (y == x) as (λ b. y == x ≡ b → (b || contains ys x) ≡ true → (k : ℕ) × (k < length (y ∷ ys)) × (get_or (y ∷ ys) k 0 ≡ x)) [
      | true ↦ λ is _. (0, omega arith, grind (arith, nat_tests, is))
      | false ↦ λ _ h. let at = place_of ys x h in (suc at.0, omega (arith, at.1), at.2)
    ] refl has

-- a zero byte follows just the places before the last one's end
pub zero_follows :
    (xs : List ℕ) (end : ℕ)
    → end ≤ length xs
    → ((k : ℕ) → end ≤ k → k < length xs → get_or xs k 0 ≢ 0)
    → (0 < end → get_or xs (end - 1) 0 ≡ 0)
    → (place : ℕ) → contains (drop place xs) 0 ≡ nat_lt place end
zero_follows xs end within none_after last place =
    same_from_decides _ _ (
      λ has. let at = place_of (drop place xs) 0 has in
          let there : get_or xs (place + at.0) 0 ≡ 0 = sym (get_or-drop place xs at.0 0) ∙ at.2 in
          let below : place + at.0 < length xs = omega (arith, at.1, length-drop place xs) in
          elim (nat_lt place end) as (λ b. nat_lt place end ≡ b → place < end) [
            | true ↦ λ is. grind (arith, nat_tests, is)
            | false ↦ λ is. absurd (none_after (place + at.0) (grind (arith, nat_tests, is)) below there)
          ] refl,
      λ before. let k = end - 1 - place in
          let index : place + k ≡ end - 1 = omega arith in
          let there : get_or (drop place xs) k 0 ≡ 0 = get_or-drop place xs k 0 ∙ ap (λ n. get_or xs n 0) index ∙ last (omega arith) in
          contains_at (drop place xs) k 0 (omega (arith, length-drop place xs)) there,
    ) (Decides-ltb place end)
