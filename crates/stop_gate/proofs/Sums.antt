-- Sums over a list when one element changes, and what a sum says of single elements.
use Rattle.std.proofs.Common.{◌≡◌, ◌≢◌, ℕ, zero, suc, ◌+◌, ◌≤◌, ◌<◌, List, [], ◌∷◌, length, set, sum_by, sym, refl, ap, arith}
use Rattle.std.proofs.lemmas.List.Sums.{sum_by-cons}
use mathlib.Core.Option.{some, some-injective, some-ne-none}
use native.Mathlib.Decide.{ℕ_discrete}
use lib.ListN.{get_elem?}

module _ {X : Type 0} where
  pub sum_by-set : (f : X → ℕ) (xs : List X) (i : ℕ) (v w : X) → get_elem? xs i ≡ some v → sum_by f (set xs i w) + f v ≡ sum_by f xs + f w
  sum_by-set f [] i v w e = absurd (some-ne-none v (sym e))
  sum_by-set f (x ∷ xs) zero v w e = let is : f x ≡ f v = ap f (some-injective x v e) in omega (arith, sum_by-cons f x xs, sum_by-cons f w xs)
  sum_by-set f (x ∷ xs) (suc i) v w e = omega (arith, sum_by-set f xs i v w e, sum_by-cons f x xs, sum_by-cons f x (set xs i w))

  pub sum_by-here : (f : X → ℕ) (xs : List X) (i : ℕ) (v : X) → get_elem? xs i ≡ some v → f v ≤ sum_by f xs
  sum_by-here f [] i v e = absurd (some-ne-none v (sym e))
  sum_by-here f (x ∷ xs) zero v e = let is : f x ≡ f v = ap f (some-injective x v e) in omega (arith, sum_by-cons f x xs)
  sum_by-here f (x ∷ xs) (suc i) v e = omega (arith, sum_by-here f xs i v e, sum_by-cons f x xs)

  -- two elements apart give no more than all
  pub sum_by-two : (f : X → ℕ) (xs : List X) (i j : ℕ) (v w : X) → get_elem? xs i ≡ some v → get_elem? xs j ≡ some w → i ≢ j → f v + f w ≤ sum_by f xs
  sum_by-two f [] i j v w a b apart = absurd (some-ne-none v (sym a))
  sum_by-two f (x ∷ xs) zero zero v w a b apart = absurd (apart refl)
  sum_by-two f (x ∷ xs) zero (suc j) v w a b apart = let is : f x ≡ f v = ap f (some-injective x v a) in omega (arith, sum_by-here f xs j w b, sum_by-cons f x xs)
  sum_by-two f (x ∷ xs) (suc i) zero v w a b apart = let is : f x ≡ f w = ap f (some-injective x w b) in omega (arith, sum_by-here f xs i v a, sum_by-cons f x xs)
  sum_by-two f (x ∷ xs) (suc i) (suc j) v w a b apart = omega (arith, sum_by-two f xs i j v w a b (λ e. apart (ap suc e)), sum_by-cons f x xs)

  -- where the sum is not 0, some element gives more than 0
  pub sum_by-some : (f : X → ℕ) (xs : List X) → 0 < sum_by f xs → (i : ℕ) × (v : X) × (get_elem? xs i ≡ some v) × (0 < f v)
  sum_by-some f [] more = absurd (omega arith)
  sum_by-some f (x ∷ xs) more = elim (ℕ_discrete (f x) 0) [
    | yes none ↦ let r = sum_by-some f xs (omega (arith, sum_by-cons f x xs)) in (suc r.0, r.1, r.2, r.3)
    | no some_here ↦ (0, x, refl, omega arith)
  ]

  pub sum_by-one : (f : X → ℕ) → ((x : X) → f x ≤ 1) → (xs : List X) → sum_by f xs ≤ length xs
  sum_by-one f one [] = omega arith
  sum_by-one f one (x ∷ xs) = omega (arith, sum_by-one f one xs, one x, sum_by-cons f x xs)

  pub sum_by-less : (f g : X → ℕ) → ((x : X) → f x ≤ g x) → (xs : List X) → sum_by f xs ≤ sum_by g xs
  sum_by-less f g less [] = omega arith
  sum_by-less f g less (x ∷ xs) = omega (arith, sum_by-less f g less xs, less x, sum_by-cons f x xs, sum_by-cons g x xs)

  pub sum_by-add : (f g : X → ℕ) (xs : List X) → sum_by (λ x. f x + g x) xs ≡ sum_by f xs + sum_by g xs
  sum_by-add f g [] = omega arith
  sum_by-add f g (x ∷ xs) = omega (arith, sum_by-add f g xs, sum_by-cons f x xs, sum_by-cons g x xs, sum_by-cons (λ y. f y + g y) x xs)
