-- Lists in an order of what their elements stand for.
use Rattle.std.proofs.Common.{◌≡◌, ℕ, ◌+◌, ◌<◌, List, [], ◌∷◌, map, length, get_or, ap, ◌∙◌, arith}
use Rattle.std.proofs.lemmas.List.{get_or-map, length-map}
use Rattle.std.specs.List.Sorted.{IsSorted}
use Rattle.std.specs.Ordering.{is_lt}
use Rattle.std.specs.declared.cmp.Ordering.{Ordering}

-- what stands at a place of such a list
at : {X Y : Type 0} (f : X → Y) (x : X) (xs : List X) (k : ℕ) (d : Y) → k < length (map f (x ∷ xs)) → get_or (map f (x ∷ xs)) k d ≡ f (get_or (x ∷ xs) k x)
at f x xs k d below =
    let size = length-map (x ∷ xs) f in
    let inside : k < length (x ∷ xs) = omega (arith, size, below) in
    get_or-map f (x ∷ xs) k x d inside

-- elements are in the order that what they stand for is in
pub IsSorted-map : {X Y : Type 0} (f : X → Y) (cmp : Y → Y → Ordering) (xs : List X) → IsSorted (λ x y. cmp (f x) (f y)) xs → IsSorted cmp (map f xs)
IsSorted-map f cmp [] sorted = λ k d low below. absurd (omega (arith, below))
IsSorted-map f cmp (x ∷ xs) sorted = λ k d low below.
    let size = length-map (x ∷ xs) f in
    let inside : k + 1 < length (x ∷ xs) = omega (arith, size, below) in
    let here : k < length (map f (x ∷ xs)) = omega (arith, below) in
    ap (λ y. is_lt (cmp y (get_or (map f (x ∷ xs)) k d))) (at f x xs (k + 1) d below)
    ∙ ap (λ y. is_lt (cmp (f (get_or (x ∷ xs) (k + 1) x)) y)) (at f x xs k d here)
    ∙ sorted k x low inside
