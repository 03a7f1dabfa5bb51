-- What a walk leaves of a file says whether the file's rule is kept.
use Rattle.std.proofs.Common.{arith, suc, ◌≡◌, ℕ, Bool, true, false, ◌&&◌, ◌==◌, List, [], ◌∷◌, ◌++◌, take, drop, length, Option, Some, None, is_some, refl, ap, sym, ◌∙◌}
use Rattle.std.specs.Prelude.{if◌then◌else◌, nat_eq, option_map}
use Rattle.std.specs.List.{flat_map}
use Rattle.std.proofs.lemmas.Bool.Decides.{nat_tests}
use Rattle.std.proofs.lemmas.Cmp.{nat_eq_equiv}
use lib.Pointwise.{pointwise}
use Rattle.guest_words.specs.declared.record.Record.{Record}
use Rattle.edge_ports.specs.Records.{given_bytes, taken_bytes}
use Rattle.rescue_audit.specs.declared.walk.Side.TheVariants.{Input, Output}
use Rattle.rescue_audit.specs.Matches.{begins, gives, is_at_end, takes_from}
use Rattle.rescue_audit.specs.Walk.{left_after, left_behind, left_by}

pub some_mapped : {A : Type 0} (f : A → List ℕ) (o : Option A) → is_some o ≡ is_some (option_map f o)
some_mapped f None = refl
some_mapped f (Some x) = refl

taken_on : (a b : Bool) (d : List ℕ) (rs : List Record) → is_some (left_after Input d rs) ≡ takes_from d rs
    → is_some (left_behind (λ rest. left_after Input rest rs) (if a && b then Some d else None)) ≡ (a && b && takes_from d rs)
taken_on true true d rs ih = ih
taken_on true false d rs ih = refl
taken_on false b d rs ih = refl

pub takes_is : (left : List ℕ) (rs : List Record) → is_some (left_after Input left rs) ≡ takes_from left rs
unfolding left_after takes_from
takes_is left [] = refl
takes_is left (r ∷ rs) =
    let rest = drop (length (taken_bytes r)) left in
    taken_on (is_at_end left r) (begins left (taken_bytes r)) rest rs (takes_is rest rs)

abbrev pub is_emptied : Option (List ℕ) → Bool
is_emptied None = false
is_emptied (Some left) = length left == 0

and_assoc : (a b c : Bool) → (a && (b && c)) ≡ ((a && b) && c)
and_assoc true b c = refl
and_assoc false b c = refl

split : (xs ys left : List ℕ) → pointwise nat_eq (xs ++ ys) left ≡ (pointwise nat_eq (take (length xs) left) xs && pointwise nat_eq ys (drop (length xs) left))
split [] ys left = refl
split (x ∷ xs) ys [] = refl
split (x ∷ xs) ys (y ∷ left) =
    let front = pointwise nat_eq (take (length xs) left) xs in
    let back = pointwise nat_eq ys (drop (length xs) left) in
    ap (λ (t : Bool). nat_eq x y && t) (split xs ys left)
    ∙ ap (λ (t : Bool). t && (front && back)) (nat_eq_equiv.symm x y)
    ∙ and_assoc (nat_eq y x) front back

given_on : (b : Bool) (d : List ℕ) (f : List ℕ → Option (List ℕ)) → is_emptied (left_behind f (if b then Some d else None)) ≡ (b && is_emptied (f d))
given_on true d f = refl
given_on false d f = refl

not_zero : (n : ℕ) → (suc n == 0) ≡ false
not_zero n = grind (arith, nat_tests)

pub gives_is : (left : List ℕ) (rs : List Record) → is_emptied (left_after Output left rs) ≡ gives left rs
unfolding left_after
gives_is [] [] = refl
gives_is (x ∷ left) [] = not_zero (length left)
gives_is left (r ∷ rs) =
    let rest = drop (length (given_bytes r)) left in
    given_on (begins left (given_bytes r)) rest (λ left. left_after Output left rs)
    ∙ ap (λ (t : Bool). begins left (given_bytes r) && t) (gives_is rest rs)
    ∙ sym (split (given_bytes r) (flat_map given_bytes rs) left)
