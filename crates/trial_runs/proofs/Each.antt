-- Lists that go with each other, one more on each side.
use Rattle.std.proofs.Common.{ℕ, ◌+◌, ◌<◌, List, [], ◌∷◌, ◌++◌, length, take, get_or, sym, subst}
use Rattle.std.proofs.lemmas.List.{take_more}
use Rattle.std.specs.List.{AllZip}

AllZip-push : {A B : Type 0} (R : A → B → Type 0) (xs : List A) (ys : List B) (x : A) (y : B) → AllZip R xs ys → R x y
    → AllZip R (xs ++ x ∷ []) (ys ++ y ∷ [])
AllZip-push R [] [] x y each last = (last, tt)
AllZip-push R [] (z ∷ ys) x y each last = absurd each
AllZip-push R (w ∷ xs) [] x y each last = absurd each
AllZip-push R (w ∷ xs) (z ∷ ys) x y each last = (each.0, AllZip-push R xs ys x y each.1 last)

pub AllZip-more : {A B : Type 0} (R : A → B → Type 0) (xs : List A) (ys : List B) (i : ℕ) (d : A) (y : B) → i < length xs
    → AllZip R (take i xs) ys → R (get_or xs i d) y → AllZip R (take (i + 1) xs) (ys ++ y ∷ [])
AllZip-more {A} R xs ys i d y below each last =
    subst (λ (l : List A). AllZip R l (ys ++ y ∷ [])) (sym (take_more xs i d below)) (AllZip-push R (take i xs) ys (get_or xs i d) y each last)
