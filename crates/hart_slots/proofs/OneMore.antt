-- One more of so many equal elements.
use Rattle.std.proofs.Common.{◌≡◌, ℕ, suc, ◌+◌, ◌-◌, ◌<◌, ◌∷◌, ap, arith, replicate}

pub one_more : {X : Type 0} (n i : ℕ) (x : X) → i < n → replicate (n - i) x ≡ x ∷ replicate (n - (i + 1)) x
one_more n i x below = let left : n - i ≡ suc (n - (i + 1)) = omega arith in ap (λ k. replicate k x) left
