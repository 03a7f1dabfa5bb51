-- Tests that are joined, and what holds of either way.
use Rattle.std.proofs.Common.{◌≡◌, ◌≢◌, ◌⊎◌, inl, inr, ℕ, zero, suc, Bool, true, false, ◌&&◌, if◌then◌else◌, refl, ap, arith}

pub and_left : (a b : Bool) → (a && b) ≡ true → a ≡ true
and_left true b p = refl
and_left false b p = p

pub and_right : (a b : Bool) → (a && b) ≡ true → b ≡ true
and_right true b p = p
and_right false b p = cc

pub and_joined : (a b c : Bool) → (a && (b && c)) ≡ (a && b && c)
and_joined true b c = refl
and_joined false b c = refl

-- what holds of both ways holds of the one that is taken
pub if_by : {A : Type 0} (P : A → Type 0) (b : Bool) (x y : A) → (b ≡ true → P x) → (b ≡ false → P y) → P (if b then x else y)
if_by P true x y p q = p refl
if_by P false x y p q = q refl

pub same_or : (k h : ℕ) → (k ≡ h) ⊎ (k ≢ h)
same_or zero zero = inl refl
same_or zero (suc h) = inr (λ e. omega (arith, e))
same_or (suc k) zero = inr (λ e. omega (arith, e))
same_or (suc k) (suc h) = elim (same_or k h) [
  | inl e ↦ inl (ap suc e)
  | inr apart ↦ inr (λ e. apart (omega (arith, e)))
]
