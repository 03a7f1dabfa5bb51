-- Waking, one waiter after the other.
use Rattle.std.proofs.Common.{◌≡◌, ◌<◌, ◌-◌, ℕ, zero, suc, Bool, true, false, cond, if◌then◌else◌, List, [], ◌∷◌, take, refl, ap, ◌∙◌, arith}
use Rattle.std.specs.List.{filter}
use Rattle.guest_words.specs.declared.hart.Waiter.{Waiter}
use Rattle.guest_words.specs.CallChanges.{waits_at, woken, unwoken}

-- a list whose first element is left out or stays, and is spent longer looked at
skipped : (left : ℕ) (x : Waiter) (xs : List Waiter) (b : Bool) → (b ≡ true → suc left ≡ 0) → take (suc left) (cond b (x ∷ xs) xs) ≡ take (suc left) xs
skipped left x xs true spent = absurd (omega (arith, spent refl))
skipped left x xs false spent = refl

stays : (left : ℕ) (x : Waiter) (xs ys : List Waiter) (b : Bool) → (b ≡ true → suc left ≡ 0) → (if b then ys else x ∷ xs) ≡ x ∷ xs
stays left x xs ys true spent = absurd (omega (arith, spent refl))
stays left x xs ys false spent = refl

pub woken-wakes : (place left : ℕ) (x : Waiter) (xs : List Waiter) → waits_at place x ≡ true → 0 < left → woken place left (x ∷ xs) ≡ x ∷ woken place (left - 1) xs
woken-wakes place zero x xs waits some = absurd (omega (arith, some))
woken-wakes place (suc left) x xs waits some =
    let one : left ≡ suc left - 1 = omega arith in
    ap (λ b. take (suc left) (cond b (x ∷ filter (waits_at place) xs) (filter (waits_at place) xs))) waits
    ∙ ap (λ n. x ∷ woken place n xs) one

pub woken-passes : (place left : ℕ) (x : Waiter) (xs : List Waiter) → (waits_at place x ≡ true → left ≡ 0) → woken place left (x ∷ xs) ≡ woken place left xs
woken-passes place zero x xs spent = refl
woken-passes place (suc left) x xs spent = skipped left x (filter (waits_at place) xs) (waits_at place x) spent

pub woken-none : (place left : ℕ) → woken place left [] ≡ []
woken-none place zero = refl
woken-none place (suc left) = refl

pub unwoken-wakes : (place left : ℕ) (x : Waiter) (xs : List Waiter) → waits_at place x ≡ true → 0 < left → unwoken place left (x ∷ xs) ≡ unwoken place (left - 1) xs
unfolding unwoken
unwoken-wakes place zero x xs waits some = absurd (omega (arith, some))
unwoken-wakes place (suc left) x xs waits some =
    let one : left ≡ suc left - 1 = omega arith in
    ap (λ b. if b then unwoken place left xs else x ∷ unwoken place (suc left) xs) waits ∙ ap (λ n. unwoken place n xs) one

pub unwoken-passes : (place left : ℕ) (x : Waiter) (xs : List Waiter) → (waits_at place x ≡ true → left ≡ 0) → unwoken place left (x ∷ xs) ≡ x ∷ unwoken place left xs
unfolding unwoken
unwoken-passes place zero x [] spent = refl
unwoken-passes place zero x (y ∷ xs) spent = refl
unwoken-passes place (suc left) x xs spent =
    stays left x (unwoken place (suc left) xs) (unwoken place left xs) (waits_at place x) spent

pub unwoken-none : (place left : ℕ) → unwoken place left [] ≡ []
unfolding unwoken
unwoken-none place zero = refl
unwoken-none place (suc left) = refl
