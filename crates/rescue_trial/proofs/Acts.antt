-- The first of some acts in a row, and the calls of a hart over them.
use Rattle.std.proofs.Common.{◌≡◌, ℕ, zero, suc, ◌-◌, ◌<◌, Bool, true, ◌&&◌, nat_lt, List, [], ◌∷◌, refl, ap, subst, arith}
use Rattle.std.proofs.lemmas.Bool.{and_parts}
use Rattle.guest_words.specs.declared.hart.Frame.{Frame}
use Rattle.guest_words.specs.State.{State}
use Rattle.run_history.specs.declared.entry.Entry.{Entry, Ran}
use Rattle.run_history.specs.After.{after, next, ran}
use Rattle.run_history.specs.Legal.{can_go, can_run, legal, may_act}
use Rattle.rescue_trial.specs.Path.{calls_by, calls_over, calls_ran, stepped}

less-one : (n : ℕ) → n ≡ suc n - 1
less-one n = omega arith

pub can_run-first : (s : State) (h n : ℕ) → 0 < n → can_run s h n ≡ true → (can_go s h ≡ true) × (can_run (next s h) h (n - 1) ≡ true)
unfolding can_run
can_run-first s h zero some runs = absurd (omega (arith, some))
can_run-first s h (suc n) some runs =
    let parts = and_parts (can_go s h) (can_run (next s h) h n) runs in
    (parts.0, subst (λ k. can_run (next s h) h k ≡ true) (less-one n) parts.1)

pub ran-first : (s : State) (h n : ℕ) → 0 < n → ran s h n ≡ ran (next s h) h (n - 1)
unfolding ran
ran-first s h zero some = absurd (omega (arith, some))
ran-first s h (suc n) some = ap (ran (next s h) h) (less-one n)

pub calls_ran-first : (function : ℕ → Bool) (h g n : ℕ) (s : State) (calls : List Frame) → 0 < n
    → calls_ran function h g n s calls ≡ calls_ran function h g (n - 1) (next s g) (stepped function h g s (next s g) calls)
unfolding calls_ran
calls_ran-first function h g zero s calls some = absurd (omega (arith, some))
calls_ran-first function h g (suc n) s calls some =
    ap (λ k. calls_ran function h g k (next s g) (stepped function h g s (next s g) calls)) (less-one n)

pub calls_ran-none : (function : ℕ → Bool) (h g : ℕ) (s : State) (calls : List Frame) → calls_ran function h g 0 s calls ≡ calls
unfolding calls_ran
calls_ran-none function h g s calls = refl

pub can_run-legal : (s : State) (h n : ℕ) → legal s (Ran h n) ≡ true → can_run s h n ≡ true
unfolding legal
can_run-legal s h n is = (and_parts (may_act s h && nat_lt 0 n) (can_run s h n) is).1

pub calls_over-none : (function : ℕ → Bool) (h : ℕ) (s : State) (calls : List Frame) → calls_over function h s [] calls ≡ calls
unfolding calls_over
calls_over-none function h s calls = refl

pub calls_over-first : (function : ℕ → Bool) (h : ℕ) (s : State) (e : Entry) (es : List Entry) (calls : List Frame)
    → calls_over function h s (e ∷ es) calls ≡ calls_over function h (after s e) es (calls_by function h s e calls)
unfolding calls_over
calls_over-first function h s e es calls = refl
