-- One act more of a run, by the act of the hart.
use Rattle.std.proofs.Common.{◌≡◌, ℕ, zero, suc, ◌+◌, ◌<◌, ◌≤◌, Bool, true, false, not, ◌&&◌, refl, ap, sym, ◌∙◌, arith, nat_eq, inl, inr}
use Rattle.std.proofs.lemmas.Bool.{and_from}
use Rattle.std.proofs.lemmas.Bool.Decides.{eqb_tells}
use Rattle.guest_words.specs.Act.{StateAct, Ordinary, Fault, Request, Arrival, End, Absent, act_of}
use Rattle.guest_words.specs.Endings.{is_budget_spent}
use Rattle.guest_words.specs.State.{State}
use Rattle.run_history.specs.After.{counted, moved, next, ran}
use Rattle.run_history.specs.Legal.{can_go, can_run, is_ordinary, is_ready_at}
use Rattle.run_history.proofs.Ands.{and_left, and_right}

pub next-ordinary : (s t : State) (h : ℕ) → act_of s h ≡ Ordinary t → next s h ≡ counted s t
unfolding next
next-ordinary s t h act = ap (moved s) act

-- where the act isn't ordinary, nothing changes
pub next-still : (s : State) (h : ℕ) → is_ordinary (act_of s h) ≡ false → next s h ≡ s
unfolding next
next-still s h other = by (act_of s h) other
  where
    by : (a : StateAct) → is_ordinary a ≡ false → moved s a ≡ s
    by (Ordinary t) e = cc
    by (Fault name) e = refl
    by (Request way port asked place) e = refl
    by (Arrival point) e = refl
    by (End code) e = refl
    by Absent e = refl

pub can_run-ordinary : (s t : State) (h n : ℕ) → is_budget_spent s ≡ false → is_ready_at s h ≡ true → act_of s h ≡ Ordinary t
    → can_run (counted s t) h n ≡ true → can_run s h (suc n) ≡ true
unfolding can_run
can_run-ordinary s t h n fresh ready act rest =
    and_from _ _ (and_from _ _ (and_from _ _ (ap not fresh) ready) (ap is_ordinary act)) (ap (λ u. can_run u h n) (next-ordinary s t h act) ∙ rest)

pub ran-ordinary : (s t : State) (h n : ℕ) → act_of s h ≡ Ordinary t → ran s h (suc n) ≡ ran (counted s t) h n
unfolding ran
ran-ordinary s t h n act = ap (λ u. ran u h n) (next-ordinary s t h act)

-- so many acts, and so many more
pub ran-both : (s : State) (h n m : ℕ) → ran s h (n + m) ≡ ran (ran s h n) h m
unfolding ran
ran-both s h zero m = let none : 0 + m ≡ m = omega arith in ap (ran s h) none
ran-both s h (suc n) m = let first : suc n + m ≡ suc (n + m) = omega arith in ap (ran s h) first ∙ ran-both (next s h) h n m

pub can_run-both : (s : State) (h n m : ℕ) → can_run s h n ≡ true → can_run (ran s h n) h m ≡ true → can_run s h (n + m) ≡ true
unfolding can_run ran
can_run-both s h zero m so_far more = let none : 0 + m ≡ m = omega arith in ap (can_run s h) none ∙ more
can_run-both s h (suc n) m so_far more =
    let first : suc n + m ≡ suc (n + m) = omega arith in
    ap (can_run s h) first
    ∙ and_from _ _ (and_left (can_go s h) (can_run (next s h) h n) so_far) (can_run-both (next s h) h n m (and_right (can_go s h) (can_run (next s h) h n) so_far) more)

-- one act alone
pub ran-one : (s : State) (h : ℕ) → ran s h 1 ≡ next s h
unfolding ran
ran-one s h = refl

pub can_run-one : (s : State) (h : ℕ) → can_go s h ≡ true → can_run s h 1 ≡ true
unfolding can_run
can_run-one s h goes = and_from _ true goes refl

-- and one more at the end
pub ran-more : (s : State) (h n : ℕ) → ran s h (n + 1) ≡ next (ran s h n) h
ran-more s h n = ran-both s h n 1 ∙ ran-one (ran s h n) h

pub can_run-more : (s : State) (h n : ℕ) → can_run s h n ≡ true → can_go (ran s h n) h ≡ true → can_run s h (n + 1) ≡ true
can_run-more s h n so_far goes = can_run-both s h n 1 so_far (can_run-one (ran s h n) h goes)

pub ran-none : (s : State) (h : ℕ) → ran s h 0 ≡ s
unfolding ran
ran-none s h = refl

pub can_run-none : (s : State) (h : ℕ) → can_run s h 0 ≡ true
unfolding can_run
can_run-none s h = refl

-- where the hart can't go on after so many acts, no longer run is one
pub can_run-stops : (s : State) (h n m : ℕ) → n < m → can_go (ran s h n) h ≡ false → can_run s h m ≡ false
unfolding can_run ran
can_run-stops s h zero zero below stuck = absurd (omega arith)
can_run-stops s h zero (suc m) below stuck = ap (λ b. b && can_run (next s h) h m) stuck
can_run-stops s h (suc n) zero below stuck = absurd (omega arith)
can_run-stops s h (suc n) (suc m) below stuck =
    ap (λ b. can_go s h && b) (can_run-stops (next s h) h n m (omega arith) stuck) ∙ none (can_go s h)
  where
    none : (b : Bool) → (b && false) ≡ false
    none true = refl
    none false = refl

-- a run of so many acts is one exactly where just so many can be made
pub can_run-is : (s : State) (h made count : ℕ) → made ≤ count → can_run s h made ≡ true → (made < count → can_go (ran s h made) h ≡ false) → nat_eq made count ≡ can_run s h count
can_run-is s h made count within so_far stops =
    elim (eqb_tells made count) [
      | inl same ↦ same.0 ∙ sym (ap (can_run s h) (sym same.1) ∙ so_far)
      | inr other ↦ let apart = other.1 in let below : made < count = omega (arith, within, apart) in other.0 ∙ sym (can_run-stops s h made count below (stops below))
    ]
