-- The count of a Ran of a hart without frames is the greatest: no other count that may stand there is greater.
use Rattle.std.proofs.Common.{◌≡◌, ℕ, zero, suc, ◌<◌, ◌≤◌, Bool, true, false, not, ◌&&◌, ◌||◌, ◌==◌, nat_lt, nat_le, refl, arith}
use Rattle.std.proofs.lemmas.Bool.{both_ways}
use Rattle.std.proofs.lemmas.Bool.Decides.{nat_tests}
use Rattle.guest_words.specs.State.{State}
use Rattle.run_history.specs.declared.entry.Entry.{Ran}
use Rattle.run_history.specs.After.{next, ran}
use Rattle.run_history.specs.Legal.{can_go, can_run, legal, may_act}
use Rattle.run_history.proofs.Ands.{and_left, and_right}
use Rattle.run_history.proofs.RunSteps.{can_run-stops}
use Rattle.lone_schedule.specs.Rows.{can_join, is_row, takes_none, takes_pages}
use Rattle.lone_schedule.specs.Turns.{is_greatest}

legal_run : (s : State) (h n : ℕ) → legal s (Ran h n) ≡ true → (nat_lt 0 n ≡ true) × (can_run s h n ≡ true)
unfolding legal
legal_run s h n is = (and_right (may_act s h) _ (and_left _ _ is), and_right (may_act s h && nat_lt 0 n) _ is)

none_taken : (s : State) (h n m : ℕ) → n < m → takes_none s h m ≡ true → takes_pages (ran s h n) h ≡ false
unfolding takes_none ran
none_taken s h n zero below is = absurd (omega (arith, below))
none_taken s h zero (suc m) below is = by (takes_pages s h) (and_left _ _ is)
  where
    by : (b : Bool) → not b ≡ true → b ≡ false
    by true is = cc
    by false is = refl
none_taken s h (suc n) (suc m) below is = none_taken (next s h) h n m (omega (arith, below)) (and_right (not (takes_pages s h)) _ is)

row_taken : (s : State) (h n m : ℕ) → 0 < n → n < m → is_row s h m ≡ true → takes_pages (ran s h n) h ≡ false
unfolding is_row ran
row_taken s h zero m some below is = absurd (omega (arith, some))
row_taken s h (suc n) zero some below is = absurd (omega (arith, below))
row_taken s h (suc n) (suc m) some below is = none_taken (next s h) h n m (omega (arith, below)) is

stops_at : (n : ℕ) (b : Bool) → n < 64 → ((n == 64) || not b) ≡ true → b ≡ false
stops_at n b less is = by (n == 64) b refl is
  where
    by : (e b : Bool) → (n == 64) ≡ e → (e || not b) ≡ true → b ≡ false
    by true b e is = absurd (grind (arith, nat_tests, e, less))
    by false true e is = cc
    by false false e is = refl

joins_or : (a b : Bool) → (a && not b) ≡ false → b ≡ false → a ≡ false
joins_or true true is none = cc
joins_or true false is none = cc
joins_or false b is none = refl

beyond : (s : State) (h n m : ℕ) → is_greatest s h n ≡ true → legal s (Ran h n) ≡ true → legal s (Ran h m) ≡ true → m ≤ 64 → is_row s h m ≡ true → n < m → ⊥
beyond s h n m most own other few row below =
    let positive = (legal_run s h n own).0 in
    let some : 0 < n = grind (arith, nat_tests, positive) in
    let joins : can_join (ran s h n) h ≡ false = stops_at n (can_join (ran s h n) h) (omega (arith, below, few)) (and_right (nat_le n 64 && is_row s h n) _ most) in
    let goes : can_go (ran s h n) h ≡ false = joins_or (can_go (ran s h n) h) (takes_pages (ran s h n) h) joins (row_taken s h n m some below row) in
    both_ways (can_run s h m) (can_run-stops s h n m below goes) (legal_run s h m other).1

pub is_most : (s : State) (h n m : ℕ) → is_greatest s h n ≡ true → legal s (Ran h n) ≡ true → legal s (Ran h m) ≡ true → m ≤ 64 → is_row s h m ≡ true → m ≤ n
is_most s h n m most own other few row = by (nat_le m n) refl
  where
    by : (b : Bool) → nat_le m n ≡ b → m ≤ n
    by true is = grind (arith, nat_tests, is)
    by false is = let below : n < m = grind (arith, nat_tests, is) in absurd (beyond s h n m most own other few row below)
