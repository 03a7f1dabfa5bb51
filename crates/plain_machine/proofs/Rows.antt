-- Acts of a hart in a row.
use Rattle.std.proofs.Common.{◌≡◌, ℕ, ◌+◌, true, ap, sym, ◌∙◌}
use Rattle.guest_words.specs.State.{State}
use Rattle.run_history.specs.After.{ran}
use Rattle.run_history.specs.Legal.{can_run}
use Rattle.run_history.proofs.RunSteps.{can_run-both, ran-both}

-- so many acts of a hart can be made, and give a state
pub record Made (s : State) (h count : ℕ) (t : State) : Type 0 where
  pub goes : can_run s h count ≡ true
  pub at : t ≡ ran s h count

-- and so many more
pub made-more : (s t u : State) (h n m : ℕ) → can_run s h n ≡ true → t ≡ ran s h n → can_run t h m ≡ true → u ≡ ran t h m → Made s h (n + m) u
made-more s t u h n m so_far at more then =
    record {
      goes = can_run-both s h n m so_far (ap (λ v. can_run v h m) (sym at) ∙ more);
      at = then ∙ ap (λ v. ran v h m) at ∙ sym (ran-both s h n m);
    }
