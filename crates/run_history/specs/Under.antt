-- A hart whose calls of points can go on.
use Rattle.std.specs.Prelude.{◌≡◌, ℕ, true, None}
use Rattle.guest_words.specs.State.{State}
use Rattle.run_history.specs.Legal.{is_alone, is_ready_at}

-- the run goes on, the hart is ready, and no other has a frame open
pub record IsUnder (s : State) (h : ℕ) : Type 0 where
  pub going : s.ending ≡ None
  pub ready : is_ready_at s h ≡ true
  pub alone : is_alone s h ≡ true
