-- Runs that one thread makes by the words of a seed.
use Rattle.std.specs.Prelude.{◌≡◌, ℕ, ◌+◌, Bool, true, ◌&&◌, ◌||◌, List, [], ◌∷◌, ◌++◌, false}
use Rattle.guest_words.specs.State.{State}
use Rattle.run_history.specs.declared.entry.Entry.{Entry}
use Rattle.run_history.specs.After.{state_after}
use Rattle.lone_schedule.specs.Turns.{is_over, is_turn}
use Rattle.seed_words.specs.Words.{word}

-- the entries of all turns, in order
abbrev pub joined : List (List Entry) → List Entry
joined [] = []
joined (turn ∷ turns) = turn ++ joined turns

abbrev pub is_end : List (List Entry) → Bool
is_end [] = true
is_end _ = false

-- each turn is one for the word of its number, and is over, but for the last, which may be cut off
unfoldable pub are_turns : State → ℕ → ℕ → List (List Entry) → Bool
are_turns s seed drawn [] = true
are_turns s seed drawn (turn ∷ turns) =
    is_turn s (word seed drawn) turn && (is_end turns || is_over (state_after s turn))
    && are_turns (state_after s turn) seed (drawn + 1) turns

-- entries from a state are the run that one thread makes by the words of a seed, or its part so far
pub record IsLoneRun (s : State) (seed : ℕ) (es : List Entry) : Type 0 where
  pub turns : List (List Entry)
  pub parts : es ≡ joined turns
  pub are : are_turns s seed 0 turns ≡ true
