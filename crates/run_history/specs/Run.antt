-- Runs, and runs that have ended.
use Rattle.std.specs.Prelude.{◌≡◌, Bool, true, false, not, ◌&&◌, List, [], ◌∷◌, ◌++◌, IsTrue}
use Rattle.guest_words.specs.declared.ending.Ending.{Ending}
use Rattle.guest_words.specs.State.{State}
use Rattle.run_history.specs.declared.entry.Entry.{Entry, Ended}
use Rattle.run_history.specs.After.{after}
use Rattle.run_history.specs.Legal.{legal}

-- each entry is legal in the state that those before it give
abbrev pub is_run : State → List Entry → Bool
is_run s [] = true
is_run s (e ∷ es) = legal s e && is_run (after s e) es

abbrev pub IsRun : State → List Entry → Type 0
IsRun s es = IsTrue (is_run s es)

abbrev pub is_ended : Entry → Bool
is_ended (Ended ending) = true
is_ended _ = false

-- no entry ends the run
abbrev pub has_no_end : List Entry → Bool
has_no_end [] = true
has_no_end (e ∷ es) = not (is_ended e) && has_no_end es

-- entries that end just with this ending
pub record EndsOnce (es : List Entry) (x : Ending) : Type 0 where
  pub before : List Entry
  pub parts : es ≡ before ++ Ended x ∷ []
  pub none : has_no_end before ≡ true
