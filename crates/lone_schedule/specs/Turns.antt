-- The turns of a run that one thread makes by the words of a seed.
use Rattle.std.specs.Prelude.{ℕ, zero, suc, Bool, true, false, not, ◌&&◌, ◌||◌, ◌==◌, nat_lt, nat_le, if◌then◌else◌, List, [], ◌∷◌, Option, Some, None, is_none}
use Rattle.guest_words.specs.declared.ending.Ending.{Ending}
use Rattle.guest_words.specs.declared.ending.Ending.TheVariants as ending
use Rattle.guest_words.specs.Endings.{is_budget_spent, is_stuck}
use Rattle.guest_words.specs.State.{State, frames_at}
use Rattle.run_history.specs.declared.entry.Entry.{Entry, Ran, Ended}
use Rattle.run_history.specs.After.{next, ran, after}
use Rattle.run_history.specs.Legal.{is_of}
use Rattle.run_history.specs.Quiet.{is_quiet}
use Rattle.lone_schedule.specs.Choice.{chosen}
use Rattle.lone_schedule.specs.Insides.{is_ran, is_apart}
use Rattle.lone_schedule.specs.Rows.{can_join, is_row}

-- a turn is over: no frame is open, or the run has ended
abbrev pub is_over : State → Bool
is_over s = is_quiet s || not (is_none s.ending)

-- the run ends without a word
abbrev pub is_due : State → Bool
is_due s = is_budget_spent s || is_stuck s

-- an ending names this hart
abbrev pub ends_hart : ℕ → Ending → Bool
ends_hart h (ending.Exit hart code) = hart == h
ends_hart h (ending.Fault hart fault) = hart == h
ends_hart h _ = false

abbrev pub is_budget : Ending → Bool
is_budget ending.Budget = true
is_budget _ = false

-- a Ran of a hart without frames has the greatest count: 64, or the row can't go on after it
abbrev pub is_greatest : State → ℕ → ℕ → Bool
is_greatest s h count =
    nat_le count 64 && is_row s h count && ((count == 64) || not (can_join (ran s h count) h))

-- each of so many acts of a hart begins with a frame of it open
unfoldable pub stays_open : State → ℕ → ℕ → Bool
stays_open s h zero = true
stays_open s h (suc count) = nat_lt 0 (frames_at s h) && stays_open (next s h) h count

-- an entry may begin a turn of this hart
abbrev pub begins : State → ℕ → Entry → Bool
begins s h (Ran hart count) = (hart == h) && is_greatest s h count
begins s h (Ended ending) = ends_hart h ending
begins s h e = is_of h e && is_apart e

-- an entry may stand in the rest of a turn of this hart
abbrev pub follows : State → ℕ → Entry → Bool
follows s h (Ran hart count) = (hart == h) && stays_open s h count
follows s h (Ended ending) = ends_hart h ending || is_budget ending
follows s h e = is_of h e && is_apart e

-- the rest of a turn: it isn't over before an entry, and no Ran stands directly behind a Ran
abbrev pub goes_on : State → ℕ → Bool → List Entry → Bool
goes_on s h ran [] = true
goes_on s h ran (e ∷ es) =
    not (is_over s) && not (ran && is_ran e) && follows s h e
    && goes_on (after s e) h (is_ran e) es

-- the one entry of a turn that draws no word
abbrev pub is_last : Entry → List Entry → Bool
is_last (Ended ending) [] = true
is_last _ _ = false

-- a turn of the hart that was chosen
abbrev pub is_turn_of : State → Option ℕ → Entry → List Entry → Bool
is_turn_of s None e es = false
is_turn_of s (Some h) e es = begins s h e && goes_on (after s e) h (is_ran e) es

-- a turn, or its part so far, for which this is the next word
abbrev pub is_turn : State → ℕ → List Entry → Bool
is_turn s w [] = false
is_turn s w (e ∷ es) = if is_due s then is_last e es else is_turn_of s (chosen s w) e es
