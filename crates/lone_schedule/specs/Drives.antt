-- What the steps of the thread do, and what they need.
use Rattle.std.specs.Prelude.{◌≡◌, ◌⊎◌, ℕ, ◌+◌, ◌<◌, true, false, not, ◌||◌, if◌then◌else◌, List, [], ◌∷◌, ◌++◌, length, Some, None, is_none}
use Rattle.guest_words.specs.declared.point.PointRef.{PointRef}
use Rattle.guest_words.specs.State.{State, enter}
use Rattle.run_history.specs.declared.entry.Entry.{Entry, Entered}
use Rattle.run_history.specs.After.{state_after}
use Rattle.run_history.specs.Counts.{steps_of_all}
use Rattle.run_history.specs.Legal.{IsLegal}
use Rattle.run_history.specs.Run.{IsRun}
use Rattle.open_calls.specs.Nest.{lowest}
use Rattle.machine_core.specs.Machine.{GoesOn, IsAsTold, Machine, Opened, whole}
use Rattle.lone_schedule.specs.Ahead.{turns_ahead}
use Rattle.lone_schedule.specs.Turns.{goes_on, is_turn, is_turn_of}
use Rattle.lone_schedule.specs.Lone.{are_turns, joined, IsLoneRun}
use Rattle.seed_words.specs.Words.{words_at}
use Rattle.rand_pcg.specs.Lcg.{Lcg}

-- a machine can make a turn of a run that began so
pub record CanTurn (start : State) (m : Machine) : Type 0 where
  pub going : m.state.ending ≡ None
  pub kept : m.abandoned ≡ false
  pub slots : 0 < length m.state.slots
  pub told : IsAsTold start m

-- a hart has entered a point in a state behind these entries, and gone on by the rules of a turn
pub record InTurn (h : ℕ) (before : List Entry) (s : State) (m : Machine) : Type 0 where
  pub point : PointRef
  pub rest : List Entry
  pub enters : IsLegal s (Entered h point)
  pub follows : m.history ≡ before ++ Entered h point ∷ rest
  pub runs : IsRun (enter s h point) rest
  pub reaches : m.state ≡ state_after (enter s h point) rest
  pub goes : goes_on (enter s h point) h false rest ≡ true
  -- while the run goes on a step has been made, but where nothing is behind the entering
  pub moved : m.state.ending ≡ None → (rest ≡ []) ⊎ (0 < steps_of_all rest)

-- the calls that are open have been entered so since the machine was ready for a turn
pub record IsCalling (start : State) (a : Opened) : Type 0 where
  pub from : Machine
  pub can : CanTurn start from
  pub outermost : lowest a.nest ≡ from.history
  pub turn : InTurn a.hart from.history from.state (whole a)
  pub goes : GoesOn a

-- a machine has these entries behind those before, from this state; less is ahead where it goes on
pub record Made (before : List Entry) (s : State) (n : Machine) (es : List Entry) : Type 0 where
  pub follows : n.history ≡ before ++ es
  pub reaches : n.state ≡ state_after s es
  pub nearer : n.state.ending ≡ None → n.abandoned ≡ false → turns_ahead n.state < turns_ahead s

-- a hart has made its turn
pub record MakesTurn (h : ℕ) (before : List Entry) (s : State) (n : Machine) : Type 0 where
  pub first : Entry
  pub rest : List Entry
  pub made : Made before s n (first ∷ rest)
  pub is : is_turn_of s (Some h) first rest ≡ true

-- nothing has happened, and the machine isn't to go on
pub record GivesUp (m n : Machine) : Type 0 where
  pub follows : n.history ≡ m.history
  pub reaches : n.state ≡ m.state
  pub abandoned : n.abandoned ≡ true

-- a turn for a word
pub record TakesTurn (w : ℕ) (m n : Machine) : Type 0 where
  pub entries : List Entry
  pub made : Made m.history m.state n entries
  pub is : is_turn m.state w entries ≡ true

-- entries behind those of a machine are the run that one thread makes by the words of a seed
pub record RunsAlone (seed : ℕ) (m n : Machine) : Type 0 where
  pub entries : List Entry
  pub follows : n.history ≡ m.history ++ entries
  pub lone : IsLoneRun m.state seed entries

-- how a machine stands behind some turns from another, with the words of a seed that are left
pub record Stands (seed : ℕ) (from m : Machine) (words : Lcg) : Type 0 where
  pub turns : List (List Entry)
  pub follows : m.history ≡ from.history ++ joined turns
  pub reaches : m.state ≡ state_after from.state (joined turns)
  pub are : are_turns from.state seed 0 turns ≡ true
  -- the next word is that of the next turn
  pub next : m.abandoned ≡ false → words ≡ words_at seed (length turns)

-- the turns ahead of a machine, which has none where it isn't to go on
abbrev pub turns_left : Machine → ℕ
turns_left m =
    if m.abandoned || not (is_none m.state.ending) then 0 else turns_ahead m.state + 1
