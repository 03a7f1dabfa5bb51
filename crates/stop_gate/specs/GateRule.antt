-- The rule of a gate: what its words, its slot and its passes say of one another between two steps.
use Rattle.std.specs.Prelude.{◌≡◌, ℕ, ◌+◌, ◌/◌, ◌%◌, ◌^◌, ◌<◌, ◌≤◌, IsTrue, List, [], ◌∷◌, length, slice_index, Option, Some}
use mathlib.Core.Option.{some}
use mathlib.Core.Option as maybe
use lib.ListN.{get_elem?}
use Rattle.atomic_table.specs.Table.{State}
use Rattle.stop_gate.specs.declared.held.Held.{Ghosts as Held}
use Rattle.stop_gate.specs.declared.view.View.{View}
use Rattle.stop_gate.specs.Words as word
use Rattle.stop_gate.specs.Words.{length_in, over_bit, IsHome}
use Rattle.stop_gate.specs.Places.{is_counted, is_stopping, is_inside, is_alone, has_turn, count_at, spares}

-- what lies in the slots of a table: none where a slot is out with a pass
abbrev pub Slots : Type 0 → Type 0
Slots C = List (maybe.Option (Option C))

-- the two words
abbrev pub gate : {S V : Type 0} → State S V → ℕ
gate s = slice_index s.words 0

abbrev pub turn : {S V : Type 0} → State S V → ℕ
turn s = slice_index s.words 1

-- the value's length and end are those in TURN
abbrev pub Tells : {C O : Type 0} → Held C O → ℕ → C → Type 0
Tells held turn value =
    (held.length value ≡ length_in turn) × (held.over value ≡ over_bit turn)

-- the slot has a value that began as this, and TURN tells of it
pub record AtHome {C O : Type 0} (held : Held C O) (began : O) (turn : ℕ)
    (slots : Slots C) : Type 0 where
  pub value : C
  pub lies : slots ≡ some (Some value) ∷ []
  pub told : Tells held turn value
  pub origin : held.origin value ≡ began

-- what a pass knows of TURN, and of what the value began as
pub record Knows {O : Type 0} (began : O) (turn : ℕ) (v : View O) : Type 0 where
  -- it has seen no greater length
  pub seen : v.seen ≤ length_in turn
  -- it has seen the value over only where that bit is set
  pub over : IsTrue v.over → IsTrue (over_bit turn)
  -- with the turn, it knows the length and the end of the value as it was taken
  pub taken : IsTrue (has_turn v.at) → (v.taken ≡ length_in turn) × (v.over ≡ over_bit turn)
  pub origin : v.origin ≡ began

-- the rule, for a gate whose value began as this
pub record GateRule {C O : Type 0} (held : Held C O) (began : O)
    (s : State (Option C) (View O)) : Type 0 where
  pub two_words : length s.words ≡ 2
  pub one_slot : length s.homes ≡ 1
  -- the low part of GATE is the number of passes that are Backing, Inside or Turning
  pub low_part : word.low_part (gate s) ≡ count_at is_counted s.views
  -- the stop bit is set exactly where a pass is Stopping, Alone or AloneTurning
  pub stop_bit : gate s / 2 ^ 63 ≡ count_at is_stopping s.views
  -- and there is never a second such pass
  pub one_stops : count_at is_stopping s.views ≤ 1
  -- where a pass is Alone or AloneTurning, none is Inside or Turning
  pub alone : 0 < count_at is_alone s.views → count_at is_inside s.views ≡ 0
  -- TURN is odd exactly where a pass is Turning or AloneTurning, and there is never a second
  pub one_turns : turn s % 2 ≡ count_at has_turn s.views
  -- where TURN is even, the value is at home
  pub home : IsHome (turn s) → AtHome held began (turn s) s.homes
  -- each pass knows of the value what TURN tells, or less
  pub knows : (k : ℕ) (v : View O) → get_elem? s.views k ≡ some v → Knows began (turn s) v
  -- the passes, and those that may still be made, are at most 64
  pub room : length s.views + spares s.views ≤ 64
