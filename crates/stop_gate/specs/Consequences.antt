-- What the rule of a gate says of single passes, in any state that it allows.
use Rattle.std.specs.Prelude.{◌≡◌, ℕ, ◌≤◌, IsTrue, Bool, length, Option}
use mathlib.Core.Option.{some}
use lib.ListN.{get_elem?}
use Rattle.atomic_table.specs.Table.{State}
use Rattle.stop_gate.specs.declared.held.Held.{Ghosts as Held}
use Rattle.stop_gate.specs.declared.view.View.{View}
use Rattle.stop_gate.specs.declared.view.Place.{Place}
use Rattle.stop_gate.specs.Words as word
use Rattle.stop_gate.specs.Words.{stop_bit, over_bit, length_in, IsOut, IsHome}
use Rattle.stop_gate.specs.Places.{is_counted, is_stopping, is_inside, is_alone, has_turn, count_at}
use Rattle.stop_gate.specs.GateRule.{GateRule, AtHome, gate, turn}

module _ {C O : Type 0} (s : State (Option C) (View O)) where
  -- the pass k has this view, and is at such a place
  abbrev pub IsPass : (Place → Bool) → ℕ → View O → Type 0
  IsPass p k v = (get_elem? s.views k ≡ some v) × IsTrue (p v.at)

  -- some pass is at such a place
  abbrev pub SomePass : (Place → Bool) → Type 0
  SomePass p = (k : ℕ) × (v : View O) × IsPass p k v

  -- this is so of each pass at such a place
  abbrev pub EachPass : (Place → Bool) → (View O → Type 0) → Type 0
  EachPass p fact = (k : ℕ) (v : View O) → IsPass p k v → fact v

  -- no two passes are at such places
  abbrev pub NeverTwo : (Place → Bool) → Type 0
  NeverTwo p = (j k : ℕ) (v w : View O) → IsPass p j v → IsPass p k w → j ≡ k

module _ {C O : Type 0} (held : Held C O) where
  -- this is so of each state that the rule allows, for what the value began as
  abbrev pub Always : (O → State (Option C) (View O) → Type 0) → Type 0
  Always fact =
      (began : O) (s : State (Option C) (View O)) → GateRule held began s → fact began s

  -- the low part of GATE is the number of passes that are Backing, Inside or Turning
  abbrev pub LowPartCounts : Type 0
  LowPartCounts = Always (λ _ s. word.low_part (gate s) ≡ count_at is_counted s.views)

  -- where the stop bit is set, a pass is Stopping, Alone or AloneTurning
  abbrev pub StopBitIsRaised : Type 0
  StopBitIsRaised = Always (λ _ s. IsTrue (stop_bit (gate s)) → SomePass s is_stopping)

  -- where a pass is, it is set
  abbrev pub StopperHasTheBit : Type 0
  StopperHasTheBit = Always (λ _ s. EachPass s is_stopping (λ _. IsTrue (stop_bit (gate s))))

  -- no two passes are Stopping, Alone or AloneTurning
  abbrev pub OneStops : Type 0
  OneStops = Always (λ _ s. NeverTwo s is_stopping)

  -- where a pass is Alone or AloneTurning, no pass is Inside or Turning
  abbrev pub AloneIsAlone : Type 0
  AloneIsAlone = Always (λ _ s. SomePass s is_alone → EachPass s is_inside (λ _. ⊥))

  -- where TURN is odd, a pass is Turning or AloneTurning
  abbrev pub OddIsTaken : Type 0
  OddIsTaken = Always (λ _ s. IsOut (turn s) → SomePass s has_turn)

  -- where a pass is, TURN is odd
  abbrev pub TakerMakesOdd : Type 0
  TakerMakesOdd = Always (λ _ s. EachPass s has_turn (λ _. IsOut (turn s)))

  -- no two passes are Turning or AloneTurning
  abbrev pub OneTurns : Type 0
  OneTurns = Always (λ _ s. NeverTwo s has_turn)

  -- a pass that is knows the length and the end that TURN tells
  abbrev pub TakerKnows : Type 0
  TakerKnows = Always (λ _ s. EachPass s has_turn
      (λ v. (v.taken ≡ length_in (turn s)) × (v.over ≡ over_bit (turn s))))

  -- where TURN is even, the slot has a value of the gate's origin, of which TURN tells
  abbrev pub EvenIsHome : Type 0
  EvenIsHome = Always (λ began s. IsHome (turn s) → AtHome held began (turn s) s.homes)

  -- no pass has seen a greater length than TURN tells
  abbrev pub SeenIsThere : Type 0
  SeenIsThere = Always (λ _ s. (k : ℕ) (v : View O) → get_elem? s.views k ≡ some v
      → v.seen ≤ length_in (turn s))

  -- a pass has seen the value over only where TURN tells so
  abbrev pub OverIsTold : Type 0
  OverIsTold = Always (λ _ s. (k : ℕ) (v : View O) → get_elem? s.views k ≡ some v
      → IsTrue v.over → IsTrue (over_bit (turn s)))

  -- there are at most 64 passes
  abbrev pub FewPasses : Type 0
  FewPasses = Always (λ _ s. length s.views ≤ 64)
