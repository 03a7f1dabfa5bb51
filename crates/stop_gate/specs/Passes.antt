-- What contracts see of a gate and of its passes.
use Rattle.std.specs.Prelude.{◌≡◌, ℕ, ◌+◌, ◌≤◌, IsTrue, [], ◌∷◌, Option, None}
use Rattle.atomic_table.specs.Seated.{TableId}
use Rattle.atomic_table.specs.declared.shared.Seat.{Seat}
use Rattle.stop_gate.specs.declared.held.Held.{Ghosts as Held}
use Rattle.stop_gate.specs.declared.view.View.{View}
use Rattle.stop_gate.specs.declared.view.Place.{Place}
use Rattle.stop_gate.specs.GateRule.{Slots}
use Rattle.stop_gate.specs.Views.{new_view}
use Rattle.stop_gate.specs.Steps.{StepOnGate, StepOnTurn}

-- a pass: whose gate's it is, its number among the passes of that gate, and what it knows
pub record Pass (O : Type 0) : Type 0 where
  pub table : TableId
  pub number : ℕ
  pub view : View O

-- a gate: which it is, and what its value began as
pub record Identity (O : Type 0) : Type 0 where
  pub table : TableId
  pub origin : O

-- the table has two words and one slot
abbrev pub IsGateTable : TableId → Type 0
IsGateTable table = (table.words ≡ 2) × (table.slots ≡ 1)

abbrev pub pass_of : {C O : Type 0} → Seat (Option C) (View O) → Pass O
pass_of s = record { table = s.table_id; number = s.id; view = s.me.0 }

abbrev pub identity : {O : Type 0} → TableId → O → Identity O
identity table origin = record { table = table; origin = origin }

module _ {C O : Type 0} where
  -- the seat of a pass at this place, which has not the slot
  abbrev pub IsAt : Place → Seat (Option C) (View O) → Type 0
  IsAt at s = (s.me.0.at ≡ at) × (s.me.1 ≡ [])

  -- the seat of a pass that has the turn, and the slot, which is empty: its holder has the value
  abbrev pub HasTurn : Place → Seat (Option C) (View O) → Type 0
  HasTurn at s = (s.me.0.at ≡ at) × (s.me.1 ≡ (0, None) ∷ [])

module _ {O : Type 0} where
  -- the pass is one of this gate
  abbrev pub IsOf : Identity O → Pass O → Type 0
  IsOf gate pass = (pass.table ≡ gate.table) × (pass.view.origin ≡ gate.origin)

  -- a pass of this gate that has made no step and has seen nothing, and may make so many others
  pub record IsNewOf (gate : Identity O) (spare : ℕ) (pass : Pass O) : Type 0 where
    pub of : IsOf gate pass
    pub view : pass.view ≡ new_view spare gate.origin

  -- the same pass, one step later, at this place
  pub record IsNext (old : Pass O) (place : Place) (new : Pass O) : Type 0 where
    pub number : new.number ≡ old.number
    pub at : new.view.at ≡ place
    pub made : new.view.made ≡ old.view.made + 1
    pub spare : new.view.spare ≡ old.view.spare

  -- what the pass knows of the value is as before
  pub record KnowsTheSame (old new : Pass O) : Type 0 where
    pub seen : new.view.seen ≡ old.view.seen
    pub taken : new.view.taken ≡ old.view.taken
    pub over : new.view.over ≡ old.view.over

module _ {C O : Type 0} (held : Held C O) where
  -- the pass made one step on the word, which became this of what it was
  abbrev pub StepsOnGate : (ℕ → ℕ) → Pass O → Pass O → Type 0
  StepsOnGate next old new = StepOnGate held next old.view new.view

  abbrev pub StepsOnTurn : (ℕ → ℕ) → (Slots C → Slots C → Type 0) → Pass O → Pass O → Type 0
  StepsOnTurn next slot old new = StepOnTurn held next slot old.view new.view

  -- the value goes on from what the pass has seen of it, and has the origin of the gate
  pub record GoesOn (gate : Identity O) (pass : Pass O) (value : C) : Type 0 where
    pub longer : pass.view.seen ≤ held.length value
    pub stays_over : IsTrue pass.view.over → IsTrue (held.over value)
    pub origin : held.origin value ≡ gate.origin
