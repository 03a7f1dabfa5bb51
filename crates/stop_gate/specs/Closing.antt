-- What the end of a gate tells.
use Rattle.std.specs.Prelude.{◌≡◌, ◌∷◌, [], Option, Some, None}
use mathlib.Core.Option.{some}
use lib.ListN.{get_elem?}
use Rattle.atomic_table.specs.Table.{State}
use Rattle.stop_gate.specs.declared.held.Held.{Ghosts as Held}
use Rattle.stop_gate.specs.declared.view.View.{View}
use Rattle.stop_gate.specs.Passes.{Pass}
use Rattle.stop_gate.specs.Words.{IsOut, IsHome}
use Rattle.stop_gate.specs.GateRule.{GateRule, Tells, turn}

-- the last state of the gate, in which this pass knew what it knows, and the answer
pub record Ends {C O : Type 0} (held : Held C O) (began : O) (pass : Pass O)
    (answer : Option C) : Type 0 where
  pub last : State (Option C) (View O)
  pub rule : GateRule held began last
  pub known : get_elem? last.views pass.number ≡ some pass.view
  -- none where TURN is odd
  pub out : IsOut (turn last) → answer ≡ None
  -- and else the value in the slot, of which TURN tells
  pub home : IsHome (turn last) → (value : C) × (answer ≡ Some value)
      × (last.homes ≡ some (Some value) ∷ []) × Tells held (turn last) value
