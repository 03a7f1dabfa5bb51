-- Where a pass is, and how many passes are at such a place. A pass that is Spent counts nowhere.
use Rattle.std.specs.Prelude.{ℕ, Bool, true, false, List, count_by, sum_by}
use Rattle.stop_gate.specs.declared.view.View.{View}
use Rattle.stop_gate.specs.declared.view.Place.{Place}
use Rattle.stop_gate.specs.declared.view.Place.TheVariants.{Backing, Inside, Turning, Stopping, Alone, AloneTurning}

-- the low part of GATE counts the pass
abbrev pub is_counted : Place → Bool
is_counted Backing = true
is_counted Inside = true
is_counted Turning = true
is_counted _ = false

-- the pass has raised the stop bit
abbrev pub is_stopping : Place → Bool
is_stopping Stopping = true
is_stopping Alone = true
is_stopping AloneTurning = true
is_stopping _ = false

-- the pass is inside, with the turn or without it
abbrev pub is_inside : Place → Bool
is_inside Inside = true
is_inside Turning = true
is_inside _ = false

-- the pass is alone, with the turn or without it
abbrev pub is_alone : Place → Bool
is_alone Alone = true
is_alone AloneTurning = true
is_alone _ = false

-- the holder of the pass has the value
abbrev pub has_turn : Place → Bool
has_turn Turning = true
has_turn AloneTurning = true
has_turn _ = false

module _ {O : Type 0} where
  -- how many passes are at such a place
  abbrev pub count_at : (Place → Bool) → List (View O) → ℕ
  count_at p views = count_by (λ v. p v.at) views

  -- how many passes may still be made
  abbrev pub spares : List (View O) → ℕ
  spares views = sum_by (λ v. v.spare) views
