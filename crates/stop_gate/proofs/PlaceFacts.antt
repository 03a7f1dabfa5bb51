-- Places as numbers to be summed, and how the kinds of place go together.
use Rattle.std.proofs.Common.{◌≡◌, ℕ, ◌+◌, ◌≤◌, ◌<◌, Bool, true, false, cond, IsTrue, List, length, refl, arith}
use Rattle.stop_gate.specs.declared.view.View.{View}
use Rattle.stop_gate.specs.declared.view.Place.{Place}
use Rattle.stop_gate.specs.declared.view.Place.TheVariants.{Backing, Inside, Turning, Stopping, Alone, AloneTurning}
use Rattle.stop_gate.specs.Places.{is_counted, is_stopping, is_inside, is_alone, has_turn, count_at}
use Rattle.stop_gate.specs.Views.{turning, settled}
use Rattle.stop_gate.proofs.Sums.{sum_by-one, sum_by-less, sum_by-add}

abbrev pub weight : Bool → ℕ
weight b = cond b 1 0

pub weight_le : (b : Bool) → weight b ≤ 1
weight_le true = omega arith
weight_le false = omega arith

pub weight_true : (b : Bool) → 0 < weight b → IsTrue b
weight_true true more = refl
weight_true false more = absurd (omega arith)

-- 1 for a pass at such a place
abbrev pub weighs : {O : Type 0} → (Place → Bool) → View O → ℕ
weighs p v = weight (p v.at)

-- stopping, or alone without the turn
abbrev pub is_idle : Place → Bool
is_idle Stopping = true
is_idle Alone = true
is_idle _ = false

pub inside_counts : (a : Place) → weight (is_inside a) ≤ weight (is_counted a)
inside_counts Inside = omega arith
inside_counts Turning = omega arith
inside_counts Backing = omega arith
inside_counts _ = omega arith

pub alone_stops : (a : Place) → weight (is_alone a) ≤ weight (is_stopping a)
alone_stops Alone = omega arith
alone_stops AloneTurning = omega arith
alone_stops Stopping = omega arith
alone_stops _ = omega arith

turner_inside : (a : Place) → weight (has_turn a) + weight (is_idle a) ≤ weight (is_inside a) + weight (is_stopping a)
turner_inside Turning = omega arith
turner_inside AloneTurning = omega arith
turner_inside Stopping = omega arith
turner_inside Alone = omega arith
turner_inside Inside = omega arith
turner_inside _ = omega arith

-- for all but the turn, a pass is where it was
pub record IsAlike (a b : Place) : Type 0 where
  pub counted : weight (is_counted b) ≡ weight (is_counted a)
  pub stopping : weight (is_stopping b) ≡ weight (is_stopping a)
  pub inside : weight (is_inside b) ≡ weight (is_inside a)
  pub alone : weight (is_alone b) ≡ weight (is_alone a)

pub alike : (a : Place) → IsAlike a a
alike a = record { counted = refl; stopping = refl; inside = refl; alone = refl }

pub turning_alike : (a : Place) → IsAlike a (turning a)
turning_alike Inside = record { counted = refl; stopping = refl; inside = refl; alone = refl }
turning_alike Alone = record { counted = refl; stopping = refl; inside = refl; alone = refl }
turning_alike _ = record { counted = refl; stopping = refl; inside = refl; alone = refl }

pub settled_alike : (a : Place) → IsAlike a (settled a)
settled_alike Turning = record { counted = refl; stopping = refl; inside = refl; alone = refl }
settled_alike AloneTurning = record { counted = refl; stopping = refl; inside = refl; alone = refl }
settled_alike _ = record { counted = refl; stopping = refl; inside = refl; alone = refl }

pub settled_turns : (a : Place) → weight (has_turn (settled a)) ≡ 0
settled_turns Turning = refl
settled_turns AloneTurning = refl
settled_turns _ = refl

module _ {O : Type 0} (views : List (View O)) where
  pub counted_few : count_at is_counted views ≤ length views
  counted_few = sum_by-one (weighs is_counted) (λ v. weight_le (is_counted v.at)) views

  pub inside_counted : count_at is_inside views ≤ count_at is_counted views
  inside_counted = sum_by-less (weighs is_inside) (weighs is_counted) (λ v. inside_counts v.at) views

  pub alone_stopping : count_at is_alone views ≤ count_at is_stopping views
  alone_stopping = sum_by-less (weighs is_alone) (weighs is_stopping) (λ v. alone_stops v.at) views

  -- who has the turn is inside or has raised the stop bit, and is not idle
  pub turners_inside : count_at has_turn views + count_at is_idle views ≤ count_at is_inside views + count_at is_stopping views
  turners_inside =
      omega (
        arith,
        sum_by-less (λ v. weighs has_turn v + weighs is_idle v) (λ v. weighs is_inside v + weighs is_stopping v) (λ v. turner_inside v.at) views,
        sum_by-add (weighs has_turn) (weighs is_idle) views,
        sum_by-add (weighs is_inside) (weighs is_stopping) views,
      )
