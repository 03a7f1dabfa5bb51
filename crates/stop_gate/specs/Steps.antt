-- The kinds of step: each is atomic, on one word, and changes the view of the pass that makes it.
use Rattle.std.specs.Prelude.{◌≡◌, ℕ, ◌+◌, ◌-◌, ◌<◌, ◌≤◌, IsTrue, if◌then◌else◌, ◌==◌, [], ◌∷◌, slice_index, slice_set, Option, Some}
use mathlib.Core.Option.{some, none}
use lib.ListN.{get_elem?}
use Rattle.atomic_table.specs.Table.{State, Me, Step}
use Rattle.stop_gate.specs.declared.held.Held.{Ghosts as Held}
use Rattle.stop_gate.specs.declared.view.View.{View}
use Rattle.stop_gate.specs.declared.view.Place.TheVariants.{Out, Backing, Inside, Stopping, Alone}
use Rattle.stop_gate.specs.Words.{low_part, stop_bit, with_stop, length_in, over_bit, IsOut, IsHome, as_out}
use Rattle.stop_gate.specs.GateRule.{GateRule, Slots, Tells}
use Rattle.stop_gate.specs.Views.{moved, took, gave}

module _ {C : Type 0} where
  -- what a step does to the slot: it stays as it is
  abbrev pub Stays : Slots C → Slots C → Type 0
  Stays old new = new ≡ old

  -- the value moves out of it
  abbrev pub MovesOut : C → Slots C → Slots C → Type 0
  MovesOut value old new = (old ≡ some (Some value) ∷ []) × (new ≡ none ∷ [])

  -- the value moves into it
  abbrev pub MovesIn : C → Slots C → Slots C → Type 0
  MovesIn value old new = new ≡ some (Some value) ∷ []

-- one step on a word, by which the view v becomes w; the rule holds right before and right after it
pub record StepOn {C O : Type 0} (held : Held C O) (word : ℕ) (next : ℕ → ℕ)
    (slot : Slots C → Slots C → Type 0) (v w : View O) : Type 0 where
  pub before : State (Option C) (View O)
  pub after : State (Option C) (View O)
  pub rule_before : GateRule held v.origin before
  pub rule_after : GateRule held v.origin after
  -- this word changes, and not the other
  pub found : slice_index before.words word ≡ w.last
  pub words : after.words ≡ slice_set before.words word (next w.last)
  -- the slot
  pub slots : slot before.homes after.homes
  -- this view changes, and no other
  pub place : ℕ
  pub was : get_elem? before.views place ≡ some v
  pub views : after.views ≡ slice_set before.views place w

module _ {C O : Type 0} (held : Held C O) where
  abbrev pub StepOnGate : (ℕ → ℕ) → View O → View O → Type 0
  StepOnGate next = StepOn held 0 next Stays

  abbrev pub StepOnTurn : (ℕ → ℕ) → (Slots C → Slots C → Type 0) → View O → View O → Type 0
  StepOnTurn = StepOn held 1

-- each kind speaks of the step, the seat before, the word found and the seat after
module _ {C O : Type 0} (held : Held C O) (st : Step (Option C)) (m : Me (Option C) (View O))
    (n : ℕ) (m' : Me (Option C) (View O)) where
  -- enter: GATE and 1; the pass is Backing where the word found had the stop bit, else Inside
  pub record Enters : Type 0 where
    pub after : m' ≡ (moved m.0 (if stop_bit n then Backing else Inside) n, m.1)
    pub step : StepOnGate held (λ gate. gate + 1) m.0 m'.0

  -- back and leave: GATE less 1; the pass is Out
  pub record Leaves : Type 0 where
    pub after : m' ≡ (moved m.0 Out n, m.1)
    pub counted : 0 < low_part n
    pub step : StepOnGate held (λ gate. gate - 1) m.0 m'.0

  -- raise: GATE with the stop bit; the pass is Out where the word found had it, else Stopping
  pub record Raises : Type 0 where
    pub after : m' ≡ (moved m.0 (if stop_bit n then Out else Stopping) n, m.1)
    pub step : StepOnGate held with_stop m.0 m'.0

  -- seize: GATE as it is; the pass is Alone where the low part is 0, else Stopping
  pub record Seizes : Type 0 where
    pub after : m' ≡ (moved m.0 (if low_part n == 0 then Alone else Stopping) n, m.1)
    pub step : StepOnGate held (λ gate. gate) m.0 m'.0

  -- lower: GATE without the stop bit, which was set; the pass is Out
  pub record Lowers : Type 0 where
    pub after : m' ≡ (moved m.0 Out n, m.1)
    pub stood : IsTrue (stop_bit n)
    pub step : StepOnGate held low_part m.0 m'.0

  -- the value left its home, and TURN told of it
  pub record Took : Type 0 where
    pub value : C
    pub told : Tells held n value
    pub origin : held.origin value ≡ m.0.origin
    pub seen : m.0.seen ≤ length_in n
    pub over : IsTrue m.0.over → IsTrue (over_bit n)
    pub after : m' ≡ (took m.0 n, (0, Some value) ∷ m.1)
    pub step : StepOnTurn held as_out (MovesOut value) m.0 m'.0

  -- take: TURN made odd; the pass has the turn, or stays where it was where the word found was odd
  pub record Takes : Type 0 where
    pub even : IsHome n → Took
    pub odd : IsOut n → m' ≡ (moved m.0 m.0.at n, m.1)
    pub looks : IsOut n → StepOnTurn held as_out Stays m.0 m'.0
    -- for a pass that is alone it never was
    pub alone : m.0.at ≡ Alone → IsHome n

  -- give: TURN as it tells of the value given; the word found told of it as it was taken
  pub record Gives : Type 0 where
    pub after : m' ≡ (gave m.0 st.first n, [])
    pub odd : IsOut n
    pub taken : length_in n ≡ m.0.taken
    pub was_over : over_bit n ≡ m.0.over
    pub step : (value : C) → m.1 ≡ (0, Some value) ∷ []
        → StepOnTurn held (λ _. st.first) (MovesIn value) m.0 m'.0
