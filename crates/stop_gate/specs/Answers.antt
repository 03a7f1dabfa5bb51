-- What the answers of the calls carry.
use Rattle.std.specs.Prelude.{ℕ}
use Rattle.stop_gate.specs.declared.answers.Enter.{Enter}
use Rattle.stop_gate.specs.declared.answers.Enter.TheVariants as enter
use Rattle.stop_gate.specs.declared.answers.Raise.{Raise}
use Rattle.stop_gate.specs.declared.answers.Raise.TheVariants as raise
use Rattle.stop_gate.specs.declared.answers.Seize.{Seize}
use Rattle.stop_gate.specs.declared.answers.Seize.TheVariants as seize
use Rattle.stop_gate.specs.declared.answers.Take.{Take}
use Rattle.stop_gate.specs.declared.answers.Take.TheVariants as take
use Rattle.stop_gate.specs.declared.view.Place.{Place}
use Rattle.stop_gate.specs.declared.view.Place.TheVariants as place
use Rattle.stop_gate.specs.Passes.{Pass}

module _ {C O : Type 0} where
  -- the pass that comes back
  abbrev pub entered : Enter C O → Pass O
  entered (enter.Inside pass) = pass
  entered (enter.Standing word back) = back

  abbrev pub raised : Raise C O → Pass O
  raised (raise.Stopping pass) = pass
  raised (raise.Busy word pass) = pass

  abbrev pub seized : Seize C O → Pass O
  seized (seize.Alone pass) = pass
  seized (seize.NotYet inside pass) = pass

  abbrev pub taken : Take C O → Pass O
  taken (take.Taken turn held) = turn
  taken (take.Held word pass) = pass

  -- where it is
  abbrev pub entered_at : Enter C O → Place
  entered_at (enter.Inside pass) = place.Inside
  entered_at (enter.Standing word back) = place.Backing

  abbrev pub raised_at : Raise C O → Place
  raised_at (raise.Stopping pass) = place.Stopping
  raised_at (raise.Busy word pass) = place.Out

  abbrev pub seized_at : Seize C O → Place
  seized_at (seize.Alone pass) = place.Alone
  seized_at (seize.NotYet inside pass) = place.Stopping

  abbrev pub taken_at : Take C O → Place
  taken_at (take.Taken turn held) = place.Turning
  taken_at (take.Held word pass) = place.Inside

  -- a fact for one answer
  abbrev pub IfInside : Enter C O → (Pass O → Type 0) → Type 0
  IfInside (enter.Inside pass) fact = fact pass
  IfInside (enter.Standing word pass) fact = Unit {0}

  abbrev pub IfStanding : Enter C O → (ℕ → Pass O → Type 0) → Type 0
  IfStanding (enter.Inside pass) fact = Unit {0}
  IfStanding (enter.Standing word pass) fact = fact word pass

  abbrev pub IfStopping : Raise C O → (Pass O → Type 0) → Type 0
  IfStopping (raise.Stopping pass) fact = fact pass
  IfStopping (raise.Busy word pass) fact = Unit {0}

  abbrev pub IfBusy : Raise C O → (ℕ → Pass O → Type 0) → Type 0
  IfBusy (raise.Stopping pass) fact = Unit {0}
  IfBusy (raise.Busy word pass) fact = fact word pass

  abbrev pub IfAlone : Seize C O → (Pass O → Type 0) → Type 0
  IfAlone (seize.Alone pass) fact = fact pass
  IfAlone (seize.NotYet inside pass) fact = Unit {0}

  abbrev pub IfNotYet : Seize C O → (ℕ → Pass O → Type 0) → Type 0
  IfNotYet (seize.Alone pass) fact = Unit {0}
  IfNotYet (seize.NotYet inside pass) fact = fact inside pass

  abbrev pub IfTaken : Take C O → (Pass O → C → Type 0) → Type 0
  IfTaken (take.Taken pass held) fact = fact pass held
  IfTaken (take.Held word pass) fact = Unit {0}

  abbrev pub IfHeld : Take C O → (ℕ → Pass O → Type 0) → Type 0
  IfHeld (take.Taken pass held) fact = Unit {0}
  IfHeld (take.Held word pass) fact = fact word pass
