-- A hart that has just entered a point.
use Rattle.std.proofs.Common.{◌≡◌, ℕ, ◌<◌, true, false, not, ◌||◌, Bool, option_map, Option, Some, None, is_none, slice_get, refl, ap, ◌∙◌, arith}
use Rattle.std.proofs.lemmas.Option.{slice_get-map}
use Rattle.guest_words.specs.declared.hart.Slot.{Slot}
use Rattle.guest_words.specs.declared.point.PointRef.{PointRef}
use Rattle.guest_words.specs.Harts.{opened, unreserved}
use Rattle.guest_words.specs.State.{State, changed, enter, frames_at, on_hart}
use Rattle.run_history.specs.declared.entry.Entry.{Entered}
use Rattle.run_history.specs.Ahead.{arrival_ahead}
use Rattle.run_history.specs.Legal.{legal, may_act}
use Rattle.run_history.specs.Quiet.{is_quiet}
use Rattle.run_history.proofs.Ands.{and_right}
use Rattle.run_history.proofs.Arrivals.{arrival_arrived}
use Rattle.run_history.proofs.Kept.{Rest, enter_keeps}
use Rattle.run_history.proofs.Quietness.{quiet_frames}
use Rattle.run_history.proofs.Slots.{changed-get}
use Rattle.lone_schedule.specs.Turns.{is_over}

-- the hart had just jumped
pub entered_jumped : (s : State) (h : ℕ) (p : PointRef) → legal s (Entered h p) ≡ true → arrival_ahead (slice_get s.slots h) ≡ 2
unfolding legal
entered_jumped s h p is = arrival_arrived s h p (and_right (may_act s h) _ is)

-- and has not any more
still : (s : State) (h : ℕ) (p : PointRef) → arrival_ahead (slice_get (enter s h p).slots h) ≡ 0
unfolding enter
still s h p =
    ap arrival_ahead (slice_get-map (on_hart unreserved) (changed (opened p) h s.slots) h ∙ ap (option_map (on_hart unreserved)) (changed-get (opened p) h s.slots))
    ∙ by (slice_get s.slots h)
  where
    by : (o : Option Slot) → arrival_ahead (option_map (on_hart unreserved) (option_map (opened p) o)) ≡ 0
    by None = refl
    by (Some slot) = refl

two : (n : ℕ) → n ≡ 0 → n ≡ 2 → ⊥
two n none some = omega (arith, none, some)

-- so no further point is entered without an act
pub enters_once : (s : State) (h : ℕ) (p q : PointRef) → legal (enter s h p) (Entered h q) ≡ true → ⊥
enters_once s h p q is = two (arrival_ahead (slice_get (enter s h p).slots h)) (still s h p) (entered_jumped (enter s h p) h q is)

pub entered_steps : (s : State) (h : ℕ) (p : PointRef) → (enter s h p).steps ≡ s.steps
unfolding enter
entered_steps s h p = refl

pub entered_budget : (s : State) (h : ℕ) (p : PointRef) → (enter s h p).budget ≡ s.budget
entered_budget s h p = ap (λ (r : Rest). r.budget) (enter_keeps s h p)

-- a hart has a frame open, so a turn isn't over
pub is_open : (s : State) (h : ℕ) → s.ending ≡ None → 0 < frames_at s h → is_over s ≡ false
is_open s h going framed = by (is_quiet s) refl
  where
    by : (b : Bool) → is_quiet s ≡ b → is_over s ≡ false
    by true is = let none = quiet_frames s h is in absurd (omega (arith, none, framed))
    by false is = ap (λ b. b || not (is_none s.ending)) is ∙ ap (λ o. not (is_none o)) going
