-- The frames of a hart that enters a point.
use Rattle.std.proofs.Common.{◌≡◌, ◌≢◌, ℕ, ◌+◌, true, option_map, Option, Some, None, refl, ap, sym, ◌∙◌, slice_get}
use Rattle.std.proofs.lemmas.List.{length_push}
use Rattle.std.proofs.lemmas.Option.{slice_get-map}
use Rattle.guest_words.specs.declared.hart.Hart.{Hart}
use Rattle.guest_words.specs.declared.hart.Slot.{Slot}
use Rattle.guest_words.specs.declared.point.PointRef.{PointRef}
use Rattle.guest_words.specs.Harts.{unreserved, opened, frame_of}
use Rattle.guest_words.specs.State.{State, changed, on_hart, frame_count, frames_at, enter}
use Rattle.run_history.specs.Legal.{is_alone, is_ready_at, is_ready_slot}
use Rattle.run_history.proofs.Quietness.{alone_each, each_alone}
use Rattle.run_history.proofs.Slots.{changed-get, changed-other}

frames-each : (f : Hart → Hart) (o : Option Slot) → frame_count (option_map (on_hart f) o) ≡ frame_count o
frames-each f None = refl
frames-each f (Some slot) = refl

-- a hart that enters a point has one frame more
pub frames_entered : (s : State) (h : ℕ) (p : PointRef) (slot : Slot) → slice_get s.slots h ≡ Some slot → frames_at (enter s h p) h ≡ frames_at s h + 1
unfolding enter
frames_entered s h p slot is =
    ap frame_count (slice_get-map (on_hart unreserved) (changed (opened p) h s.slots) h)
    ∙ frames-each unreserved (slice_get (changed (opened p) h s.slots) h)
    ∙ ap frame_count (changed-get (opened p) h s.slots ∙ ap (option_map (opened p)) is)
    ∙ length_push slot.frames (frame_of slot.hart p)
    ∙ sym (ap (λ o. frame_count o + 1) is)

pub frames_entered_ready : (s : State) (h : ℕ) (p : PointRef) → is_ready_at s h ≡ true → frames_at (enter s h p) h ≡ frames_at s h + 1
frames_entered_ready s h p ready = by (slice_get s.slots h) refl ready
  where
    by : (o : Option Slot) → slice_get s.slots h ≡ o → is_ready_slot o ≡ true → frames_at (enter s h p) h ≡ frames_at s h + 1
    by None is ready = cc
    by (Some slot) is ready = frames_entered s h p slot is

-- the others keep theirs
pub frames_entered_other : (s : State) (h : ℕ) (p : PointRef) (k : ℕ) → k ≢ h → frames_at (enter s h p) k ≡ frames_at s k
unfolding enter
frames_entered_other s h p k apart =
    ap frame_count (slice_get-map (on_hart unreserved) (changed (opened p) h s.slots) k)
    ∙ frames-each unreserved (slice_get (changed (opened p) h s.slots) k)
    ∙ ap frame_count (changed-other (opened p) h s.slots k apart)

pub alone_entered : (s : State) (h : ℕ) (p : PointRef) → is_alone s h ≡ true → is_alone (enter s h p) h ≡ true
alone_entered s h p is = each_alone h (enter s h p).slots (λ k apart. frames_entered_other s h p k apart ∙ alone_each h s.slots is k apart)
