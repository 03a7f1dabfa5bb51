-- A bound on the entries that a hart can still make.
use Rattle.std.specs.Prelude.{ℕ, ◌+◌, ◌-◌, ◌*◌, if◌then◌else◌, Option, Some, None, slice_get}
use Rattle.guest_words.specs.declared.hart.Slot.{Slot}
use Rattle.guest_words.specs.State.{State, frames_at}

-- 2 where the hart has just jumped, and may enter a point
abbrev pub arrival_ahead : Option Slot → ℕ
arrival_ahead None = 0
arrival_ahead (Some slot) = if slot.hart.arrived then 2 else 0

-- 3 for each step that is left, those of an arrival, and one for each frame that may close
abbrev pub ahead : State → ℕ → ℕ
ahead s h = 3 * (s.budget - s.steps) + arrival_ahead (slice_get s.slots h) + frames_at s h
