-- The state of the plain machine: what a program's run is made of.
use Rattle.std.specs.Prelude.{ℕ, ◌+◌, Bool, true, false, ◌&&◌, ◌==◌, nat_lt, List, map, length, Option, Some, None, slice_get, slice_set, not}
use Rattle.std.specs.List.{list_any}
use Rattle.guest_words.specs.declared.point.Point.{Point}
use Rattle.guest_words.specs.declared.point.PointRef.{PointRef}
use Rattle.guest_words.specs.declared.ending.Ending.{Ending}
use Rattle.guest_words.specs.declared.record.Record.{Record}
use Rattle.guest_words.specs.declared.record.Way.{Way}
use Rattle.guest_words.specs.declared.record.Way.TheVariants as way
use Rattle.guest_words.specs.declared.hart.Hart.{Hart}
use Rattle.guest_words.specs.declared.hart.Slot.{Slot}
use Rattle.guest_words.specs.declared.hart.Waiter.{Waiter}
use Rattle.guest_words.specs.Space.{Space, with_bytes}
use Rattle.guest_words.specs.Harts.{touched, unreserved, close_frames, opened}

pub record State : Type 0 where
  pub memory : Space
  -- where the heap begins, and the break, its end
  pub low : ℕ
  pub brk : ℕ
  -- the harts by slot, each with its frames
  pub slots : List Slot
  -- the harts that wait, the longest waiting first
  pub waiting : List Waiter
  pub next_tid : ℕ
  -- the calls on devices, the oldest first
  pub records : List Record
  -- the instructions and device calls so far
  pub steps : ℕ
  pub ending : Option Ending
  -- the points, each with the rescues that are left to it
  pub points : List Point
  -- what was there at the start and stays: number of ports, budget in steps
  pub ports : ℕ
  pub budget : ℕ

abbrev pub changed_by : (Slot → Slot) → ℕ → List Slot → Option Slot → List Slot
changed_by f h slots None = slots
changed_by f h slots (Some slot) = slice_set slots h (f slot)

-- the slots with one of them changed
unfoldable pub changed : (Slot → Slot) → ℕ → List Slot → List Slot
changed f h slots = changed_by f h slots (slice_get slots h)

-- a change of the hart in a slot alone
abbrev pub on_hart : (Hart → Hart) → Slot → Slot
on_hart f slot = record slot { hart = f slot.hart }

-- the slot with the frames closed whose calls are over
abbrev pub closed : Slot → Slot
closed slot = record slot { frames = close_frames slot.hart slot.frames }

-- a change of every hart
abbrev pub on_each : (Hart → Hart) → List Slot → List Slot
on_each f slots = map (on_hart f) slots

-- the state with a change of the hart in a slot
abbrev pub with_hart : State → ℕ → (Hart → Hart) → State
with_hart s h f = record s { slots = changed (on_hart f) h s.slots }

-- the state with the frames of a hart closed whose calls are over
abbrev pub with_closed : State → ℕ → State
with_closed s h = record s { slots = changed closed h s.slots }

-- the state with these bytes stored from an address on, which ends the reservations they touch
abbrev pub stored : State → ℕ → List ℕ → State
stored s from bytes =
    record s {
      memory = with_bytes s.memory from bytes;
      slots = on_each (touched from (length bytes)) s.slots;
    }

-- a hart enters a point: its frame opens, and no hart keeps a reservation
unfoldable pub enter : State → ℕ → PointRef → State
enter s h point = record s { slots = on_each unreserved (changed (opened point) h s.slots) }

-- the number of frames that a hart has open
abbrev pub frame_count : Option Slot → ℕ
frame_count None = 0
frame_count (Some slot) = length slot.frames

abbrev pub frames_at : State → ℕ → ℕ
frames_at s h = frame_count (slice_get s.slots h)

abbrev pub is_close : Way → Bool
is_close way.Close = true
is_close _ = false

-- a descriptor is closed where one of the records closed it
abbrev pub is_closed : ℕ → List Record → Bool
is_closed fd records = list_any (λ r. is_close r.way && (r.port == fd)) records

-- a descriptor is open where it is one of the three streams or a port, and isn't closed
abbrev pub is_open : State → ℕ → Bool
is_open s fd = nat_lt fd (3 + s.ports) && not (is_closed fd s.records)
