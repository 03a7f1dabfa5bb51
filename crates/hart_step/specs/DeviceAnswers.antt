-- The answer of a call on a device: where it is placed, and what it closes.
use Rattle.std.specs.Prelude.{ℕ, Bool, true, List, length, Option, Some, None, slice_set}
use Rattle.guest_words.specs.declared.call.Request.{Request}
use Rattle.guest_words.specs.declared.call.Request.TheVariants as request
use Rattle.guest_words.specs.declared.hart.Hart.{Hart}
use Rattle.guest_words.specs.declared.hart.Slot.{Slot}
use Rattle.guest_words.specs.declared.record.Record.{Record}
use Rattle.guest_words.specs.declared.record.Way.{Way}
use Rattle.guest_words.specs.declared.record.Way.TheVariants as way
use Rattle.guest_words.specs.Calls.{request_of}
use Rattle.guest_words.specs.Harts.{touched}
use Rattle.guest_words.specs.Space.{Space, with_bytes}
use Rattle.guest_words.specs.State.{on_each}

-- where a read puts its bytes
abbrev pub place_in : Request → ℕ
place_in (request.Read fd place size) = place
place_in _ = 0

-- the place that the call of a hart names
abbrev pub place_named : Option Hart → ℕ
place_named None = 0
place_named (Some hart) = place_in (request_of hart)

-- memory with the bytes of a read
abbrev pub space_with : Way → Space → ℕ → List ℕ → Space
space_with way.Read m place bytes = with_bytes m place bytes
space_with _ m place bytes = m

abbrev pub read_into : Space → ℕ → Record → Space
read_into m place call = space_with call.way m place call.bytes

-- the slots behind a read, whose bytes end the reservations that they touch
abbrev pub slots_with : Way → List Slot → ℕ → ℕ → List Slot
slots_with way.Read slots place size = on_each (touched place size) slots
slots_with _ slots place size = slots

abbrev pub read_over : List Slot → ℕ → Record → List Slot
read_over slots place call = slots_with call.way slots place (length call.bytes)

-- which descriptors are closed behind a call
abbrev pub closed_with : Way → ℕ → List Bool → List Bool
closed_with way.Close fd closed = slice_set closed fd true
closed_with _ fd closed = closed

abbrev pub shut_by : Record → List Bool → List Bool
shut_by call closed = closed_with call.way call.port closed
