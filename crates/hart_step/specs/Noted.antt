-- How many notes the next act of a hart can make.
use Rattle.std.specs.Prelude.{ℕ, ◌+◌, ◌-◌, ◌/◌, max, if◌then◌else◌, length, Option, Some, None, slice_get}
use Rattle.guest_words.specs.declared.act.Act.{Act}
use Rattle.guest_words.specs.declared.act.Act.TheVariants as act
use Rattle.guest_words.specs.declared.call.Request.{Request}
use Rattle.guest_words.specs.declared.call.Request.TheVariants as request
use Rattle.guest_words.specs.declared.hart.Slot.{Slot}
use Rattle.guest_words.specs.declared.limits.TheConstants.{PAGE}
use Rattle.guest_words.specs.Calls.{cut, is_in_area}
use Rattle.guest_words.specs.HartAct.{hart_act}
use Rattle.guest_words.specs.Space.{page_up, pages_in}
use Rattle.guest_words.specs.State.{State}

-- one for each byte of a read, each page of the heap or of the area of mapped pages that goes, the
-- pages that come, the break, and else a store
abbrev pub notes_of_call : State → Request → ℕ
notes_of_call s (request.Read fd place size) = cut size
notes_of_call s (request.Break to) =
    1 + max 1 ((page_up s.brk - page_up (max s.low to)) / PAGE)
notes_of_call s (request.Unmap place size) =
    if is_in_area place (pages_in size) then pages_in size else 1
notes_of_call s _ = 1

abbrev pub notes_of_act : State → Act → ℕ
notes_of_act s (act.Call call) = notes_of_call s call
notes_of_act s _ = 1

abbrev pub notes_of_slot : State → Option Slot → ℕ
notes_of_slot s None = 1
notes_of_slot s (Some slot) =
    notes_of_act s (hart_act s.memory s.points (length slot.frames) slot.hart)

abbrev pub notes_for : State → ℕ → ℕ
notes_for s h = notes_of_slot s (slice_get s.slots h)
