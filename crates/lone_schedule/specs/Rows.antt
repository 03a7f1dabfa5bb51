-- Ordinary acts of a hart in a row that one entry may tell.
use Rattle.std.specs.Prelude.{ℕ, zero, suc, Bool, true, false, not, ◌&&◌, length, Option, Some, None, slice_get}
use Rattle.guest_words.specs.declared.act.Act.{Act}
use Rattle.guest_words.specs.declared.act.Act.TheVariants.{Call}
use Rattle.guest_words.specs.declared.call.Request.{Request}
use Rattle.guest_words.specs.declared.call.Request.TheVariants.{Break, Map}
use Rattle.guest_words.specs.declared.hart.Slot.{Slot}
use Rattle.guest_words.specs.HartAct.{hart_act}
use Rattle.guest_words.specs.State.{State}
use Rattle.run_history.specs.After.{next}
use Rattle.run_history.specs.Legal.{can_go}

-- the request of a call with the number of brk or of mmap, which may ask for pages
abbrev pub asks_pages : Request → Bool
asks_pages (Break to) = true
asks_pages (Map size prot flags) = true
asks_pages _ = false

abbrev pub act_asks : Act → Bool
act_asks (Call request) = asks_pages request
act_asks _ = false

abbrev pub slot_asks : State → Option Slot → Bool
slot_asks s None = false
slot_asks s (Some slot) = act_asks (hart_act s.memory s.points (length slot.frames) slot.hart)

-- the act of a hart is such a call
unfoldable pub takes_pages : State → ℕ → Bool
takes_pages s h = slot_asks s (slice_get s.slots h)

-- none of so many acts in a row is one
unfoldable pub takes_none : State → ℕ → ℕ → Bool
takes_none s h zero = true
takes_none s h (suc count) = not (takes_pages s h) && takes_none (next s h) h count

-- none of so many acts in a row, but for the first, is one
unfoldable pub is_row : State → ℕ → ℕ → Bool
is_row s h zero = true
is_row s h (suc count) = takes_none (next s h) h count

-- a row can go on by one act
abbrev pub can_join : State → ℕ → Bool
can_join s h = can_go s h && not (takes_pages s h)
