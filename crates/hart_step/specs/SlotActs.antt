-- The act of the hart in a slot, alone, and what its reply looks at.
use Rattle.std.specs.Prelude.{◌≡◌, ℕ, ◌-◌, ◌*◌, Bool, true, false, length, Option, Some, None, slice_get}
use Rattle.std.specs.Option.{option_map}
use Rattle.guest_words.specs.declared.act.Act.{Act}
use Rattle.guest_words.specs.declared.act.Write.{Write}
use Rattle.guest_words.specs.declared.call.Facts.{Facts}
use Rattle.guest_words.specs.declared.call.Request.{Request}
use Rattle.guest_words.specs.declared.call.Request.TheVariants as request
use Rattle.guest_words.specs.declared.call.Reply.{Reply}
use Rattle.guest_words.specs.declared.call.Reply.TheVariants as reply
use Rattle.guest_words.specs.declared.limits.TheConstants.{PAGE}
use Rattle.guest_words.specs.declared.hart.Slot.{Slot}
use Rattle.guest_words.specs.CallChanges.{facts_of, heap_rights, mapped_pages}
use Rattle.guest_words.specs.HartAct.{hart_act}
use Rattle.guest_words.specs.Space.{Space, can_write, pages_in, with_zeros, without}
use Rattle.guest_pages.specs.Stretch.{IsFree, IsPlace}
use Rattle.guest_words.specs.State.{State}
use Rattle.guest_words.specs.Widths.{bytes_in}

abbrev pub slot_act : State → Slot → Act
slot_act s slot = hart_act s.memory s.points (length slot.frames) slot.hart

-- the act of the hart in a slot, before its frames close
abbrev pub act_at : State → ℕ → Option Act
act_at s h = option_map (slot_act s) (slice_get s.slots h)

-- only a map looks at how many pages are mapped
abbrev pub mapped_for : State → Request → ℕ
mapped_for s (request.Map size prot flags) = mapped_pages s.memory
mapped_for s _ = 0

-- the facts that a call looks at
abbrev pub facts_for : State → ℕ → Request → Facts
facts_for s h call = record (facts_of s h call) { mapped = mapped_for s call }

-- bytes that an act stores may be written
abbrev pub MayWrite : State → Option Write → Type 0
MayWrite s None = Unit {0}
MayWrite s (Some write) = can_write s.memory write.address (bytes_in write.width) ≡ true

-- calls that can reach a device
abbrev pub reaches_device : Request → Bool
reaches_device (request.Read fd place size) = true
reaches_device (request.Write fd place size) = true
reaches_device (request.Close fd) = true
reaches_device _ = false

abbrev pub is_clone : Request → Bool
is_clone (request.Clone flags stack parent tls child) = true
is_clone _ = false

-- pages that a map asks for fit at a place, where none of them is
abbrev pub HasRoom : State → Request → Option ℕ → Type 0
HasRoom s (request.Map size prot flags) (Some place) =
    IsPlace (pages_in size) place × IsFree s.memory place (PAGE * pages_in size)
HasRoom s _ _ = Unit {0}

-- pages that come lie in the area of mapped pages, and none of them is there
abbrev pub FitsIn : State → Reply → Type 0
FitsIn s (reply.Map place count rights) =
    IsPlace count place × IsFree s.memory place (PAGE * count)
FitsIn s _ = Unit {0}

-- memory whose heap ended at an address of a page, and ends at another
abbrev pub fitted : Space → ℕ → ℕ → Space
fitted m old new = without (with_zeros m old (new - old) heap_rights) new (old - new)
