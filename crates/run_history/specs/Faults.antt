-- The fault that a hart is about to make.
use Rattle.std.specs.Prelude.{ℕ, Option, Some, None, slice_get}
use Rattle.guest_words.specs.declared.fault.Fault.{Fault as FaultAt}
use Rattle.guest_words.specs.declared.hart.Slot.{Slot}
use Rattle.guest_words.specs.Act.{StateAct, Fault, act_of}
use Rattle.guest_words.specs.State.{State}

abbrev pub pc_in : Option Slot → ℕ
pc_in None = 0
pc_in (Some slot) = slot.hart.pc

abbrev pub pc_at : State → ℕ → ℕ
pc_at s h = pc_in (slice_get s.slots h)

abbrev pub fault_by : StateAct → ℕ → Option FaultAt
fault_by (Fault name) pc = Some (record { name = name; pc = pc })
fault_by _ pc = None

-- the fault of the hart in a slot, or none where its act is another
abbrev pub fault_of : State → ℕ → Option FaultAt
fault_of s h = fault_by (act_of s h) (pc_at s h)
