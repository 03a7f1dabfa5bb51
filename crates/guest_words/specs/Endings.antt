-- The endings of a run, and when each is due.
use Rattle.std.specs.Prelude.{ℕ, Bool, true, false, not, ◌&&◌, ◌||◌, ◌==◌, nat_lt, length, Option, Some, None, slice_get, sum_by}
use Rattle.std.specs.List.{list_any}
use Rattle.guest_words.specs.declared.fault.Fault.{Fault as FaultAt}
use Rattle.guest_words.specs.declared.fault.FaultName.{FaultName}
use Rattle.guest_words.specs.declared.fault.FaultName.TheVariants.{FetchRights, FetchMisaligned, Illegal, LoadRights, StoreRights, AtomicMisaligned, Breakpoint, BlockedInPoint}
use Rattle.guest_words.specs.declared.ending.Ending.{Ending}
use Rattle.guest_words.specs.declared.ending.Ending.TheVariants as ending
use Rattle.guest_words.specs.declared.hart.Slot.{Slot}
use Rattle.guest_words.specs.declared.limits.TheConstants.{RECORD_BYTES}
use Rattle.guest_words.specs.Harts.{is_ready}
use Rattle.guest_words.specs.State.{State, frames_at}
use Rattle.guest_words.specs.Act.{StateAct, Fault, End, act_of}

-- the bytes of all records
abbrev pub record_bytes : State → ℕ
record_bytes s = sum_by (λ r. length r.bytes) s.records

-- the steps are the budget, or the records have passed their limit of bytes
abbrev pub is_budget_spent : State → Bool
is_budget_spent s = (s.steps == s.budget) || nat_lt RECORD_BYTES (record_bytes s)

-- no hart is ready
abbrev pub is_stuck : State → Bool
is_stuck s = not (list_any (λ slot. is_ready slot.hart.state) s.slots)

abbrev pub is_same_name : FaultName → FaultName → Bool
is_same_name FetchRights FetchRights = true
is_same_name FetchMisaligned FetchMisaligned = true
is_same_name Illegal Illegal = true
is_same_name LoadRights LoadRights = true
is_same_name StoreRights StoreRights = true
is_same_name AtomicMisaligned AtomicMisaligned = true
is_same_name Breakpoint Breakpoint = true
is_same_name BlockedInPoint BlockedInPoint = true
is_same_name _ _ = false

abbrev pub is_fault : FaultName → StateAct → Bool
is_fault name (Fault other) = is_same_name name other
is_fault name _ = false

abbrev pub is_end : ℕ → StateAct → Bool
is_end code (End other) = code == other
is_end code _ = false

abbrev pub stands_at : ℕ → Option Slot → Bool
stands_at pc None = false
stands_at pc (Some slot) = slot.hart.pc == pc

-- the hart in a slot is about to make this fault
abbrev pub faults : State → ℕ → FaultAt → Bool
faults s h fault = stands_at fault.pc (slice_get s.slots h) && is_fault fault.name (act_of s h)

-- the ending is due
abbrev pub ends_by : State → Ending → Bool
ends_by s (ending.Exit h code) = is_end code (act_of s h)
ends_by s (ending.Fault h fault) = faults s h fault && (frames_at s h == 0)
ends_by s ending.Stuck = is_stuck s
ends_by s ending.Budget = is_budget_spent s
