-- What the executable state keeps at every moment.
use Rattle.std.specs.Prelude.{◌≡◌, ℕ, ◌+◌, ◌-◌, ◌^◌, ◌<◌, ◌≤◌, Bool, List, Some, min, length, slice_get}
use Rattle.std.specs.Prelude.{map, sum_by}
use Rattle.guest_words.specs.declared.hart.Slot.{Slot}
use Rattle.guest_words.specs.declared.hart.Waiter.{Waiter}
use Rattle.guest_words.specs.declared.limits.TheConstants.{BUDGET}
use Rattle.guest_words.specs.declared.record.Record.{Record}
use Rattle.guest_words.specs.State.{is_closed}
use Rattle.guest_memory.specs.Kept.{AddressSpace}
use Rattle.hart_slots.specs.Rejoined.{hart_of}
use Rattle.hart_step.specs.Live.{IsHeapClear, Waits}

pub record IsEngine (memory : AddressSpace) (slots : List Slot) (waiting : List Waiter)
    (next_tid steps budget : ℕ) (records : List Record) (ports bytes : ℕ)
    (closed : List Bool) : Type 0 where
  pub heap : IsHeapClear memory
  pub waits : Waits waiting (map hart_of slots)
  pub tid : next_tid ≤ steps + 2
  pub within : steps ≤ budget
  pub most : budget ≤ BUDGET
  pub sum : bytes ≡ min (sum_by (λ r. length r.bytes) records) (2 ^ 64 - 1)
  pub shut : (fd : ℕ) → fd < 3 + ports → slice_get closed fd ≡ Some (is_closed fd records)
