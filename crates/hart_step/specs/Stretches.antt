-- Register acts of one hart that were made beside the run, and then become acts of it.
use Rattle.std.specs.Prelude.{◌≡◌, ℕ, ◌-◌, ◌≤◌, true, nat_lt, if◌then◌else◌, List, Some, slice_get}
use Rattle.guest_words.specs.declared.hart.Hart.{Hart}
use Rattle.guest_words.specs.declared.limits.TheConstants.{RECORD_BYTES}
use Rattle.guest_words.specs.Endings.{record_bytes}
use Rattle.guest_words.specs.Harts.{is_ready}
use Rattle.guest_words.specs.Start.{slot_of}
use Rattle.guest_words.specs.State.{State}
use Rattle.hart_step.specs.Registers.{Stretch, IsTextOf, registers}

-- how many steps may still be made: none where the records have passed their limit of bytes
abbrev pub steps_left : State → ℕ
steps_left s = if nat_lt RECORD_BYTES (record_bytes s) then 0 else s.budget - s.steps

-- so many register acts lead from a hart to another; the first is ready, and stands in the state
-- with no frame open; the budget has room for the acts
pub record IsStretch (s : State) (h : ℕ) (base after : Hart) (count : ℕ) : Type 0 where
  pub text : List Stretch
  pub tells : IsTextOf text s.memory
  pub made : registers text s.points base count ≡ Some after
  pub ready : is_ready base.state ≡ true
  pub kept : slice_get s.slots h ≡ Some (slot_of base)
  pub room : count ≤ steps_left s
