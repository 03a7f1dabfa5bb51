-- Parts of a row of acts, and what the harts become by them.
use Rattle.std.specs.Prelude.{◌≡◌, ℕ, ◌<◌, Bool, true, false, List, length, Option, Some, slice_get}
use Rattle.std.specs.Option.{option_map}
use Rattle.guest_words.specs.declared.act.Act.{Act}
use Rattle.guest_words.specs.declared.act.Act.TheVariants as act
use Rattle.guest_words.specs.declared.hart.Hart.{Hart}
use Rattle.guest_words.specs.declared.hart.Slot.{Slot}
use Rattle.guest_words.specs.declared.point.Point.{Point}
use Rattle.guest_words.specs.HartAct.{hart_act}
use Rattle.guest_words.specs.State.{State, changed, on_hart}
use Rattle.guest_memory.specs.Kept.{AddressSpace}
use Rattle.hart_slots.specs.Rejoined.{top_of}
use Rattle.run_history.specs.After.{ran}
use Rattle.run_history.specs.Legal.{can_run}
use Rattle.hart_step.specs.declared.did.Did.{Did}
use Rattle.hart_step.specs.InARow.{lone, IsRow}
use Rattle.hart_step.specs.InPlace.{did_of}
use Rattle.hart_step.specs.SlotActs.{act_at}
use Rattle.hart_step.specs.Stops.{IsPlainRow}

-- an act is a call
abbrev pub is_call : Act → Bool
is_call (act.Call call) = true
is_call _ = false

-- what the hart in a slot does next, in short
abbrev pub did_at : State → ℕ → Option Did
did_at s h = option_map did_of (act_at s h)

-- so many acts of a hart in a row: before each no frame has closed, and none can want memory
pub record IsLeg (noted : Bool) (old new : State) (h count : ℕ) : Type 0 where
  pub legal : can_run old h count ≡ true
  pub after : new ≡ ran old h count
  pub plain : IsPlainRow noted old h count

-- the slots with another hart in one of them
abbrev pub with_hart_at : ℕ → Hart → List Slot → List Slot
with_hart_at h hart slots = changed (on_hart (λ before. hart)) h slots

-- the hart in a slot carried out so many instructions in a row, of at most so many, and its frames
-- haven't closed yet; this is what it does next, where it could have carried out more
pub record HasRun (points : List Point) (h : ℕ) (old new : List Slot)
    (before after : AddressSpace) (count most : ℕ) (closed : Bool) (did : Did) : Type 0 where
  pub slot : Slot
  pub end : Hart
  pub at : slice_get old h ≡ Some slot
  pub slots : new ≡ with_hart_at h end old
  pub row :
      IsRow points (length slot.frames) (top_of (Some slot)) (lone slot.hart before)
      (lone end after) count closed
  pub stops :
      closed ≡ false
      → count < most
      → did ≡ did_of (hart_act after.space points (length slot.frames) end)
