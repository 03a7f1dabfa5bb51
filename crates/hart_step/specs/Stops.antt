-- What stops acts in a row.
use Rattle.std.specs.Prelude.{◌≡◌, ℕ, ◌<◌, Bool, true, false, not, ◌||◌, ◌⊎◌, length, Option, Some, None, slice_get}
use Rattle.guest_words.specs.declared.act.Act.{Act}
use Rattle.guest_words.specs.declared.act.Act.TheVariants as act
use Rattle.guest_words.specs.declared.call.Request.{Request}
use Rattle.guest_words.specs.declared.call.Request.TheVariants as request
use Rattle.guest_words.specs.declared.hart.Slot.{Slot}
use Rattle.guest_words.specs.Endings.{is_budget_spent}
use Rattle.guest_words.specs.HartAct.{hart_act}
use Rattle.guest_words.specs.State.{State, frames_at}
use Rattle.run_history.specs.After.{ran}
use Rattle.run_history.specs.Legal.{is_ready_at}
use Rattle.hart_step.specs.declared.next_act.NextAct.{NextAct}
use Rattle.hart_step.specs.declared.next_act.NextAct.TheVariants as next_act
use Rattle.hart_step.specs.Sees.{Sees}

-- a call that can want memory: for pages that come, and, where notes are taken, for those that go
abbrev pub can_want : Bool → Request → Bool
can_want noted (request.Break to) = true
can_want noted (request.Map size prot flags) = true
can_want noted (request.Unmap place size) = noted
can_want noted _ = false

abbrev pub act_wants : Bool → Act → Bool
act_wants noted (act.Call call) = can_want noted call
act_wants noted _ = false

abbrev pub slot_wants : Bool → State → Option Slot → Bool
slot_wants noted s None = false
slot_wants noted s (Some slot) =
    act_wants noted (hart_act s.memory s.points (length slot.frames) slot.hart)

-- the next act of a hart is such a call
abbrev pub wants_memory : Bool → State → ℕ → Bool
wants_memory noted s h = slot_wants noted s (slice_get s.slots h)

-- the hart can't go on: it isn't ready, or the budget is spent
abbrev pub is_held : State → ℕ → Bool
is_held s h = not (is_ready_at s h) || is_budget_spent s

-- an ordinary act stops a row only where it can want memory
abbrev pub IsReason : Bool → State → ℕ → NextAct → Type 0
IsReason noted s h next_act.Ordinary = wants_memory noted s h ≡ true
IsReason noted s h _ = Unit {0}

-- a ready hart's act stops a row of acts
pub record StopsAt (noted : Bool) (s : State) (h : ℕ) (is : NextAct) : Type 0 where
  pub act : Sees s h is
  pub reason : IsReason noted s h is
  pub free : is_held s h ≡ false

-- with no such act the hart can't go on, or its last act has closed a frame
abbrev pub Stops : Bool → State → State → ℕ → Option NextAct → Type 0
Stops noted old new h (Some is) = StopsAt noted new h is
Stops noted old new h None = (is_held new h ≡ true) ⊎ (frames_at new h < frames_at old h)

-- before each of so many acts no frame has closed, and none of them can want memory
abbrev pub IsPlainRow : Bool → State → ℕ → ℕ → Type 0
IsPlainRow noted s h count =
    (fewer : ℕ)
    → fewer < count
    → (frames_at (ran s h fewer) h ≡ frames_at s h)
    × (wants_memory noted (ran s h fewer) h ≡ false)
