-- What a step of a machine with no call open does.
use Rattle.std.specs.Prelude.{◌≡◌, ℕ, ◌≤◌, ◌<◌, Bool, false, not, ◌&&◌, if◌then◌else◌, [], ◌∷◌, ◌++◌, Option, Some, None, slice_get}
use Rattle.guest_words.specs.declared.ending.Ending.{Ending}
use Rattle.guest_words.specs.declared.ending.Ending.TheVariants as ending
use Rattle.guest_words.specs.declared.hart.Slot.{Slot}
use Rattle.guest_words.specs.declared.record.Record.{Record}
use Rattle.guest_words.specs.Act.{StateAct, Ordinary, Fault, Request, Arrival, End, Absent, act_of}
use Rattle.guest_words.specs.Endings.{is_budget_spent, is_stuck}
use Rattle.guest_words.specs.Harts.{is_ready}
use Rattle.guest_words.specs.State.{State}
use Rattle.run_history.specs.declared.entry.Entry.{Entry, Ran, Called, Ended}
use Rattle.run_history.specs.After.{after, ran}
use Rattle.run_history.specs.Legal.{IsLegal, can_go}
use Rattle.hart_step.specs.Stops.{wants_memory}
use Rattle.machine_core.specs.declared.stepped.Stepped.{Stepped}
use Rattle.machine_core.specs.declared.stepped.Stepped.TheVariants.{Moved, Arrived, Idle, Ended as Over}
use Rattle.machine_core.specs.Machine.{Machine}
use Rattle.machine_core.specs.Served.{ServedBy}

-- the answer for a ready hart at this pc, by what it does next
abbrev pub stepped_by : StateAct → ℕ → ℕ → Option Stepped
stepped_by (Ordinary t) h pc = Some Moved
stepped_by (Fault name) h pc =
    Some (Over (ending.Fault h (record { name = name; pc = pc })))
stepped_by (Request way port asked place) h pc = Some Moved
stepped_by (Arrival point) h pc = Some (Arrived point)
stepped_by (End code) h pc = Some (Over (ending.Exit h code))
stepped_by Absent h pc = None

abbrev pub stepped_in : State → ℕ → Option Slot → Option Stepped
stepped_in s h None = None
stepped_in s h (Some slot) =
    if is_ready slot.hart.state then stepped_by (act_of s h) h slot.hart.pc
    else Some (Idle slot.hart.state)

-- the answer of a step: budget, harts and then the act are looked at, in this order; none where no
-- slot has that number
abbrev pub stepped_of : State → ℕ → Option Stepped
stepped_of s h =
    if is_budget_spent s then Some (Over ending.Budget)
    else if is_stuck s then Some (Over ending.Stuck)
    else stepped_in s h (slice_get s.slots h)

-- the machine with an entry more
abbrev pub with_entry : Machine → Entry → Machine
with_entry m e = record m { history = m.history ++ e ∷ []; state = after m.state e }

-- the answers that change nothing
abbrev pub IsStill : Stepped → Type 0
IsStill (Arrived point) = Unit {0}
IsStill (Idle state) = Unit {0}
IsStill _ = ⊥

-- the hart stands at the entry of an active point
abbrev pub HasArrived : Option Stepped → Type 0
HasArrived (Some (Arrived point)) = Unit {0}
HasArrived _ = ⊥

-- the run ends
pub record EndsBy (ending : Ending) (m n : Machine) : Type 0 where
  pub legal : IsLegal m.state (Ended ending)
  pub same : n ≡ with_entry m (Ended ending)

-- a hart can go on by an act that asks for no pages
abbrev pub can_join : State → ℕ → Bool
can_join s h = can_go s h && not (wants_memory false s h)

-- of so many acts in a row none but the first asks for pages
abbrev pub IsRowOn : State → ℕ → ℕ → Type 0
IsRowOn s h count =
    (behind : ℕ) → 0 < behind → behind < count → wants_memory false (ran s h behind) h ≡ false

-- a hart makes ordinary acts: at least one, at most so many, and as many as can be in a row
pub record RunsOn (h most : ℕ) (m n : Machine) : Type 0 where
  pub count : ℕ
  pub legal : IsLegal m.state (Ran h count)
  pub within : count ≤ most
  pub row : IsRowOn m.state h count
  pub stops : count < most → can_join n.state h ≡ false
  pub same : n ≡ with_entry m (Ran h count)

-- a hart makes a call on a device
pub record CallsOn (h : ℕ) (m n : Machine) : Type 0 where
  pub call : Record
  pub legal : IsLegal m.state (Called h call)
  pub served : ServedBy call m.devices n.devices
  pub same : n ≡ record (with_entry m (Called h call)) { devices = n.devices }

-- what a hart moves by: its act is ordinary, or a call on a device
abbrev pub Moves : ℕ → ℕ → Machine → StateAct → Machine → Type 0
Moves h most m (Ordinary t) n = RunsOn h most m n
Moves h most m (Request way port asked place) n = CallsOn h m n
Moves h most m _ n = ⊥

-- what a step does by which the hart doesn't move
abbrev pub Stands : Machine → Stepped → Machine → Type 0
Stands m Moved n = ⊥
Stands m (Over ending) n = EndsBy ending m n
Stands m (Arrived point) n = n ≡ m
Stands m (Idle state) n = n ≡ m

-- what a step does, by its answer
abbrev pub Steps : ℕ → ℕ → Machine → Stepped → Machine → Type 0
Steps h most m Moved n = Moves h most m (act_of m.state h) n
Steps h most m stepped n = Stands m stepped n
