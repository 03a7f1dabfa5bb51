-- What a step of a machine with calls of points open does, and how a call begins.
use Rattle.std.specs.Prelude.{◌≡◌, ℕ, ◌≤◌, ◌<◌, Bool, true, false, List, [], ◌∷◌, ◌++◌, None}
use Rattle.guest_words.specs.declared.ending.Ending.TheVariants as ending
use Rattle.guest_words.specs.declared.fault.Fault.{Fault as FaultAt}
use Rattle.guest_words.specs.declared.point.PointRef.{PointRef}
use Rattle.guest_words.specs.Act.{StateAct, Ordinary, Fault, Request, Arrival, End, Absent, act_of}
use Rattle.guest_words.specs.Endings.{is_budget_spent}
use Rattle.guest_words.specs.State.{State, frames_at}
use Rattle.run_history.specs.declared.entry.Entry.{Entry, Entered}
use Rattle.run_history.specs.declared.entry.Entry.TheViews as entry
use Rattle.run_history.specs.After.{after, ran, state_after}
use Rattle.run_history.specs.Faults.{fault_of, pc_at}
use Rattle.run_history.specs.LastEntry.{with_acts}
use Rattle.run_history.specs.Legal.{IsLegal, can_run}
use Rattle.run_history.specs.Quiet.{is_quiet}
use Rattle.open_calls.specs.Nest.{Level, flat_from, lowest}
use Rattle.machine_core.specs.declared.machine.Begin.{Begin}
use Rattle.machine_core.specs.declared.machine.Begin.TheVariants as begin
use Rattle.machine_core.specs.declared.machine.Next.{Next}
use Rattle.machine_core.specs.declared.machine.Next.TheVariants as next
use Rattle.machine_core.specs.Machine.{GoesOn, Machine, Opened, history_of, whole}
use Rattle.machine_core.specs.Notes.{IsUnnoted, NotesGoOn}
use Rattle.machine_core.specs.QuietSteps.{CallsOn, EndsBy, with_entry}

-- the machine that isn't to go on
abbrev pub abandoned_of : Machine → Machine
abandoned_of m = record m { abandoned = true }

-- before each of so many acts the hart has as many frames open
abbrev pub StaysOpen : State → ℕ → ℕ → Type 0
StaysOpen s h count =
    (fewer : ℕ) → fewer < count → frames_at (ran s h fewer) h ≡ frames_at s h

-- the hart makes ordinary acts in a row, of which only the last may close frames
pub record Acts (a : Opened) (m : Machine) : Type 0 where
  pub count : ℕ
  pub some : 1 ≤ count
  pub goes : can_run a.state a.hart count ≡ true
  pub stays : StaysOpen a.state a.hart count
  pub same : m ≡ record (whole a) {
    history = with_acts a.hart count (history_of a);
    state = ran a.state a.hart count;
  }

-- the innermost call is taken back: in the whole history one Rescued entry, legal there, stands in
-- place of its Entered and all behind it, and the state is what this gives
pub record Erases (start : State) (fault : FaultAt) (a : Opened) (m : Machine) : Type 0 where
  pub outer : Level
  pub further : List Level
  pub innermost : a.nest.outers ≡ outer ∷ further
  pub before : List Entry
  pub encloses : before ≡ flat_from a.hart further outer.entries
  pub was : history_of a ≡ before ++ Entered a.hart outer.point ∷ a.nest.entries
  -- the entries since those before the outermost call
  pub since : List Entry
  pub follows : before ≡ lowest a.nest ++ since
  pub legal : IsLegal (state_after start before)
      (entry.Rescued a.hart outer.point fault a.nest.entries)
  pub same :
      let e = entry.Rescued a.hart outer.point fault a.nest.entries in
      m ≡ record (whole a) {
        history = before ++ e ∷ [];
        state = after (state_after start before) e;
      }

-- a hart enters a point
pub record EntersAt (h : ℕ) (point : PointRef) (m n : Machine) : Type 0 where
  pub legal : IsLegal m.state (Entered h point)
  pub same : n ≡ with_entry m (Entered h point)

-- the hart enters a further point
abbrev pub Enters : PointRef → Opened → Machine → Type 0
Enters point a m = EntersAt a.hart point (whole a) m

-- it makes a call on a device
abbrev pub Asks : Opened → Machine → Type 0
Asks a m = CallsOn a.hart (whole a) m

-- what a step does, by the act of the hart
abbrev pub Does : State → Opened → StateAct → Machine → Type 0
Does start a (Ordinary t) m = Acts a m
Does start a (Fault name) m =
    Erases start (record { name = name; pc = pc_at a.state a.hart }) a m
Does start a (Request way port asked place) m = Asks a m
Does start a (Arrival point) m = Enters point a m
Does start a (End code) m = EndsBy (ending.Exit a.hart code) (whole a) m
Does start a Absent m = ⊥

abbrev pub DoesBy : State → Opened → Bool → Machine → Type 0
DoesBy start a true m = EndsBy ending.Budget (whole a) m
DoesBy start a false m = Does start a (act_of a.state a.hart) m

-- a step of open calls leads to this machine: the run ends where the budget is spent
abbrev pub StepsTo : State → Opened → Machine → Type 0
StepsTo start a m = DoesBy start a (is_budget_spent a.state) m

-- calls are open still, all in the outermost one
pub record StaysUnder (start : State) (a b : Opened) : Type 0 where
  pub steps : StepsTo start a (whole b)
  pub hart : b.hart ≡ a.hart
  pub outermost : lowest b.nest ≡ lowest a.nest
  pub notes : NotesGoOn a b
  pub goes : GoesOn b

-- no call is open: no frame is, or the run has ended
pub record LeavesAll (start : State) (a : Opened) (m : Machine) : Type 0 where
  pub steps : StepsTo start a m
  pub calm : m.state.ending ≡ None → is_quiet m.state ≡ true

-- memory was wanting, and no fault was due
pub record WasWanting (a b : Opened) : Type 0 where
  pub same : b ≡ a
  pub faultless : is_budget_spent a.state ≡ false → fault_of a.state a.hart ≡ None

-- what a step came to
abbrev pub GoesTo : {K S T P : _} → State → Opened → Next K S T P → Type 0
GoesTo start a (next.Active b) = StaysUnder start a b
GoesTo start a (next.Quiet m) = LeavesAll start a m
GoesTo start a (next.Memory b) = WasWanting a b

-- the call of a point was entered
pub record HasBegun (h : ℕ) (point : PointRef) (m : Machine) (a : Opened) : Type 0 where
  pub legal : IsLegal m.state (Entered h point)
  pub same : whole a ≡ with_entry m (Entered h point)
  pub hart : a.hart ≡ h
  pub outermost : lowest a.nest ≡ m.history
  pub one : frames_at a.state h ≡ 1
  pub none : IsUnnoted a.nest a.notes
  pub goes : GoesOn a

-- a call was begun, or memory was wanting
abbrev pub Begins : {K S T P : _} → ℕ → PointRef → Machine → Begin K S T P → Type 0
Begins h point m (begin.Active a) = HasBegun h point m a
Begins h point m (begin.Memory same) = same ≡ m
