-- What workers know of a machine and of their passes.
use Rattle.std.specs.Prelude.{◌≡◌, ℕ, ◌<◌, ◌≤◌, IsTrue, length, false, None}
use Rattle.guest_words.specs.State.{State}
use Rattle.machine_core.specs.Machine.{Machine}
use Rattle.machine_core.specs.QuietSteps.{stepped_of, HasArrived}
use Rattle.stop_gate.specs.Passes.{Identity, Pass, IsOf}

-- a hart that a worker steps, and how many ordinary acts one step may make
pub record Duty : Type 0 where
  pub hart : ℕ
  pub quantum : ℕ

-- the hart is one of a run that began so, and the number within what a step takes
pub record IsDuty (start : State) (duty : Duty) : Type 0 where
  pub hart : duty.hart < length start.slots
  pub some : 1 ≤ duty.quantum
  pub most : duty.quantum ≤ 4096

-- a hart stands at the entry of a point, and may enter it
pub record CanBegin (h : ℕ) (m : Machine) : Type 0 where
  pub going : m.state.ending ≡ None
  pub kept : m.abandoned ≡ false
  pub arrived : HasArrived (stepped_of m.state h)

-- a pass of this gate has seen the value over
abbrev pub HasSeenOver : {O : Type 0} → Identity O → Pass O → Type 0
HasSeenOver gate pass = IsOf gate pass × IsTrue pass.view.over
