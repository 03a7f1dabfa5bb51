-- What a commit of a stretch answers.
use Rattle.std.specs.Prelude.{◌≡◌, ◌≢◌, ℕ, ◌+◌, ◌<◌, ◌≤◌, List, Option, Some, option_map, slice_get}
use Rattle.guest_words.specs.declared.hart.Hart.{Hart}
use Rattle.guest_words.specs.State.{State, with_hart}
use Rattle.hart_slots.specs.Rejoined.{hart_of}
use Rattle.hart_step.specs.Registers.{IsTextOf, Stretch, registers}
use Rattle.hart_step.specs.Stretches.{steps_left}
use Rattle.run_history.specs.declared.entry.Entry.{Ran}
use Rattle.run_history.specs.Legal.{IsLegal}
use Rattle.machine_core.specs.declared.commit.Commit.{Commit}
use Rattle.machine_core.specs.declared.commit.Commit.TheVariants.{Committed, Moved, Short, Memory}
use Rattle.machine_core.specs.Machine.{Machine}
use Rattle.machine_core.specs.QuietSteps.{with_entry}

-- the hart in a slot
abbrev pub hart_in : State → ℕ → Option Hart
hart_in s h = option_map hart_of (slice_get s.slots h)

-- so many register acts lead from the base to a hart, by the text and the points of the start
pub record IsStretchFrom (start : State) (base after : Hart) (count : ℕ) : Type 0 where
  pub text : List Stretch
  pub tells : IsTextOf text start.memory
  pub made : registers text start.points base count ≡ Some after

-- the state with another hart in a slot, and so many steps more
abbrev pub stretched : State → ℕ → Hart → ℕ → State
stretched s h hart count =
    record (with_hart s h (λ before. hart)) { steps = s.steps + count }

-- the entry of the stretch is appended, and the hart is the one after it
pub record Commits (h : ℕ) (to : Hart) (count : ℕ) (m n : Machine) : Type 0 where
  pub legal : IsLegal m.state (Ran h count)
  pub same : n ≡ with_entry m (Ran h count)
  pub state : n.state ≡ stretched m.state h to count

-- Moved exactly where the kept hart isn't the base; else Short exactly where fewer steps are left
abbrev pub CommitsTo : ℕ → Hart → Hart → ℕ → Machine → Commit → Machine → Type 0
CommitsTo h base to count m Committed n =
    (hart_in m.state h ≡ Some base) × (count ≤ steps_left m.state) × Commits h to count m n
CommitsTo h base to count m (Moved kept) n =
    (hart_in m.state h ≡ Some kept) × (kept ≢ base) × (n ≡ m)
CommitsTo h base to count m (Short left) n =
    (hart_in m.state h ≡ Some base) × (left ≡ steps_left m.state) × (left < count) × (n ≡ m)
CommitsTo h base to count m Memory n = n ≡ m
