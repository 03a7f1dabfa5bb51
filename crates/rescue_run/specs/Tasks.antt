-- What a command asks for, where its machine can be started.
use Rattle.std.specs.Prelude.{Bool, true, false, IsTrue}
use Rattle.guest_words.specs.Image.{IsLoadList}
use Rattle.program_words.specs.declared.command.Command.{Command}
use Rattle.program_words.specs.declared.command.Command.TheVariants as command
use Rattle.rescue_run.specs.declared.setup.Schedule.{Schedule}
use Rattle.rescue_run.specs.declared.setup.Schedule.TheVariants.{Lone, Workers}
use Rattle.rescue_run.specs.declared.start.Start.{Start}
use Rattle.rescue_run.specs.declared.task.Task.{Task}
use Rattle.rescue_run.specs.declared.task.Task.TheVariants as task
use Rattle.trial_runs.specs.Subjects.{CanTry}
use Rattle.rescue_run.specs.Words.{IsWithin}

-- workers are threads
abbrev pub is_threaded : Schedule → Bool
is_threaded (Lone seed) = false
is_threaded Workers = true

-- the command runs a program on threads
abbrev pub runs_threads : Command → Bool
runs_threads (command.Run points harts budget save program ports) = true
runs_threads _ = false

-- a machine can be started and driven so, where there are threads or none
pub record CanRun (threads : Bool) (start : Start) : Type 0 where
  pub loads : IsLoadList start.loaded.image.loads
  pub within : IsWithin start.setup
  pub order : IsTrue (is_threaded start.setup.schedule) → IsTrue threads

-- and so can that of a task, if it has one; a load runs on one thread
abbrev pub CanStart : Bool → Task → Type 0
CanStart threads (task.Run start) = CanRun threads start
CanStart threads (task.List symbols) = Unit {0}
CanStart threads (task.Load load) = CanRun false load.start
CanStart threads (task.Audit audit) = IsLoadList audit.loaded.image.loads
CanStart threads (task.Try t) = CanTry t.subject
