-- What is prepared for a command: the shelf's answers, what it was asked for, and what they give.
use Rattle.std.specs.Prelude.{◌≡◌, ℕ, Bool, List, ◌++◌, Option, Result, Ok, Err}
use Rattle.edge_ports.specs.Shelves.{Loads, Shelved}
use Rattle.program_words.specs.Words.{command_of}
use Rattle.program_words.specs.declared.command.Command.{Command}
use Rattle.rescue_run.specs.declared.further.FurtherNames.{FurtherNames}
use Rattle.rescue_run.specs.declared.files.Files.{Files}
use Rattle.rescue_run.specs.declared.setup.Setup.{Setup}
use Rattle.rescue_run.specs.declared.task.Task.{Task}
use Rattle.rescue_run.specs.declared.refusal.Refusal.{Refusal}
use Rattle.rescue_run.specs.declared.outcome.Which.TheVariants as which
use Rattle.rescue_run.specs.Outcomes.{limit_of}
use Rattle.rescue_run.specs.Loading.{listed_by, loaded_of, loads_of_files, named_files, Answers, Read}
use Rattle.rescue_run.specs.Reads.{AreAnswers, IsAskedFor, IsOrMemory}
use Rattle.rescue_run.specs.Further.{audit_with, further_loads}
use Rattle.rescue_run.specs.Words.{further_of, files_of, list_with, loads_by, loads_for, loads_read, run_with, task_by, task_for, task_read}
use Rattle.rescue_run.specs.Refusals.{wanting}

-- files were loaded for a run with this setup
pub record StartsFiles (f : Files) (setup : Setup) (save : Option (List ℕ)) (old new : Shelved)
    (result : Result Task Refusal) : Type 0 where
  pub answers : Answers
  pub answered : AreAnswers old new (named_files f) answers
  pub asked : IsAskedFor (result ≡ Err wanting) old.asked new.asked (loads_of_files f answers)
  pub value : IsOrMemory result (run_with setup save (loaded_of f answers))

-- the file of a program was loaded for the list of its symbols
pub record ListsFile (name : List ℕ) (old new : Shelved) (result : Result Task Refusal) : Type 0
  where
    pub answer : Read
    pub loads : Loads old new name (limit_of which.Program) answer
    pub value : IsOrMemory result (list_with (listed_by answer))

-- files and further files were loaded for an audit
pub record AuditsFiles (f : Files) (names : FurtherNames) (old new : Shelved)
    (result : Result Task Refusal) : Type 0 where
  pub answers : Answers
  pub answered : AreAnswers old new (named_files f ++ further_of names) answers
  pub asked : IsAskedFor (result ≡ Err wanting) old.asked new.asked
      (loads_of_files f answers
      ++ further_loads (loaded_of f answers) answers (further_of names))
  pub value : IsOrMemory result
      (audit_with (loaded_of f answers) (further_of names) answers names.ports)

-- what files were loaded for a command
pub record PreparesCommand (c : Command) (old new : Shelved) (result : Result Task Refusal) :
    Type 0 where
  pub answers : Answers
  pub answered : AreAnswers old new (files_of c) answers
  pub asked : IsAskedFor (result ≡ Err wanting) old.asked new.asked (loads_by c answers)
  pub value : IsOrMemory result (task_by c answers)

-- the same for a command, and so many ports that are handed in
pub record PreparesCounted (c : Command) (handed : ℕ) (old new : Shelved)
    (result : Result Task Refusal) : Type 0 where
  pub answers : Answers
  pub answered : AreAnswers old new (files_of c) answers
  pub asked : IsAskedFor (result ≡ Err wanting) old.asked new.asked
      (loads_read (Ok c) handed answers)
  pub value : IsOrMemory result (task_read (Ok c) handed answers)

-- the files of words that are read
abbrev pub AreAnswersFor : List (List ℕ) → Shelved → Shelved → Answers → Type 0
AreAnswersFor words old new answers =
    (c : Command) → command_of words ≡ Ok c → AreAnswers old new (files_of c) answers

-- the same for words, and so many ports that are handed in, where there are threads or none
pub record Prepares (threads : Bool) (words : List (List ℕ)) (handed : ℕ) (old new : Shelved)
    (result : Result Task Refusal) : Type 0 where
  pub answers : Answers
  pub answered : AreAnswersFor words old new answers
  pub asked : IsAskedFor (result ≡ Err wanting) old.asked new.asked
      (loads_for threads words handed answers)
  pub value : IsOrMemory result (task_for threads words handed answers)
