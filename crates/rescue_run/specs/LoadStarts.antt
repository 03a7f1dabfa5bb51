-- A load is never refused: the files that it brings are accepted, so that its words can come to
-- nothing but its run.
use Rattle.std.specs.Prelude.{◌≡◌, ℕ, Bool, List, [], ◌∷◌, Ok}
use Rattle.load_maker.specs.Accepted.{code_load, data_load, load_point}
use Rattle.program_words.specs.Words.{command_of}
use Rattle.program_words.specs.declared.command.Command.TheVariants as command
use Rattle.rescue_run.specs.declared.start.Loaded.{Loaded}
use Rattle.rescue_run.specs.declared.task.Task.TheVariants as task
use Rattle.rescue_run.specs.Loading.{Answers}
use Rattle.rescue_run.specs.Words.{load_task, task_for}

-- what the files of a load give
abbrev pub load_loaded : Loaded
load_loaded = record {
  image = record { loads = code_load ∷ data_load ∷ []; entry = 0x10000 };
  points = load_point ∷ [];
}

-- words that are read as a load of this number come to its run, with threads or without, and
-- whatever a shelf would answer
abbrev pub LoadStarts : Type 0
LoadStarts = (threads : Bool) (words : List (List ℕ)) (number : ℕ) (answers : Answers)
    → command_of words ≡ Ok (command.Load number)
    → task_for threads words 0 answers ≡ Ok (task.Load (load_task number load_loaded))
