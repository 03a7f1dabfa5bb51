-- How trials are prepared: a program, its symbols, and the input of its runs.
use Rattle.std.specs.Prelude.{◌≡◌, ◌⊎◌, ℕ, ◌≤◌, List, [], ◌∷◌, Result, Ok, Err}
use Rattle.guest_words.specs.declared.image.Image.{Image}
use Rattle.guest_words.specs.declared.limits.TheConstants.{BUDGET, HARTS}
use Rattle.guest_words.specs.Image.{first_fault}
use Rattle.edge_ports.specs.Asked.{Asked, Loaded as Load'}
use Rattle.edge_ports.specs.Shelves.{Loads, Shelved}
use Rattle.elf_symbols.specs.declared.symbol.Symbol.{Symbol}
use Rattle.rescue_run.specs.declared.refusal.Refusal.{Refusal}
use Rattle.rescue_run.specs.declared.outcome.Which.TheVariants as which
use Rattle.rescue_run.specs.declared.task.Task.{Task}
use Rattle.rescue_run.specs.declared.task.Task.TheVariants as task
use Rattle.rescue_run.specs.declared.task.TryTask.{TryTask}
use Rattle.rescue_run.specs.declared.trying.TrySetup.{TrySetup}
use Rattle.rescue_run.specs.Further.{bytes_in}
use Rattle.rescue_run.specs.Loading.{image_of, listed_by, listed_or, Answers, NamedFile, Read}
use Rattle.rescue_run.specs.Outcomes.{limit_of, of_shelf_fault}
use Rattle.rescue_run.specs.Reads.{AreAnswers, IsAskedFor, IsOrMemory}
use Rattle.rescue_run.specs.Refusals.{wanting}

-- its runs have at least one slot for harts and one step, and no more than the greatest numbers
pub record IsSetUp (t : TrySetup) : Type 0 where
  pub some : 1 ≤ t.harts
  pub most : t.harts ≤ HARTS
  pub least : 1 ≤ t.budget
  pub budget : t.budget ≤ BUDGET

abbrev pub task_of : TrySetup → Image → List Symbol → List ℕ → TryTask
task_of t image symbols input = record {
  listing = symbols;
  subject = record {
    image = image;
    harts = t.harts;
    budget = t.budget;
    seed = t.seed;
    input = input;
  };
  returns = t.returns;
}

-- the program and the input of its runs; the input is the file of a device
abbrev pub try_files : List ℕ → List ℕ → List NamedFile
try_files program input = (which.Program, program) ∷ (which.Device 0, input) ∷ []

-- trials of a program with these symbols, unless they are refused, or the input isn't read
abbrev pub try_with : TrySetup → List ℕ → Result (List Symbol) Refusal → Read → Result Task Refusal
try_with t program (Err refusal) answer = Err refusal
try_with t program (Ok symbols) (Ok input) =
    Ok (task.Try (task_of t (image_of program) symbols input))
try_with t program (Ok symbols) (Err fault) = Err (of_shelf_fault (which.Device 0) fault)

abbrev pub try_by : TrySetup → Answers → Result Task Refusal
try_by t answers = try_with t (bytes_in (answers which.Program))
    (listed_by (answers which.Program)) (answers (which.Device 0))

-- the input is loaded where neither the program nor its symbols are refused
abbrev pub input_load : Result (List Symbol) Refusal → List ℕ → Read → List Asked
input_load (Err refusal) name answer = []
input_load (Ok symbols) name answer = Load' name answer ∷ []

abbrev pub try_loads : List ℕ → List ℕ → Answers → List Asked
try_loads program input answers = Load' program (answers which.Program)
    ∷ input_load (listed_by (answers which.Program)) input (answers (which.Device 0))

-- the rule that a program or its symbols break first, or want of memory
abbrev pub IsUnlisted : List ℕ → Refusal → Type 0
IsUnlisted program refusal =
    (listed_or program (first_fault program) ≡ Err refusal) ⊎ (refusal ≡ wanting)

-- the input was loaded for a program that isn't refused
pub record TriesInput (t : TrySetup) (program name : List ℕ) (old new : Shelved)
    (result : Result Task Refusal) : Type 0 where
  pub symbols : List Symbol
  pub listed : listed_or program (first_fault program) ≡ Ok symbols
  pub answer : Read
  pub loads : Loads old new name (limit_of (which.Device 0)) answer
  pub gives : result ≡ try_with t program (Ok symbols) answer

-- or the program is refused
pub record StopsUnlisted (program : List ℕ) (old new : Shelved) (result : Result Task Refusal) :
    Type 0 where
  pub refusal : Refusal
  pub cause : IsUnlisted program refusal
  pub same : new ≡ old
  pub gives : result ≡ Err refusal

abbrev pub TriesProgram : TrySetup → List ℕ → List ℕ → Shelved → Shelved → Result Task Refusal
    → Type 0
TriesProgram t program name old new result =
    TriesInput t program name old new result ⊎ StopsUnlisted program old new result

-- the files were loaded for trials
pub record TriesFiles (t : TrySetup) (program input : List ℕ) (old new : Shelved)
    (result : Result Task Refusal) : Type 0 where
  pub answers : Answers
  pub answered : AreAnswers old new (try_files program input) answers
  pub asked : IsAskedFor (result ≡ Err wanting) old.asked new.asked
      (try_loads program input answers)
  pub value : IsOrMemory result (try_by t answers)
