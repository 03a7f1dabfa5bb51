-- How trials are prepared, and what their put comes to.
use Rattle.std.proofs.Common.{◌≡◌, inl, inr, ℕ, List, [], ◌∷◌, ◌++◌, Option, None, Result, Ok, Err, refl, ap, sym, ◌∙◌, subst}
use Rattle.std.proofs.lemmas.List.{append_assoc}
use Rattle.edge_ports.specs.Asked.{Asked, Loaded as Load'}
use Rattle.edge_ports.specs.End.{End}
use Rattle.edge_ports.specs.Shelves.{Loads, Shelved}
use Rattle.edge_ports.specs.declared.shelf.ShelfFault.{ShelfFault}
use Rattle.edge_ports.specs.declared.shelf.ShelfFault.TheVariants as shelf
use Rattle.elf_symbols.specs.declared.sym_fault.SymFault.{SymFault}
use Rattle.elf_symbols.specs.declared.symbol.Symbol.{Symbol}
use Rattle.elf_symbols.specs.SymbolTable.{symbols_of}
use Rattle.guest_words.specs.declared.elf_fault.ElfFault.{ElfFault}
use Rattle.guest_words.specs.declared.ending.Ending.{Ending}
use Rattle.guest_words.specs.declared.fault.Fault.{Fault as FaultAt}
use Rattle.guest_words.specs.declared.image.Image.{Image}
use Rattle.guest_words.specs.Image.{first_fault}
use Rattle.rescue_trial.specs.declared.trial.Trial.{Trial}
use Rattle.trial_runs.specs.Trials.{AreTrials, AreTries, EndsWithoutFault}
use Rattle.trial_runs.specs.declared.tries.Tries.{Tries}
use Rattle.trial_runs.specs.declared.tries.Tries.TheVariants as tries
use Rattle.guest_words.specs.Word.{word_of}
use Rattle.rescue_run.specs.declared.outcome.Outcome.{Outcome}
use Rattle.rescue_run.specs.declared.refusal.Refusal.{Refusal}
use Rattle.rescue_run.specs.declared.outcome.Which.{Which}
use Rattle.rescue_run.specs.declared.outcome.Which.TheVariants as which
use Rattle.rescue_run.specs.declared.task.Task.{Task}
use Rattle.rescue_run.specs.declared.task.Task.TheVariants as task
use Rattle.rescue_run.specs.declared.task.TryTask.{TryTask}
use Rattle.rescue_run.specs.declared.trying.TrySetup.{TrySetup}
use Rattle.rescue_run.specs.Loading.{image_of, listed_or, symbols_or, IsNamed, Read}
use Rattle.rescue_run.specs.Outcomes.{limit_of, of_shelf_fault}
use Rattle.rescue_run.specs.Reads.{AreAnswers}
use Rattle.rescue_run.specs.ReadsFiles.{BreaksSymbols, IsUnaccepted}
use Rattle.rescue_run.specs.Tries.{IsTryTold, PutsTries}
use Rattle.rescue_run.specs.Trying.{input_load, task_of, try_files, try_with, IsUnlisted, StopsUnlisted, TriesFiles, TriesInput, TriesProgram}
use Rattle.rescue_run.proofs.Reading.{loads_at}
use Rattle.rescue_run.proofs.Shelving.{answer_among, follows_load, follows_same, no_answer, take_one}

-- the symbols of a program that isn't refused
pub listed_as : (program : List ℕ) → IsNamed program → listed_or program (first_fault program) ≡ Ok (symbols_of program)
listed_as program named =
    ap (λ (o : Option (ElfFault × ℕ)). listed_or program o) named.accepted
    ∙ ap (λ (o : Option (SymFault × ℕ)). symbols_or program o) named.kept

-- the input of a program that isn't refused
pub input_given : (t : TrySetup) (program name : List ℕ) (old new : Shelved) (name' : List ℕ) (limit : ℕ) (image : Image) (input : List ℕ) → IsNamed program
    → image ≡ image_of program → name' ≡ name → limit ≡ limit_of (which.Device 0) → Loads old new name' limit (Ok input)
    → TriesProgram t program name old new (Ok (task.Try (task_of t image (symbols_of program) input)))
input_given t program name old new name' limit image input named is same within loads = inl (record {
  symbols = symbols_of program;
  listed = listed_as program named;
  answer = Ok input;
  loads = loads_at old new name' name limit (limit_of (which.Device 0)) (Ok input) same within loads;
  gives = ap (λ i. Ok (task.Try (task_of t i (symbols_of program) input))) is;
})

pub input_unread : (t : TrySetup) (program name : List ℕ) (old new : Shelved) (name' : List ℕ) (limit : ℕ) (fault : ShelfFault) (refusal : Refusal)
    → IsNamed program → name' ≡ name → limit ≡ limit_of (which.Device 0) → refusal ≡ of_shelf_fault (which.Device 0) fault
    → Loads old new name' limit (Err fault) → TriesProgram t program name old new (Err refusal)
input_unread t program name old new name' limit fault refusal named same within gives loads = inl (record {
  symbols = symbols_of program;
  listed = listed_as program named;
  answer = Err fault;
  loads = loads_at old new name' name limit (limit_of (which.Device 0)) (Err fault) same within loads;
  gives = ap Err gives;
})

-- answers for the program and the input
abbrev input_answers : Read → Read → Which → Read
input_answers program input which.Program = program
input_answers program input which.Points = Err shelf.Memory
input_answers program input which.History = Err shelf.Memory
input_answers program input (which.Device number) = input

-- the shelf doesn't give the program
pub tries_unread : (t : TrySetup) (program input : List ℕ) (old new : Shelved) (name' : List ℕ) (limit : ℕ) (fault : ShelfFault) (refusal : Refusal)
    → name' ≡ program → limit ≡ limit_of which.Program → refusal ≡ of_shelf_fault which.Program fault
    → Loads old new name' limit (Err fault) → TriesFiles t program input old new (Err refusal)
tries_unread t program input old new name' limit fault refusal same within gives given =
    let loads = loads_at old new name' program limit (limit_of which.Program) (Err fault) same within given in record {
      answers = input_answers (Err fault) (Err shelf.Memory);
      answered = (
        answer_among which.Program program old old new new (Err fault) (follows_same old) loads (follows_same new),
        (no_answer old new (which.Device 0) input, tt),
      );
      asked = inl loads.asked;
      value = inl (ap Err gives);
    }

-- it is refused for a rule, or memory was wanting
refused_as : (t : TrySetup) (program input bytes : List ℕ) (old new : Shelved) (refusal : Refusal)
    → Loads old new program (limit_of which.Program) (Ok bytes)
    → AreAnswers old new (try_files program input) (input_answers (Ok bytes) (Err shelf.Memory))
    → IsUnlisted bytes refusal → TriesFiles t program input old new (Err refusal)
refused_as t program input bytes old new refusal loads answered (inl rule) = record {
  answers = input_answers (Ok bytes) (Err shelf.Memory);
  answered = answered;
  asked = inl (subst (λ (r : Result (List Symbol) Refusal). new.asked ≡ old.asked ++ Load' program (Ok bytes) ∷ input_load r input (Err shelf.Memory))
      (sym rule) loads.asked);
  value = inl (subst (λ (r : Result (List Symbol) Refusal). Err refusal ≡ try_with t bytes r (Err shelf.Memory)) (sym rule) refl);
}
refused_as t program input bytes old new refusal loads answered (inr memory) = record {
  answers = input_answers (Ok bytes) (Err shelf.Memory);
  answered = answered;
  asked = inr (
    ap Err memory,
    (
      1,
      loads.asked ∙ ap (λ (xs : List Asked). old.asked ++ xs)
          (sym (take_one (Load' program (Ok bytes)) (input_load (listed_or bytes (first_fault bytes)) input (Err shelf.Memory)))),
    ),
  );
  value = inr (ap Err memory);
}

-- it is refused
tries_refused : (t : TrySetup) (program input bytes : List ℕ) (old mid new : Shelved) (r : Result Task Refusal)
    → Loads old mid program (limit_of which.Program) (Ok bytes) → StopsUnlisted bytes mid new r → TriesFiles t program input old new r
tries_refused t program input bytes old mid new r loads s =
    let here : Loads old new program (limit_of which.Program) (Ok bytes) =
    subst (λ (x : Shelved). Loads old x program (limit_of which.Program) (Ok bytes)) (sym s.same) loads in
    subst (λ (x : Result Task Refusal). TriesFiles t program input old new x) (sym s.gives)
    (refused_as t program input bytes old new s.refusal here
    (answer_among which.Program program old old new new (Ok bytes) (follows_same old) here (follows_same new), (no_answer old new (which.Device 0) input, tt))
    s.cause)

-- it isn't, and the input was loaded
tries_given : (t : TrySetup) (program input bytes : List ℕ) (old mid new : Shelved) (r : Result Task Refusal)
    → Loads old mid program (limit_of which.Program) (Ok bytes) → TriesInput t bytes input mid new r → TriesFiles t program input old new r
tries_given t program input bytes old mid new r loads i = record {
  answers = input_answers (Ok bytes) i.answer;
  answered = (
    answer_among which.Program program old old mid new (Ok bytes) (follows_same old) loads (follows_load mid new input (limit_of (which.Device 0)) i.answer i.loads),
    (answer_among (which.Device 0) input old mid new new i.answer (follows_load old mid program (limit_of which.Program) (Ok bytes) loads) i.loads (follows_same new), tt),
  );
  asked = inl (subst (λ (x : Result (List Symbol) Refusal). new.asked ≡ old.asked ++ Load' program (Ok bytes) ∷ input_load x input i.answer) (sym i.listed)
      (i.loads.asked ∙ ap (λ (xs : List Asked). xs ++ Load' input i.answer ∷ []) loads.asked
      ∙ append_assoc old.asked (Load' program (Ok bytes) ∷ []) (Load' input i.answer ∷ [])));
  value = inl (i.gives ∙ ap (λ (x : Result (List Symbol) Refusal). try_with t bytes x i.answer) (sym i.listed));
}

tries_both : (t : TrySetup) (program input bytes : List ℕ) (old mid new : Shelved) (r : Result Task Refusal)
    → Loads old mid program (limit_of which.Program) (Ok bytes) → TriesProgram t bytes input mid new r → TriesFiles t program input old new r
tries_both t program input bytes old mid new r loads (inl given) = tries_given t program input bytes old mid new r loads given
tries_both t program input bytes old mid new r loads (inr stops) = tries_refused t program input bytes old mid new r loads stops

pub tries_loaded : (t : TrySetup) (program input bytes : List ℕ) (old mid new : Shelved) (name' : List ℕ) (limit : ℕ) (r : Result Task Refusal)
    → name' ≡ program → limit ≡ limit_of which.Program → Loads old mid name' limit (Ok bytes)
    → TriesProgram t bytes input mid new r → TriesFiles t program input old new r
tries_loaded t program input bytes old mid new name' limit r same within loads tries =
    tries_both t program input bytes old mid new r (loads_at old mid name' program limit (limit_of which.Program) (Ok bytes) same within loads) tries

-- why a program is refused

pub unlisted_elf : (program : List ℕ) (refusal : Refusal) → IsUnaccepted program refusal → IsUnlisted program refusal
unlisted_elf program refusal (inl b) = inl (ap (λ (o : Option (ElfFault × ℕ)). listed_or program o) b.first ∙ ap Err (sym b.names))
unlisted_elf program refusal (inr memory) = inr memory

pub unlisted_symbols : (program : List ℕ) (refusal : Refusal) → first_fault program ≡ None → BreaksSymbols program refusal → IsUnlisted program refusal
unlisted_symbols program refusal accepted b =
    inl (ap (λ (o : Option (ElfFault × ℕ)). listed_or program o) accepted
    ∙ ap (λ (o : Option (SymFault × ℕ)). symbols_or program o) b.first ∙ ap Err (sym b.names))

-- what the put of trials comes to

tried_told : (t : TryTask) (hart : ℕ) (fault : FaultAt) (trials : List Trial) (result : Outcome) (old new : End)
    → AreTrials t.subject t.listing (word_of t.returns) hart fault trials
    → PutsTries t.listing (tries.Faulted hart fault trials) result old new → IsTryTold t result old new
tried_told t hart fault trials result old new are (inl put) =
    subst (λ (o : Outcome). IsTryTold t o old new) (sym put.0)
    (record { hart = hart; fault = fault; trials = trials; are = are; count = refl; put = put.1 })
tried_told t hart fault trials result old new are (inr (inl lost)) = subst (λ (o : Outcome). IsTryTold t o old new) (sym lost.0) lost.1
tried_told t hart fault trials result old new are (inr (inr wants)) = subst (λ (o : Outcome). IsTryTold t o old new) (sym wants.0) wants.1

ended_told : (t : TryTask) (x : Ending) (result : Outcome) (old new : End) → EndsWithoutFault t.subject x
    → PutsTries t.listing (tries.Ended x) result old new → IsTryTold t result old new
ended_told t x result old new ends (inl put) =
    subst (λ (o : Outcome). IsTryTold t o old new) (sym put.0) (record { ends = ends; put = put.1 })
ended_told t x result old new ends (inr (inl lost)) = subst (λ (o : Outcome). IsTryTold t o old new) (sym lost.0) lost.1
ended_told t x result old new ends (inr (inr wants)) = subst (λ (o : Outcome). IsTryTold t o old new) (sym wants.0) wants.1

pub tries_told : (t : TryTask) (came : Tries) (result : Outcome) (old new : End) → AreTries t.subject t.listing (word_of t.returns) came
    → PutsTries t.listing came result old new → IsTryTold t result old new
tries_told t (tries.Faulted hart fault trials) result old new are puts = tried_told t hart fault trials result old new are puts
tries_told t (tries.Ended x) result old new ends puts = ended_told t x result old new ends puts
