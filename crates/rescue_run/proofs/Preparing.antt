-- What is prepared for words, by what their reading, the number of the ports and the files give.
use Rattle.std.proofs.Common.{◌≡◌, inl, inr, ℕ, Bool, true, false, if◌then◌else◌, ◌==◌, List, [], ◌∷◌, ◌++◌, Option, Some, None, Result, Ok, Err, refl, ap, sym, ◌∙◌, subst, IsTrue, ◌↔◌, is_some, slice_get, codes}
use Rattle.std.specs.Prelude.{ℤ, unwrap_or, IfOk}
use Rattle.std.specs.Str.{bytes_eq}
use Rattle.std.proofs.lemmas.Bool.{both_ways}
use Rattle.std.proofs.lemmas.Slice.Eq.{bytes_eq-Decides}
use Rattle.std.specs.Result.{result_err, result_map_both}
use Rattle.std.proofs.lemmas.List.{append-nil}
use Rattle.edge_ports.specs.Asked.{Asked}
use Rattle.edge_ports.specs.declared.shelf.ShelfFault.TheVariants as shelf
use Rattle.elf_symbols.specs.declared.symbol.Symbol.{Symbol}
use Rattle.edge_ports.specs.Shelves.{Shelved}
use Rattle.program_words.specs.Kinds.{is_help, kind_named}
use Rattle.program_words.specs.Ports.{first_bad_port}
use Rattle.program_words.specs.Words.{command_in, command_of, first_word_fault, is_taken, port_words, reading_of, reading_of_kind, rows_in, unless_bad_port}
use Rattle.program_words.specs.declared.command.Command.{Command}
use Rattle.program_words.specs.declared.command.Command.TheVariants as command
use Rattle.program_words.specs.declared.command_kind.CommandKind.{CommandKind}
use Rattle.program_words.specs.declared.command_kind.CommandKind.TheVariants as kind
use Rattle.program_words.specs.declared.port_name.PortName.{PortName}
use Rattle.program_words.specs.declared.words_fault.WordsFault.{WordsFault}
use Rattle.program_words.specs.declared.words_fault.WordsFault.TheVariants as words_fault
use Rattle.rescue_run.specs.Outcomes.{of_words_fault}
use Rattle.program_words.specs.declared.word_fault.WordFault.{WordFault}
use Rattle.program_words.specs.declared.word_fault.WordFault.TheVariants.{Line, Threads}
use Rattle.rescue_run.specs.declared.files.Files.{Files}
use Rattle.rescue_run.specs.declared.setup.Setup.{Setup}
use Rattle.rescue_run.specs.declared.start.Loaded.{Loaded}
use Rattle.rescue_run.specs.declared.task.Task.{Task}
use Rattle.rescue_run.specs.declared.task.Task.TheVariants as task
use Rattle.rescue_run.specs.declared.refusal.Refusal.{Refusal}
use Rattle.rescue_run.specs.declared.outcome.Outcome.TheVariants.{PortCount, Words}
use Rattle.rescue_run.specs.declared.outcome.Which.TheVariants as which
use Rattle.rescue_run.specs.Loading.{Answers}
use Rattle.rescue_run.specs.Prepares.{AreAnswersFor, AuditsFiles, ListsFile, Prepares, PreparesCommand, PreparesCounted, StartsFiles}
use Rattle.rescue_run.specs.Reads.{AreAnswers, IsAskedFor, IsOrMemory}
use Rattle.rescue_run.specs.ReadsFiles.{ReadsFiles, ReadsSymbols}
use Rattle.rescue_run.specs.Tasks.{runs_threads, CanStart}
use Rattle.rescue_run.specs.Trying.{TriesFiles}
use Rattle.rescue_run.specs.Words.{files_of, lacks_threads, loads_by, loads_for, loads_read, needs_threads, ports_named, run_with, task_by, task_read, list_with}
use Rattle.rescue_run.proofs.Shelving.{answer_among, follows_same, none_answered, no_answers, take_none, two_answers}
use Rattle.rescue_run.specs.Refusals.{plain, wanting}

-- an answer that a function takes over

asked_on : {A B : Type 0} (old new loads : List Asked) → (A → B) → IsAskedFor A old new loads → IsAskedFor B old new loads
asked_on old new loads f (inl is) = inl is
asked_on old new loads f (inr wants) = inr (f wants.0, wants.1)

value_on : {A B : Type 0} (f : Result A Refusal → Result B Refusal) (r value : Result A Refusal) → f (Err wanting) ≡ Err wanting → IsOrMemory r value → IsOrMemory (f r) (f value)
value_on f r value keeps (inl is) = inl (ap f is)
value_on f r value keeps (inr memory) = inr (ap f memory ∙ keeps)

pub starts_files : (f : Files) (setup : Setup) (save : Option (List ℕ)) (old new : Shelved) (r : Result Loaded Refusal) → ReadsFiles f old new r
    → StartsFiles f setup save old new (run_with setup save r)
starts_files f setup save old new r reads = record {
  answers = reads.answers;
  answered = reads.answered;
  asked = asked_on old.asked new.asked _ (λ memory. ap (run_with setup save) memory) reads.asked;
  value = value_on (run_with setup save) r _ refl reads.value;
}

-- the list of the symbols of a program

pub lists_file : (name : List ℕ) (old new : Shelved) (r : Result (List Symbol) Refusal) → ReadsSymbols name old new r
    → ListsFile name old new (list_with r)
lists_file name old new r reads = record {
  answer = reads.answer;
  loads = reads.loads;
  value = value_on list_with r _ refl reads.value;
}

pub prepares_list : (name : List ℕ) (old new : Shelved) (r : Result Task Refusal) → ListsFile name old new r
    → PreparesCommand (command.List name) old new r
prepares_list name old new r lists = record {
  answers = two_answers lists.answer (Err shelf.Memory);
  answered = (answer_among which.Program name old old new new lists.answer (follows_same old) lists.loads (follows_same new), tt);
  asked = inl lists.loads.asked;
  value = lists.value;
}

-- words that want threads, and words that are no command

nothing_asked : (old : List Asked) → old ≡ old ++ []
nothing_asked old = sym (append-nil old)

no_words_answered : (words : List (List ℕ)) (s : Shelved) → AreAnswersFor words s s no_answers
no_words_answered words s c is = none_answered s s (files_of c)

pub prepares_threads : (threads : Bool) (words : List (List ℕ)) (handed : ℕ) (s : Shelved) → lacks_threads threads words ≡ true
    → Prepares threads words handed s s (Err (plain (Words Threads)))
prepares_threads threads words handed s lacks = record {
  answers = no_answers;
  answered = no_words_answered words s;
  asked = inl (subst (λ b. s.asked ≡ s.asked ++ (if b then [] else loads_read (command_of words) handed no_answers)) (sym lacks) (nothing_asked s.asked));
  value = inl (subst (λ b. Err (plain (Words Threads)) ≡ (if b then Err (plain (Words Threads)) else task_read (command_of words) handed no_answers)) (sym lacks) refl);
}

-- the words are read
prepares_read : (threads : Bool) (words : List (List ℕ)) (handed : ℕ) (old new : Shelved) (result : Result Task Refusal) (answers : Answers)
    (reading : Result Command WordFault) → lacks_threads threads words ≡ false → command_of words ≡ reading → AreAnswersFor words old new answers
    → IsAskedFor (result ≡ Err wanting) old.asked new.asked (loads_read reading handed answers)
    → IsOrMemory result (task_read reading handed answers) → Prepares threads words handed old new result
prepares_read threads words handed old new result answers reading has is answered asked value = record {
  answers = answers;
  answered = answered;
  asked = subst (λ b. IsAskedFor (result ≡ Err wanting) old.asked new.asked (if b then [] else loads_read (command_of words) handed answers)) (sym has)
      (subst (λ r. IsAskedFor (result ≡ Err wanting) old.asked new.asked (loads_read r handed answers)) (sym is) asked);
  value = subst (λ b. IsOrMemory result (if b then Err (plain (Words Threads)) else task_read (command_of words) handed answers)) (sym has)
      (subst (λ r. IsOrMemory result (task_read r handed answers)) (sym is) value);
}

refused_reading : {A B : Type 0} (r : Result A WordFault) (f : A → B) (fault : WordFault) → result_err r ≡ Some fault
    → result_map_both f (λ x. x) r ≡ Err fault
refused_reading (Ok x) f fault is = absurd (both_ways false refl (ap is_some is))
refused_reading (Err x) f fault is = ap (λ o. Err (unwrap_or o x)) is

pub refused_command : (words : List (List ℕ)) (fault : WordFault) → first_word_fault words ≡ Some fault → command_of words ≡ Err fault
refused_command words fault is = refused_reading (reading_of words) _ fault is

pub prepares_refused : (threads : Bool) (words : List (List ℕ)) (handed : ℕ) (s : Shelved) (fault : WordFault) → lacks_threads threads words ≡ false
    → first_word_fault words ≡ Some fault → Prepares threads words handed s s (Err (plain (Words fault)))
prepares_refused threads words handed s fault has is =
    prepares_read threads words handed s s (Err (plain (Words fault))) no_answers (Err fault) has (refused_command words fault is)
    (no_words_answered words s) (inl (nothing_asked s.asked)) (inl refl)

-- memory was wanting for the reading
pub prepares_none : (threads : Bool) (words : List (List ℕ)) (handed : ℕ) (s : Shelved) → Prepares threads words handed s s (Err wanting)
prepares_none threads words handed s = record {
  answers = no_answers;
  answered = no_words_answered words s;
  asked = inr (refl, (0, nothing_asked s.asked ∙ ap (λ (xs : List Asked). s.asked ++ xs) (sym (take_none (loads_for threads words handed no_answers)))));
  value = inr refl;
}

abbrev CommandErr : WordsFault → WordsFault → Type 0
CommandErr fault other = ◌≡◌ {A = Result Command WordsFault} (Err fault) (Err other)

-- the words give no command
pub prepares_fault : (threads : Bool) (words : List (List ℕ)) (handed : ℕ) (s : Shelved) (fault : WordsFault) (refusal : Refusal)
    → refusal ≡ of_words_fault fault → lacks_threads threads words ≡ false
    → ((f : WordFault) → CommandErr fault (words_fault.Words f) → first_word_fault words ≡ Some f)
    → Prepares threads words handed s s (Err refusal)
prepares_fault threads words handed s (words_fault.Words f) refusal is has cause =
    subst (λ o. Prepares threads words handed s s (Err o)) (sym is) (prepares_refused threads words handed s f has (cause f refl))
prepares_fault threads words handed s words_fault.Memory refusal is has cause =
    subst (λ o. Prepares threads words handed s s (Err o)) (sym is) (prepares_none threads words handed s)

-- the command runs on threads just where its first word says so
same_tests : (a b : Bool) → (a ≡ true → b ≡ true) → (b ≡ true → a ≡ true) → a ≡ b
same_tests true true f g = refl
same_tests true false f g = sym (f refl)
same_tests false true f g = g refl
same_tests false false f g = refl

pub needs_by : (words : List (List ℕ)) (b : Bool) → (IsTrue b ↔ (slice_get words 0 ≡ Some (codes "run"))) → b ≡ needs_threads words
needs_by [] true iff = absurd (both_ways false refl (ap is_some (iff.0 refl)))
needs_by [] false iff = refl
needs_by (first ∷ rest) b iff =
    same_tests b (bytes_eq first (codes "run"))
    (λ y. (bytes_eq-Decides first (codes "run")).1 (ap (λ o. unwrap_or o first) (iff.0 y)))
    (λ y. iff.1 (ap Some ((bytes_eq-Decides first (codes "run")).0 y)))

-- a load, which brings its own files
pub prepares_load : (number : ℕ) (s : Shelved) (r : Result Task Refusal) → IsOrMemory r (task_by (command.Load number) no_answers)
    → PreparesCommand (command.Load number) s s r
prepares_load number s r value = record {
  answers = no_answers;
  answered = tt;
  asked = inl (nothing_asked s.asked);
  value = value;
}

-- an audit
pub prepares_audit : (points : Option (List ℕ)) (history program input out err : List ℕ) (ports : List PortName) (old new : Shelved) (r : Result Task Refusal)
    → AuditsFiles (record { program = program; points = points })
    (record { history = history; input = input; out = out; err = err; ports = ports }) old new r
    → PreparesCommand (command.Audit points history program input out err ports) old new r
prepares_audit points history program input out err ports old new r a = record {
  answers = a.answers;
  answered = a.answered;
  asked = a.asked;
  value = a.value;
}

-- trials
pub prepares_try : (harts budget seed : ℕ) (returns : ℤ) (program input : List ℕ) (old new : Shelved) (r : Result Task Refusal)
    → TriesFiles (record { harts = harts; budget = budget; seed = seed; returns = returns }) program input old new r
    → PreparesCommand (command.Try harts budget seed returns program input) old new r
prepares_try harts budget seed returns program input old new r t = record {
  answers = t.answers;
  answered = t.answered;
  asked = t.asked;
  value = t.value;
}

-- a command for which no file is asked, and which is refused
pub prepares_unknown : (c : Command) (s : Shelved) (refusal : Refusal) → task_by c no_answers ≡ Err refusal → loads_by c no_answers ≡ []
    → PreparesCommand c s s (Err refusal)
prepares_unknown c s refusal refused none = record {
  answers = no_answers;
  answered = none_answered s s (files_of c);
  asked = inl (nothing_asked s.asked ∙ ap (λ (xs : List Asked). s.asked ++ xs) (sym none));
  value = inl (sym refused);
}

-- another number of ports is handed in than is named
pub counted_other : (c : Command) (handed : ℕ) (s : Shelved) (named : ℕ) → named ≡ ports_named c → (named == handed) ≡ false
    → PreparesCounted c handed s s (Err (plain (PortCount named handed)))
counted_other c handed s named is other =
    let apart : (ports_named c == handed) ≡ false = subst (λ n. (n == handed) ≡ false) is other in record {
      answers = no_answers;
      answered = none_answered s s (files_of c);
      asked = inl (subst (λ b. s.asked ≡ s.asked ++ (if b then loads_by c no_answers else [])) (sym apart) (nothing_asked s.asked));
      value = inl (subst (λ b. Err (plain (PortCount named handed)) ≡ (if b then task_by c no_answers else Err (plain (PortCount (ports_named c) handed)))) (sym apart)
          (ap (λ n. Err (plain (PortCount n handed))) is));
    }

pub counted_same : (c : Command) (handed : ℕ) (old new : Shelved) (result : Result Task Refusal) (named : ℕ) → named ≡ ports_named c
    → (named == handed) ≡ true → PreparesCommand c old new result → PreparesCounted c handed old new result
counted_same c handed old new result named is equal p =
    let same : (ports_named c == handed) ≡ true = subst (λ n. (n == handed) ≡ true) is equal in record {
      answers = p.answers;
      answered = p.answered;
      asked = subst (λ b. IsAskedFor (result ≡ Err wanting) old.asked new.asked (if b then loads_by c p.answers else [])) (sym same) p.asked;
      value = subst (λ b. IsOrMemory result (if b then task_by c p.answers else Err (plain (PortCount (ports_named c) handed)))) (sym same) p.value;
    }

same_command : (r : Result Command WordFault) (c d : Command) → r ≡ Ok c → r ≡ Ok d → c ≡ d
same_command r c d p q = search (p, q)

-- the command is prepared
pub prepares_command : (threads : Bool) (words : List (List ℕ)) (handed : ℕ) (old new : Shelved) (result : Result Task Refusal) (c : Command)
    → lacks_threads threads words ≡ false → command_of words ≡ Ok c → PreparesCounted c handed old new result
    → Prepares threads words handed old new result
prepares_command threads words handed old new result c has is p =
    prepares_read threads words handed old new result p.answers (Ok c) has is
    (λ d reads. subst (λ k. AreAnswers old new (files_of k) p.answers) (same_command (command_of words) c d is reads) p.answered)
    p.asked p.value

-- a command that is read runs on threads only where its first word says so

run_named : (a b c d e f g h : Bool)
    → (if a then Some kind.Run else if b then Some kind.Alone else if c then Some kind.List else if d then Some kind.Load
    else if e then Some kind.Audit else if f then Some kind.Try else if g then Some kind.Help else if h then Some kind.Version else None) ≡ Some kind.Run
    → a ≡ true
run_named true b c d e f g h is = refl
run_named false true c d e f g h is = cc
run_named false false true d e f g h is = cc
run_named false false false true e f g h is = cc
run_named false false false false true f g h is = cc
run_named false false false false false true g h is = cc
run_named false false false false false false true h is = cc
run_named false false false false false false false true is = cc
run_named false false false false false false false false is = cc

run_rows : (k : CommandKind) (rest : List (List ℕ)) → IsTrue (runs_threads (command_in k (rows_in k rest))) → k ≡ kind.Run
run_rows kind.Run rest threads = refl
run_rows kind.Alone rest threads = cc
run_rows kind.List rest threads = cc
run_rows kind.Load rest threads = cc
run_rows kind.Audit rest threads = cc
run_rows kind.Try rest threads = cc
run_rows kind.Help rest threads = cc
run_rows kind.Version rest threads = cc

taken_rows : {R : Type 0} (k : CommandKind) (rows : R) (bad : Option ℕ) (taken : Bool) (f : CommandKind × R → Command) (c : Command)
    → result_map_both f (λ x. x) (if taken then unless_bad_port (k, rows) bad else Err Line) ≡ Ok c → f (k, rows) ≡ c
taken_rows k rows None true f c is = cc
taken_rows k rows (Some index) true f c is = cc
taken_rows k rows bad false f c is = cc

run_kind : (o : Option CommandKind) (rest : List (List ℕ)) (c : Command)
    → result_map_both (λ r. command_in r.0 r.1) (λ fault. fault) (reading_of_kind o rest) ≡ Ok c → IsTrue (runs_threads c) → o ≡ Some kind.Run
run_kind None rest c is threads = cc
run_kind (Some k) rest c is threads =
    let rows = rows_in k rest in
    let same : command_in k rows ≡ c =
    taken_rows k rows (first_bad_port (port_words rows)) (is_taken k rest) (λ r. command_in r.0 r.1) c is in
    ap Some (run_rows k rest (subst (λ x. IsTrue (runs_threads x)) (sym same) threads))

run_read : (words : List (List ℕ)) (c : Command) → command_of words ≡ Ok c → IsTrue (runs_threads c) → IsTrue (needs_threads words)
run_read [] c is threads = cc
run_read (first ∷ rest) c is threads =
    run_named (bytes_eq first (codes "run")) (bytes_eq first (codes "alone")) (bytes_eq first (codes "list")) (bytes_eq first (codes "load"))
    (bytes_eq first (codes "audit")) (bytes_eq first (codes "try")) (is_help first) (bytes_eq first (codes "--version"))
    (run_kind (kind_named first) rest c is threads)

has_threads : (threads : Bool) (words : List (List ℕ)) → lacks_threads threads words ≡ false → IsTrue (needs_threads words) → IsTrue threads
has_threads true words has needs = refl
has_threads false words has needs = sym has ∙ needs

start_on : (a b : Bool) (t : Task) → (IsTrue a → IsTrue b) → CanStart a t → CanStart b t
start_on a b (task.Run start) on can = record { loads = can.loads; within = can.within; order = λ is. on (can.order is) }
start_on a b (task.List symbols) on can = tt
start_on a b (task.Load load) on can = can
start_on a b (task.Audit audit) on can = can
start_on a b (task.Try t) on can = can

pub can_start : (threads : Bool) (words : List (List ℕ)) (c : Command) (r : Result Task Refusal) → lacks_threads threads words ≡ false
    → command_of words ≡ Ok c → IfOk r (CanStart (runs_threads c)) → IfOk r (CanStart threads)
can_start threads words c (Ok t) has is can =
    start_on (runs_threads c) threads t (λ run. has_threads threads words has (run_read words c is run)) can
can_start threads words c (Err refusal) has is can = tt
