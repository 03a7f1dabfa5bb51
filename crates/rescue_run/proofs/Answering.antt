-- What is answered, by what was prepared and how a run came to its end.
use Rattle.std.proofs.Common.{◌≡◌, inl, inr, ℕ, Bool, List, length, Option, Some, None, Result, Ok, Err, refl, ap, sym, ◌∙◌, subst}
use Rattle.edge_ports.specs.Asked.{Asked}
use Rattle.edge_ports.specs.DevicesMatch.{DevicesMatch}
use Rattle.edge_ports.specs.End.{End}
use Rattle.edge_ports.specs.Seen.{Seen}
use Rattle.edge_ports.specs.Shelves.{Shelved}
use Rattle.guest_words.specs.declared.ending.Ending.{Ending}
use Rattle.guest_words.specs.declared.point.Point.{Point}
use Rattle.rescue_report.specs.Report.{report_of}
use Rattle.run_history.specs.Counts.{records_of_all}
use Rattle.run_history.specs.declared.entry.Entry.{Entry}
use Rattle.rescue_run.specs.declared.start.Start.{Start}
use Rattle.rescue_run.specs.declared.task.LoadTask.{LoadTask}
use Rattle.rescue_run.specs.declared.task.Task.{Task}
use Rattle.rescue_run.specs.declared.task.Task.TheVariants as task
use Rattle.rescue_run.specs.declared.refusal.Refusal.{Refusal}
use Rattle.rescue_run.specs.declared.outcome.Outcome.{Outcome}
use Rattle.rescue_run.specs.declared.outcome.Outcome.TheVariants.{Memory}
use Rattle.history_file.specs.declared.head.Head.{Head}
use Rattle.history_file.specs.HistoryBytes.{history_bytes}
use Rattle.rescue_run.specs.Audits.{IsAuditTold}
use Rattle.rescue_run.specs.Tries.{IsTryTold}
use Rattle.rescue_run.specs.Headline.{saved_bytes, AreDevices, ComesTo, Headline, IsLoadRun, IsRefused, IsRunOn, IsStill, ReportsRunOf, Told}
use Rattle.rescue_run.specs.Hints.{refusal_text}
use Rattle.rescue_run.specs.Lines.{line_of}
use Rattle.rescue_run.specs.Load.{load_summary, IsLoadTo, RunsLoad}
use Rattle.rescue_run.specs.Prepares.{Prepares}
use Rattle.rescue_run.specs.Puts.{IsSaid, IsTold, PutsList, PutsText, Reports}
use Rattle.rescue_run.specs.Reads.{Follows, IsAskedFor, IsOrMemory}
use Rattle.rescue_run.specs.Saves.{SavesBehind, Sides}
use Rattle.rescue_run.specs.Top.{sides}
use Rattle.rescue_run.specs.Runs.{head_of, outcome_of, start_of_run, IsRunTo, Runs}
use Rattle.rescue_run.specs.Statuses.{status_of}
use Rattle.rescue_run.specs.Words.{loads_for, task_for}
use Rattle.rescue_run.proofs.Loads.{load_told}
use Rattle.rescue_run.proofs.Saving.{saved_of}
use Rattle.rescue_run.specs.Refusals.{wanting}

-- what is told where no machine was started
abbrev still_told : Outcome → Seen → Told
still_told outcome devices = record { status = status_of outcome; outcome = outcome; history = None; points = None; devices = devices }

-- and of a run
abbrev history_told : Outcome → List Entry → List Point → Seen → Told
history_told outcome entries points devices =
    record { status = status_of outcome; outcome = outcome; history = Some entries; points = Some points; devices = devices }

-- want of memory is an answer to each command

said_memory : (outcome : Outcome) → IsSaid Memory outcome → outcome ≡ Memory
said_memory outcome (inl is) = is
said_memory outcome (inr is) = is

memory_reports : (text : List Entry → List Point → Ending → List ℕ) (handed : Seen) (s : Sides) (told : Told) → IsStill handed s told
    → IsTold (line_of told.outcome) s.sink s.sink' → Reports text told.history told.points told.outcome s.sink s.sink'
memory_reports text handed s told still line =
    subst (λ h. Reports text h told.points told.outcome s.sink s.sink') (sym still.history) line

memory_run : (start : Start) (handed : Seen) (s : Sides) (told : Told) → told.outcome ≡ Memory
    → IsTold (line_of told.outcome) s.sink s.sink' → IsStill handed s told → IsRunOn start handed s told
memory_run start handed s told is line still =
    let from = start_of_run start (length handed.ports) in
    let schedule = start.setup.schedule in record {
      runs = subst (λ h. Runs from schedule h told.points told.outcome) (sym still.history)
          (subst (λ p. Runs from schedule None p told.outcome) (sym still.points) is);
      devices = subst (λ h. AreDevices handed h told.devices) (sym still.history) still.devices;
      reports = subst (λ h. ReportsRunOf start (length handed.ports) h told.points told.outcome s) (sym still.history) (line, still.shelf);
    }

memory_load : (load : LoadTask) (handed : Seen) (s : Sides) (told : Told) → told.outcome ≡ Memory
    → IsTold (line_of told.outcome) s.sink s.sink' → IsStill handed s told → IsLoadRun load handed s told
memory_load load handed s told is line still = record {
  runs = subst (λ h. RunsLoad load h told.points told.outcome) (sym still.history)
      (subst (λ p. RunsLoad load None p told.outcome) (sym still.points) is);
  summary = memory_reports (load_summary load) handed s told still line;
  devices = still.devices;
  shelf = still.shelf;
}

memory_comes : (words : List (List ℕ)) (r : Result Task Refusal) (handed : Seen) (s : Sides) (told : Told) → told.outcome ≡ Memory
    → IsTold (line_of told.outcome) s.sink s.sink' → IsStill handed s told → ComesTo words r handed s told
memory_comes words (Err refusal) handed s told is line still = record {
  outcome = inr is;
  text = subst (λ o. IsTold (refusal_text words refusal.lines o) s.sink s.sink') (sym is)
      (subst (λ o. IsTold (line_of o) s.sink s.sink') is line);
  still = still;
}
memory_comes words (Ok (task.Run start)) handed s told is line still = memory_run start handed s told is line still
memory_comes words (Ok (task.List symbols)) handed s told is line still = record {
  lists = subst (λ o. PutsList symbols o s.sink s.sink') (sym is)
      (subst (λ o. IsTold (line_of o) s.sink s.sink') is line);
  still = still;
}
memory_comes words (Ok (task.Load load)) handed s told is line still = memory_load load handed s told is line still
memory_comes words (Ok (task.Audit audit)) handed s told is line still = record {
  says = subst (λ o. IsAuditTold audit o s.sink s.sink') (sym is)
      (subst (λ o. IsTold (line_of o) s.sink s.sink') is line);
  still = still;
}
memory_comes words (Ok (task.Try t)) handed s told is line still = record {
  says = subst (λ o. IsTryTold t o s.sink s.sink') (sym is)
      (subst (λ o. IsTold (line_of o) s.sink s.sink') is line);
  still = still;
}

-- the machine of a run, or of a load, wasn't started
pub wanting_run : (start : Start) (handed devices : Seen) (shelf : Shelved) (sink sink' : End) → devices ≡ handed
    → IsTold (line_of Memory) sink sink' → IsRunOn start handed (sides shelf shelf sink sink') (still_told Memory devices)
wanting_run start handed devices shelf sink sink' same line =
    memory_run start handed (sides shelf shelf sink sink') (still_told Memory devices) refl line
    (record { history = refl; points = refl; devices = same; shelf = refl })

pub wanting_load : (load : LoadTask) (handed : Seen) (shelf : Shelved) (sink sink' : End) → IsTold (line_of Memory) sink sink'
    → IsLoadRun load handed (sides shelf shelf sink sink') (still_told Memory handed)
wanting_load load handed shelf sink sink' line =
    memory_load load handed (sides shelf shelf sink sink') (still_told Memory handed) refl line
    (record { history = refl; points = refl; devices = refl; shelf = refl })

-- a machine was started

-- behind a run, by a head that is that of its start
abbrev pub IsBehind : Option (List ℕ) → List ℕ → (Ending → List ℕ) → Option Ending → Outcome → Shelved → Shelved → End → End → Type 0
IsBehind save bytes text ending outcome shelf shelf' sink sink' =
    (middle : Outcome) × ((between : End)
    × (PutsText text ending middle sink between × SavesBehind save bytes middle outcome (sides shelf shelf' between sink')))

pub run_told : (start : Start) (handed : Seen) (count : ℕ) (head : Head) (shelf shelf' : Shelved) (sink sink' : End) (entries : List Entry) (points : List Point)
    (ending : Option Ending) (outcome : Outcome) (devices : Seen) → count ≡ length handed.ports → head ≡ head_of start count
    → IsRunTo (start_of_run start count) start.setup.schedule entries points (outcome_of ending)
    → DevicesMatch handed devices 0 (records_of_all entries)
    → IsBehind start.save (history_bytes head entries) (report_of entries points) ending outcome shelf shelf' sink sink'
    → IsRunOn start handed (sides shelf shelf' sink sink') (history_told outcome entries points devices)
run_told start handed count head shelf shelf' sink sink' entries points ending outcome devices same is run matches behind =
    let run' : IsRunTo (start_of_run start (length handed.ports)) start.setup.schedule entries points (outcome_of ending) =
    subst (λ n. IsRunTo (start_of_run start n) start.setup.schedule entries points (outcome_of ending)) same run in
    let bytes = saved_bytes start (length handed.ports) entries in
    let named : history_bytes head entries ≡ bytes = ap (λ h. history_bytes h entries) is ∙ ap (λ n. history_bytes (head_of start n) entries) same in
    let saves = subst (λ b. SavesBehind start.save b behind.0 outcome (sides shelf shelf' behind.1.0 sink')) named behind.1.1.1 in
    let t = saved_of (start_of_run start (length handed.ports)) start.setup.schedule entries points start.save bytes (report_of entries points) ending
    behind.0 outcome shelf shelf' sink behind.1.0 sink' run' behind.1.1.0 saves in record {
      runs = t.0;
      devices = matches;
      reports = t.1;
    }

pub load_run_told : (load : LoadTask) (handed : Seen) (shelf : Shelved) (sink sink' : End) (entries : List Entry) (points : List Point) (ending : Option Ending)
    (outcome : Outcome) → IsLoadTo load entries points (outcome_of ending) → PutsText (load_summary load entries points) ending outcome sink sink'
    → IsLoadRun load handed (sides shelf shelf sink sink') (history_told outcome entries points handed)
load_run_told load handed shelf sink sink' entries points ending outcome run puts =
    let t = load_told load entries points ending outcome sink sink' run puts in record {
      runs = t.0;
      summary = t.1;
      devices = refl;
      shelf = refl;
    }

-- what was prepared is what the words ask for, or want of memory

refused_memory : (words : List (List ℕ)) (prepared : Result Task Refusal) (handed : Seen) (s : Sides) (told : Told) → prepared ≡ Err wanting
    → ComesTo words prepared handed s told → IsRefused words wanting handed s told
refused_memory words prepared handed s told is comes = subst (λ r. ComesTo words r handed s told) is comes

comes_for : (words : List (List ℕ)) (r prepared : Result Task Refusal) (handed : Seen) (s : Sides) (told : Told) → IsOrMemory prepared r
    → ComesTo words prepared handed s told → ComesTo words r handed s told
comes_for words r prepared handed s told (inl is) comes = subst (λ x. ComesTo words x handed s told) is comes
comes_for words r prepared handed s told (inr is) comes =
    let refused = refused_memory words prepared handed s told is comes in
    let memory = said_memory told.outcome refused.outcome in
    memory_comes words r handed s told memory (subst (λ o. IsTold (line_of o) s.sink s.sink') (sym memory)
    (subst (λ o. IsTold (refusal_text words None o) s.sink s.sink') memory refused.text)) refused.still

asked_for : (words : List (List ℕ)) (prepared : Result Task Refusal) (handed : Seen) (s : Sides) (told : Told) (old new loads : List Asked)
    → IsAskedFor (prepared ≡ Err wanting) old new loads → ComesTo words prepared handed s told → IsAskedFor (told.outcome ≡ Memory) old new loads
asked_for words prepared handed s told old new loads (inl is) comes = inl is
asked_for words prepared handed s told old new loads (inr wants) comes =
    inr (said_memory told.outcome (refused_memory words prepared handed s told wants.0 comes).outcome, wants.1)

pub headline_of : (threads : Bool) (words : List (List ℕ)) (old between new : Shelved) (before handed : Seen) (sink sink' : End) (ports : ℕ)
    (prepared : Result Task Refusal) (told : Told) → before ≡ handed → ports ≡ length before.ports
    → Prepares threads words ports old between prepared → Follows old between → told.status ≡ status_of told.outcome
    → ComesTo words prepared before (sides between new sink sink') told → Headline threads words old new handed sink sink' told
headline_of threads words old between new before handed sink sink' ports prepared told same count prepares follows status comes =
    let p : Prepares threads words (length before.ports) old between prepared =
    subst (λ n. Prepares threads words n old between prepared) count prepares in
    let s : Sides = sides between new sink sink' in
    subst (λ d. Headline threads words old new d sink sink' told) same
    (record {
      answers = p.answers;
      between = between;
      answered = p.answered;
      asked = asked_for words prepared before s told old.asked between.asked (loads_for threads words (length before.ports) p.answers) p.asked comes;
      follows = follows;
      comes = comes_for words (task_for threads words (length before.ports) p.answers) prepared before s told p.value comes;
      status = status;
    })
