-- What trials come to, by the outcome, and what is put.
use Rattle.std.specs.Prelude.{◌≡◌, ℕ, List, length, None}
use Rattle.guest_words.specs.declared.ending.Ending.{Ending}
use Rattle.guest_words.specs.declared.fault.Fault.{Fault as FaultAt}
use Rattle.guest_words.specs.Word.{word_of}
use Rattle.edge_ports.specs.End.{End, Came}
use Rattle.elf_symbols.specs.declared.symbol.Symbol.{Symbol}
use Rattle.rescue_report.specs.Lines.{end_line}
use Rattle.rescue_trial.specs.declared.trial.Trial.{Trial}
use Rattle.rescue_trial.specs.TrialText.{good_of, trial_text_of}
use Rattle.trial_runs.specs.Trials.{AreTrials, EndsWithoutFault}
use Rattle.trial_runs.specs.declared.tries.Tries.{Tries}
use Rattle.trial_runs.specs.declared.tries.Tries.TheVariants as tries
use Rattle.rescue_run.specs.declared.outcome.Outcome.{Outcome}
use Rattle.rescue_run.specs.declared.outcome.Outcome.TheVariants.{Report, Tried, NoFault, Memory}
use Rattle.rescue_run.specs.declared.task.TryTask.{TryTask}
use Rattle.rescue_run.specs.Lines.{line_of}
use Rattle.rescue_run.specs.Puts.{IsLost, IsTold, PutsOwn}

-- without points the run ends by a fault; the text has this fault, the trial of each function on
-- its call path, and those that end with exit code 0, of which there are so many
pub record AreTried (t : TryTask) (good : ℕ) (sink sink' : End) : Type 0 where
  pub hart : ℕ
  pub fault : FaultAt
  pub trials : List Trial
  pub are : AreTrials t.subject t.listing (word_of t.returns) hart fault trials
  pub count : good ≡ length (good_of trials)
  pub put : Came sink.given (trial_text_of fault hart t.listing trials) sink'.given

-- without points the run ends so, and by no fault
pub record MeetsNoFault (t : TryTask) (x : Ending) (sink sink' : End) : Type 0 where
  pub ends : EndsWithoutFault t.subject x
  pub put : Came sink.given (end_line x) sink'.given

-- either; or the put failed, or memory was wanting
abbrev pub IsTryTold : TryTask → Outcome → End → End → Type 0
IsTryTold t (Tried good) sink sink' = AreTried t good sink sink'
IsTryTold t (NoFault x) sink sink' = MeetsNoFault t x sink sink'
IsTryTold t (Report None) sink sink' = IsLost sink sink'
IsTryTold t Memory sink sink' = IsTold (line_of Memory) sink sink'
IsTryTold t _ sink sink' = ⊥

-- what the put of what trials came to comes to
abbrev pub PutsTries : List Symbol → Tries → Outcome → End → End → Type 0
PutsTries symbols (tries.Faulted hart fault trials) result old new =
    PutsOwn (trial_text_of fault hart symbols trials) (Tried (length (good_of trials))) result old
    new
PutsTries symbols (tries.Ended x) result old new =
    PutsOwn (end_line x) (NoFault x) result old new
