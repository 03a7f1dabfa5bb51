-- What trials promise: each is the run that its point, the seed and the input make.
use Rattle.std.specs.Prelude.{◌≡◌, ℕ, Bool, true, false, List, [], ◌∷◌, None, replicate}
use Rattle.std.specs.List.{AllZip}
use Rattle.guest_words.specs.declared.ending.Ending.{Ending}
use Rattle.guest_words.specs.declared.ending.Ending.TheVariants as ending
use Rattle.guest_words.specs.declared.fault.Fault.{Fault as FaultAt}
use Rattle.guest_words.specs.declared.point.Kind.TheVariants.{Blocking}
use Rattle.guest_words.specs.declared.point.Point.{Point}
use Rattle.guest_words.specs.declared.point.Ret.TheVariants.{Code}
use Rattle.edge_ports.specs.DevicesMatch.{DevicesMatch}
use Rattle.edge_ports.specs.Seen.{Seen}
use Rattle.elf_symbols.specs.declared.symbol.Symbol.{Symbol}
use Rattle.lone_schedule.specs.Lone.{IsLoneRun}
use Rattle.rescue_report.specs.Rescues.{rescues_of_all}
use Rattle.rescue_trial.specs.declared.trial.Trial.{Trial}
use Rattle.rescue_trial.specs.Path.{call_path_of}
use Rattle.run_history.specs.declared.entry.Entry.{Entry}
use Rattle.run_history.specs.Counts.{records_of_all}
use Rattle.run_history.specs.Run.{EndsOnce, IsRun}
use Rattle.trial_runs.specs.declared.subject.Subject.{Subject}
use Rattle.trial_runs.specs.declared.tries.Tries.{Tries}
use Rattle.trial_runs.specs.declared.tries.Tries.TheVariants.{Faulted, Ended}
use Rattle.trial_runs.specs.Failures.{has_failed}
use Rattle.trial_runs.specs.Subjects.{devices_with, start_with}

-- a point that is tried: its calls block and return this for each fault, and are rescued any number
-- of times
abbrev pub point_at : ℕ → ℕ → Point
point_at code entry = record {
  entry = entry;
  codes = replicate 8 (Code code);
  kind = Blocking;
  left = None;
}

-- with these points one thread makes this run by the words of the seed, it ends so, and no call on a
-- device failed in it
pub record RunsTo (subject : Subject) (points : List Point) (entries : List Entry) (x : Ending) :
    Type 0 where
  pub run : IsRun (start_with subject points) entries
  pub order : IsLoneRun (start_with subject points) subject.seed entries
  pub ends : EndsOnce entries x
  pub devices : Seen
  pub matches : DevicesMatch (devices_with subject.input) devices 0 (records_of_all entries)
  pub sure : has_failed (records_of_all entries) ≡ false

-- a trial tells the ending and the rescues of the run with this single point
pub record IsTrial (subject : Subject) (code entry : ℕ) (trial : Trial) : Type 0 where
  pub at : trial.entry ≡ entry
  pub entries : List Entry
  pub runs : RunsTo subject (point_at code entry ∷ []) entries trial.ending
  pub rescues : trial.rescues ≡ rescues_of_all entries

-- the run without points ends by this fault, and each function on the call path of the hart that met
-- it was tried, in the order of the path
pub record AreTrials (subject : Subject) (symbols : List Symbol) (code hart : ℕ) (fault : FaultAt)
    (trials : List Trial) : Type 0 where
  pub entries : List Entry
  pub faults : RunsTo subject [] entries (ending.Fault hart fault)
  pub each : AllZip (IsTrial subject code)
      (call_path_of subject.image.loads symbols (start_with subject []) entries hart) trials

abbrev pub is_fault : Ending → Bool
is_fault (ending.Fault hart fault) = true
is_fault _ = false

-- the run without points ends so, and by no fault
pub record EndsWithoutFault (subject : Subject) (x : Ending) : Type 0 where
  pub entries : List Entry
  pub runs : RunsTo subject [] entries x
  pub other : is_fault x ≡ false

-- what trials come to, by how the run without points ends
abbrev pub AreTries : Subject → List Symbol → ℕ → Tries → Type 0
AreTries subject symbols code (Faulted hart fault trials) =
    AreTrials subject symbols code hart fault trials
AreTries subject symbols code (Ended x) = EndsWithoutFault subject x
