-- The run of a load, on devices of its own, and its summary.
use Rattle.std.specs.Prelude.{◌≡◌, ℕ, false, List, Option, Some, None, length}
use Rattle.std.specs.List.{flat_map}
use Rattle.guest_words.specs.declared.ending.Ending.{Ending}
use Rattle.guest_words.specs.declared.point.Point.{Point}
use Rattle.edge_ports.specs.DevicesMatch.{records_at, DevicesMatch}
use Rattle.edge_ports.specs.Records.{given_bytes}
use Rattle.edge_ports.specs.Seen.{Seen}
use Rattle.run_history.specs.declared.entry.Entry.{Entry}
use Rattle.run_history.specs.Counts.{records_of_all}
use Rattle.rescue_report.specs.Summary.{summary_of}
use Rattle.trial_runs.specs.Failures.{has_failed}
use Rattle.trial_runs.specs.Subjects.{devices_with}
use Rattle.rescue_run.specs.declared.task.LoadTask.{LoadTask}
use Rattle.rescue_run.specs.declared.outcome.Outcome.{Outcome}
use Rattle.rescue_run.specs.declared.outcome.Outcome.TheVariants.{Memory}
use Rattle.rescue_run.specs.Runs.{start_of_run, IsRunTo}

-- the bytes that were written to the output
abbrev pub out_of : List Entry → List ℕ
out_of entries = flat_map given_bytes (records_at 1 (records_of_all entries))

-- the text of the summary of a load's run
abbrev pub load_summary : LoadTask → List Entry → List Point → Ending → List ℕ
load_summary load entries points ending =
    summary_of load.number (length load.input) (out_of entries) entries ending

-- no call of a device failed; want of memory says nothing
abbrev pub IsSure : List Entry → Outcome → Type 0
IsSure entries Memory = Unit {0}
IsSure entries _ = has_failed (records_of_all entries) ≡ false

-- a load's run, on its devices, which comes to this
pub record IsLoadTo (load : LoadTask) (entries : List Entry) (points : List Point)
    (outcome : Outcome) : Type 0 where
  pub runs : IsRunTo (start_of_run load.start 0) load.start.setup.schedule entries points
      outcome
  pub devices : Seen
  pub matches : DevicesMatch (devices_with load.input) devices 0 (records_of_all entries)
  pub sure : IsSure entries outcome

-- the load ran so, or memory was wanting before it was started
abbrev pub RunsLoad : LoadTask → Option (List Entry) → Option (List Point) → Outcome → Type 0
RunsLoad load None None outcome = outcome ≡ Memory
RunsLoad load (Some entries) (Some points) outcome = IsLoadTo load entries points outcome
RunsLoad load _ _ outcome = ⊥
