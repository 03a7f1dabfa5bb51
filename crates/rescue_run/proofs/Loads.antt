-- The run of a load.
use Rattle.std.proofs.Common.{◌≡◌, ◌⊎◌, ℕ, List, [], ◌∷◌, length, drop, Option, Some, None, refl, ap, sym, ◌∙◌, subst}
use Rattle.std.specs.Prelude.{unwrap_or}
use Rattle.std.specs.List.{flat_map}
use Rattle.edge_ports.specs.DevicesMatch.{records_at, DevicesMatch}
use Rattle.edge_ports.specs.End.{End}
use Rattle.edge_ports.specs.Records.{given_bytes}
use Rattle.edge_ports.specs.Seen.{Seen}
use Rattle.guest_words.specs.declared.ending.Ending.{Ending}
use Rattle.guest_words.specs.declared.point.Point.{Point}
use Rattle.guest_words.specs.declared.record.Record.{Record}
use Rattle.run_history.specs.declared.entry.Entry.{Entry}
use Rattle.run_history.specs.Counts.{records_of_all}
use Rattle.rescue_run.specs.declared.outcome.Outcome.{Outcome}
use Rattle.rescue_run.specs.declared.outcome.Outcome.TheVariants.{Words, PortCount, Shelf, TooLong, Elf, Symbols, Points, Report, Save, Ended, Listed, Audited, AuditNo, Tried, NoFault, Shown, Memory}
use Rattle.rescue_run.specs.declared.task.LoadTask.{LoadTask}
use Rattle.rescue_run.specs.Load.{load_summary, out_of, IsLoadTo, IsSure}
use Rattle.rescue_run.specs.Puts.{PutsText, ReportsRun}
use Rattle.trial_runs.specs.Subjects.{devices_with}
use Rattle.rescue_run.specs.Runs.{outcome_of, start_of_run, IsRunTo}
use Rattle.rescue_report.specs.Summary.{summary_of}
use Rattle.rescue_run.proofs.Coming.{losing}
use Rattle.rescue_run.proofs.Putting.{told_of}

-- what was put is by an ending, if it has one
sure_as : (text : Ending → List ℕ) (entries : List Entry) (ending : Option Ending) (outcome : Outcome) (old new : End)
    → PutsText text ending outcome old new → IsSure entries (outcome_of ending) → IsSure entries outcome
sure_as text entries None (Words fault) old new puts sure = absurd puts
sure_as text entries None (PortCount named handed) old new puts sure = absurd puts
sure_as text entries None (Shelf w reason) old new puts sure = absurd puts
sure_as text entries None (TooLong w size) old new puts sure = absurd puts
sure_as text entries None (Elf fault offset) old new puts sure = absurd puts
sure_as text entries None (Symbols fault offset) old new puts sure = absurd puts
sure_as text entries None (Points fault place) old new puts sure = absurd puts
sure_as text entries None (Report ending) old new puts sure = absurd puts
sure_as text entries None (Ended x) old new puts sure = absurd puts
sure_as text entries None Listed old new puts sure = absurd puts
sure_as text entries None (Save z) old new puts sure = absurd puts
sure_as text entries None Audited old new puts sure = absurd puts
sure_as text entries None (AuditNo refusal) old new puts sure = absurd puts
sure_as text entries None (Tried good) old new puts sure = absurd puts
sure_as text entries None (NoFault z) old new puts sure = absurd puts
sure_as text entries None Shown old new puts sure = absurd puts
sure_as text entries ending Memory old new puts sure = tt
sure_as text entries (Some y) (Words fault) old new puts sure = sure
sure_as text entries (Some y) (PortCount named handed) old new puts sure = sure
sure_as text entries (Some y) (Shelf w reason) old new puts sure = sure
sure_as text entries (Some y) (TooLong w size) old new puts sure = sure
sure_as text entries (Some y) (Elf fault offset) old new puts sure = sure
sure_as text entries (Some y) (Symbols fault offset) old new puts sure = sure
sure_as text entries (Some y) (Points fault place) old new puts sure = sure
sure_as text entries (Some y) (Report ending) old new puts sure = sure
sure_as text entries (Some y) (Ended x) old new puts sure = sure
sure_as text entries (Some y) Listed old new puts sure = sure
sure_as text entries (Some y) (Save z) old new puts sure = sure
sure_as text entries (Some y) Audited old new puts sure = sure
sure_as text entries (Some y) (AuditNo refusal) old new puts sure = sure
sure_as text entries (Some y) (Tried good) old new puts sure = sure
sure_as text entries (Some y) (NoFault z) old new puts sure = sure
sure_as text entries (Some y) Shown old new puts sure = sure

pub load_told : (load : LoadTask) (entries : List Entry) (points : List Point) (ending : Option Ending) (outcome : Outcome) (old new : End)
    → IsLoadTo load entries points (outcome_of ending) → PutsText (load_summary load entries points) ending outcome old new
    → IsLoadTo load entries points outcome × ReportsRun (load_summary load entries points) outcome old new
load_told load entries points ending outcome old new run puts =
    let text = load_summary load entries points in
    let t = told_of (start_of_run load.start 0) load.start.setup.schedule entries points text ending outcome old new run.runs puts in (
      record {
        runs = t.0;
        devices = run.devices;
        matches = run.matches;
        sure = sure_as text entries ending outcome old new puts run.sure;
      },
      t.1,
    )

-- what was written to the output is what it was given
drop_none : {A : Type 0} (xs : List A) → drop 0 xs ≡ xs
drop_none [] = refl
drop_none (x ∷ xs) = refl

pub out_given : (input : List ℕ) (devices : Seen) (entries : List Entry) (given : List ℕ)
    → DevicesMatch (devices_with input) devices 0 (records_of_all entries) → devices.out.given ≡ Some given → given ≡ out_of entries
out_given input devices entries given matches told =
    let records : List Record = records_of_all entries in
    let came : Some given ≡ Some (flat_map given_bytes (records_at 1 (drop 0 records))) = sym told ∙ (matches.ends 1).given in
    ap (λ o. unwrap_or o given) came ∙ ap (λ (rs : List Record). flat_map given_bytes (records_at 1 rs)) (drop_none records)

-- a load's run, from what the run of its start gives on its devices
pub load_ran : (load : LoadTask) (before now : Seen) (count : ℕ) (entries : List Entry) (points : List Point) (a b : Option Ending)
    → before ≡ devices_with load.input → count ≡ 0 → IsRunTo (start_of_run load.start count) load.start.setup.schedule entries points (outcome_of a)
    → DevicesMatch before now 0 (records_of_all entries) → (b ≡ a) ⊎ (b ≡ None) → IsSure entries (outcome_of b)
    → IsLoadTo load entries points (outcome_of b)
load_ran load before now count entries points a b own none run matches ending sure = record {
  runs = losing (start_of_run load.start 0) load.start.setup.schedule entries points a b ending
      (subst (λ n. IsRunTo (start_of_run load.start n) load.start.setup.schedule entries points (outcome_of a)) none run);
  devices = now;
  matches = subst (λ (d : Seen). DevicesMatch d now 0 (records_of_all entries)) own matches;
  sure = sure;
}

pub load_out : (input : List ℕ) (before now : Seen) (entries : List Entry) (given : List ℕ) → before ≡ devices_with input
    → DevicesMatch before now 0 (records_of_all entries) → now.out.given ≡ Some given → given ≡ out_of entries
load_out input before now entries given own matches told =
    out_given input now entries given (subst (λ (d : Seen). DevicesMatch d now 0 (records_of_all entries)) own matches) told

-- the summary of a load, by what it was put together from
pub puts_load : (load : LoadTask) (entries : List Entry) (points : List Point) (ending : Option Ending) (outcome : Outcome) (old new : End)
    (number bytes : ℕ) (out : List ℕ) → number ≡ load.number → bytes ≡ length load.input → out ≡ out_of entries
    → PutsText (summary_of number bytes out entries) ending outcome old new → PutsText (load_summary load entries points) ending outcome old new
puts_load load entries points ending outcome old new number bytes out a b c puts =
    subst (λ o. PutsText (summary_of load.number (length load.input) o entries) ending outcome old new) c
    (subst (λ n. PutsText (summary_of load.number n out entries) ending outcome old new) b
    (subst (λ n. PutsText (summary_of n bytes out entries) ending outcome old new) a puts))
