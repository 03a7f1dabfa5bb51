-- What a machine leaves that was driven to its end is a run of its subject.
use Rattle.std.proofs.Common.{◌≡◌, ℕ, false, List, [], ◌++◌, Some, None, ap, sym, ◌∙◌, subst}
use Rattle.edge_ports.specs.DevicesMatch.{DevicesMatch}
use Rattle.edge_ports.specs.Seen.{Seen}
use Rattle.guest_words.specs.declared.ending.Ending.{Ending}
use Rattle.guest_words.specs.declared.point.Point.{Point}
use Rattle.guest_words.specs.State.{State}
use Rattle.lone_schedule.specs.Drives.{RunsAlone}
use Rattle.lone_schedule.specs.Lone.{IsLoneRun}
use Rattle.machine_core.specs.Machine.{Machine}
use Rattle.run_history.specs.declared.entry.Entry.{Entry}
use Rattle.run_history.specs.After.{state_after}
use Rattle.run_history.specs.Counts.{records_of_all}
use Rattle.run_history.specs.Run.{IsRun}
use Rattle.run_history.proofs.OneEnding.{one_ending}
use Rattle.trial_runs.specs.declared.subject.Subject.{Subject}
use Rattle.trial_runs.specs.Failures.{has_failed}
use Rattle.trial_runs.specs.Subjects.{devices_with, start_with}
use Rattle.trial_runs.specs.Trials.{RunsTo}

-- a machine at its start, driven, has the run that one thread makes from there
lone_whole : (start : State) (seed : ℕ) (m n : Machine) (entries : List Entry) → m.history ≡ [] → m.state ≡ start
    → RunsAlone seed m n → entries ≡ n.history → IsLoneRun start seed entries
lone_whole start seed m n entries fresh at runs same =
    let whole : entries ≡ runs.entries = same ∙ runs.follows ∙ ap (λ (es : List Entry). es ++ runs.entries) fresh in
    subst (λ (es : List Entry). IsLoneRun start seed es) (sym whole)
    (subst (λ (s : State). IsLoneRun s seed runs.entries) at runs.lone)

pub ran_to : (subject : Subject) (points : List Point) (from : State) (before now : Seen) (m n : Machine) (entries : List Entry) (x : Ending)
    → from ≡ start_with subject points → before ≡ devices_with subject.input → m.history ≡ [] → m.state ≡ from
    → RunsAlone subject.seed m n → entries ≡ n.history → IsRun from entries → n.state ≡ state_after from entries → Some x ≡ n.state.ending
    → DevicesMatch before now 0 (records_of_all entries) → false ≡ has_failed (records_of_all entries)
    → RunsTo subject points entries x
ran_to subject points from before now m n entries x begins own fresh at runs same run reaches ended matches sure =
    let whole : IsLoneRun from subject.seed entries = lone_whole from subject.seed m n entries fresh at runs same in
    let over : (state_after from entries).ending ≡ Some x = sym (ended ∙ ap (λ (s : State). s.ending) reaches) in
    let going : from.ending ≡ None = ap (λ (s : State). s.ending) begins in
    record {
      run = subst (λ (s : State). IsRun s entries) begins run;
      order = subst (λ (s : State). IsLoneRun s subject.seed entries) begins whole;
      ends = one_ending from entries x run going over;
      devices = now;
      matches = subst (λ (d : Seen). DevicesMatch d now 0 (records_of_all entries)) own matches;
      sure = sym sure;
    }
