use Rattle.std.proofs.Common.{◌≡◌, drop}
use Rattle.run_history.specs.Counts.{records_of_all}
use Rattle.trial_runs.specs.Failures.{has_failed}
use Rattle.trial_runs.proofs.failures.+failures.Given as goal

abbrev pub invariant-any_failed-loop-entry : goal.invariant-any_failed-loop-entry
invariant-any_failed-loop-entry l =
    has_failed (records_of_all (drop l.entry-index l.fn.entries)) ≡ has_failed (records_of_all l.fn.entries)
