use Rattle.std.proofs.Common.{take}
use Rattle.std.specs.List.{AllZip}
use Rattle.trial_runs.specs.Trials.{IsTrial}
use Rattle.trial_runs.proofs.trying.try_path.Given as goal

abbrev pub invariant-loop-entry : goal.invariant-loop-entry
invariant-loop-entry l = AllZip (IsTrial l.subject l.code) (take l.entry-index l.path) l.trials.items
