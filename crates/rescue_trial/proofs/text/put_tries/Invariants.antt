use Rattle.std.proofs.Common.{◌≡◌, ◌++◌, drop, string_bytes}
use Rattle.std.specs.List.{flat_map}
use Rattle.rescue_trial.specs.TrialText.{try_line}
use Rattle.rescue_trial.proofs.text.put_tries.Given as goal

abbrev pub invariant-loop-trial : goal.invariant-loop-trial
invariant-loop-trial l =
    string_bytes l.text ++ flat_map (try_line l.symbols) (drop l.trial-index l.fn.trials)
    ≡ string_bytes l.fn.text ++ flat_map (try_line l.symbols) l.fn.trials
