use Rattle.std.proofs.Common.{◌≡◌, ◌++◌, drop, string_bytes}
use Rattle.std.specs.List.{flat_map}
use Rattle.rescue_trial.specs.TrialText.{good_line, good_of}
use Rattle.rescue_trial.proofs.text.put_goods.Given as goal

abbrev pub invariant-loop-trial : goal.invariant-loop-trial
invariant-loop-trial l =
    string_bytes l.text ++ flat_map (good_line l.symbols) (good_of (drop l.trial-index l.fn.trials))
    ≡ string_bytes l.fn.text ++ flat_map (good_line l.symbols) (good_of l.fn.trials)
