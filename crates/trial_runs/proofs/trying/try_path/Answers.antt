use Rattle.std.proofs.Common.{◌+◌, List, take, sym, subst}
use Rattle.std.specs.List.{AllZip}
use Rattle.rescue_trial.specs.declared.trial.Trial.{Trial}
use Rattle.trial_runs.specs.Trials.{IsTrial}
use Rattle.trial_runs.proofs.Each.{AllZip-more}
use Rattle.trial_runs.proofs.trying.try_path.Goals as goal

pub loop-entry-preserved : goal.loop-entry-preserved
loop-entry-preserved c =
    let path = c.args.path.now in
    let i = c.loop-entry.entry-index in
    let each = IsTrial c.args.subject.now c.args.code in
    subst (λ (ts : List Trial). AllZip each (take (i + 1) path) ts) (sym c.in_ok-push.ensures.items)
    (AllZip-more each path c.loop-entry.trials.items i 0 c.in_ok-trial.trial c.loop-entry-test.true c.loop-entry.invariant
    c.in_ok-trial.ensures.trial)
