use Rattle.std.proofs.Common.{ℕ, ◌∙◌, List, subst}
use Rattle.rescue_run.specs.Puts.{PutsOwn}
use Rattle.rescue_run.specs.declared.outcome.Outcome.TheVariants.{Tried}
use Rattle.rescue_trial.specs.TrialText.{trial_text_of}
use Rattle.rescue_run.proofs.trying.put_trials.Goals as goal

pub returns-in-Ok : goal.returns-in-Ok
returns-in-Ok g c =
    let end = g.R.Sink.end in
    let a = c.args in
    let text = c.items.ensures.list ∙ c.in-Ok.ensures.ok in record {
      puts = subst (λ (n : ℕ). PutsOwn (trial_text_of a.fault.now a.hart a.symbols.now a.trials.now) (Tried n) c.put_own.result (end a.report.now) (end c.put_own.new.report))
          c.good-good.ensures.value
          (subst (λ (t : List ℕ). PutsOwn t (Tried c.good-good.result) c.put_own.result (end a.report.now) (end c.put_own.new.report)) text c.put_own.ensures.puts);
    }
