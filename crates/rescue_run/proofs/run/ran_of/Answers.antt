use Rattle.std.proofs.Common.{ap, sym, ◌∙◌}
use Rattle.guest_words.specs.State.{State}
use Rattle.rescue_run.proofs.Coming.{explains}
use Rattle.rescue_run.proofs.run.ran_of.Goals as goal

pub returns-clause-run : goal.returns-clause-run
returns-clause-run g c =
    let last = c.into_parts-history in record {
      run = last.ensures.run;
      order = tt;
      last = last.ensures.points ∙ ap (λ (s : State). s.points) last.ensures.reaches;
      explains = explains g.K.Origin.state last.result.0.entries _ last.ensures.run c.requires.fresh
          (sym (c.ending-ending.ensures.value ∙ ap (λ (s : State). s.ending) last.ensures.reaches));
    }
