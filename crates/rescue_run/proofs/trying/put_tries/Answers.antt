use Rattle.std.proofs.Common.{sym, subst}
use Rattle.trial_runs.specs.declared.tries.Tries.{Tries}
use Rattle.rescue_run.specs.Tries.{PutsTries}
use Rattle.rescue_run.proofs.trying.put_tries.Goals as goal

pub returns-in-Faulted : goal.returns-in-Faulted
returns-in-Faulted g c =
    let end = g.R.Sink.end in record {
      puts = subst (λ (t : Tries). PutsTries c.args.symbols.now t c.put_trials.result (end c.args.report.now) (end c.put_trials.new.report)) (sym c.in-Faulted.is)
          c.put_trials.ensures.puts;
    }
