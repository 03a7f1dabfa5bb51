use Rattle.std.proofs.Common.{◌≡◌, subst, rules}
use Rattle.rescue_audit.specs.AuditLines.{yes_line}
use Rattle.rescue_run.specs.Puts.{PutsOwn}
use Rattle.rescue_run.specs.declared.outcome.Outcome.TheVariants.{Audited}
use Rattle.rescue_run.proofs.audit.put_yes.Goals as goal

pub returns-in-Ok : goal.returns-in-Ok
returns-in-Ok g c =
    let end = g.R.Sink.end in
    let text : c.as_bytes.result.now ≡ yes_line c.args.history.now.entries = search rules in record {
      puts = subst (λ t. PutsOwn t Audited c.put_own.result (end c.args.report.now) (end c.put_own.new.report)) text c.put_own.ensures.puts;
    }
