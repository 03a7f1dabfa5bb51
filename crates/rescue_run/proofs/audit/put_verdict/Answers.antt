use Rattle.std.proofs.Common.{subst, sym, ◌∙◌}
use Rattle.rescue_audit.specs.Verdict.{verdict_of}
use Rattle.rescue_run.specs.Audits.{PutsVerdict}
use Rattle.rescue_run.proofs.Auditing.{verdict_wants}
use Rattle.rescue_run.proofs.audit.put_verdict.Goals as goal

pub returns-in-Ok-Yes : goal.returns-in-Ok-Yes
returns-in-Ok-Yes g c =
    let end = g.R.Sink.end in record {
      puts = subst (λ v. PutsVerdict v c.args.history.now.entries c.put_yes.result (end c.args.report.now) (end c.put_yes.new.report))
          (sym c.in-Ok-Yes.field-0-is ∙ c.in-Ok-Yes.ensures.ok) c.put_yes.ensures.puts;
    }

pub returns-in-Ok-No : goal.returns-in-Ok-No
returns-in-Ok-No g c =
    let end = g.R.Sink.end in record {
      puts = subst (λ v. PutsVerdict v c.args.history.now.entries c.put_no.result (end c.args.report.now) (end c.put_no.new.report))
          (sym c.in-Ok-No.field-0-is ∙ c.in-Ok-No.ensures.ok) c.put_no.ensures.puts;
    }

pub returns-in-Err : goal.returns-in-Err
returns-in-Err g c =
    let end = g.R.Sink.end in
    let t = c.args.task.now in record {
      puts = verdict_wants (verdict_of t.loaded.image t.loaded.points c.args.head.now c.args.history.now.entries t.files) c.args.history.now.entries
          c.put_memory.result (end c.args.report.now) (end c.put_memory.new.report) c.put_memory.ensures.value c.put_memory.ensures.line;
    }
