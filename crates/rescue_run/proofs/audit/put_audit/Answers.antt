use Rattle.std.proofs.Common.{◌≡◌, Err, subst}
use Rattle.history_file.specs.Reading.{read_of, TellsFault}
use Rattle.history_file.specs.Spelled.{IsHistoryFile}
use Rattle.rescue_audit.specs.declared.no.No.TheVariants.{File}
use Rattle.rescue_run.proofs.Auditing.{no_told, verdict_told}
use Rattle.rescue_run.proofs.audit.put_audit.Goals as goal

pub returns-in-Ok : goal.returns-in-Ok
returns-in-Ok g c =
    let end = g.R.Sink.end in
    let r = c.in-Ok in record {
      says = verdict_told c.args.task.now r.head r.history.entries c.put_verdict.result (end c.args.report.now) (end c.put_verdict.new.report)
          (subst (λ bytes. IsHistoryFile bytes r.head r.history.entries) c.items.ensures.list r.ensures.found) c.put_verdict.ensures.puts;
    }

pub returns-in-Err-At : goal.returns-in-Err-At
returns-in-Err-At g c =
    let end = g.R.Sink.end in
    let e = c.in-Err-At in
    let first = subst (λ f. TellsFault f (read_of c.items.result.now)) e.field-0-is e.ensures.first in record {
      says = no_told c.args.task.now (File e.fault e.offset) (subst (λ bytes. read_of bytes ≡ Err (e.fault, e.offset)) c.items.ensures.list first)
          c.put_no.result (end c.args.report.now) (end c.put_no.new.report) c.put_no.ensures.puts;
    }
