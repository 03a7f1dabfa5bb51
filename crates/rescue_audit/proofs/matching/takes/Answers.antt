use Rattle.std.proofs.Common.{ap, ◌∙◌, is_some}
use Rattle.edge_ports.specs.DevicesMatch.{records_at}
use Rattle.run_history.specs.Counts.{records_of_all}
use Rattle.rescue_audit.proofs.Siding.{some_mapped, takes_is}
use Rattle.rescue_audit.proofs.matching.takes.Goals as goal

pub returns : goal.returns
returns c = record {
  value = c.is_some.ensures
      ∙ some_mapped (λ x. x.now) c.left_after_all.result
      ∙ ap is_some c.left_after_all.ensures.value
      ∙ takes_is c.args.file.now (records_at c.args.fd (records_of_all c.args.entries.now));
}
