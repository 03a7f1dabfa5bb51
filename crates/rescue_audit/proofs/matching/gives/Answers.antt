use Rattle.std.proofs.Common.{ap, ◌∙◌}
use Rattle.edge_ports.specs.DevicesMatch.{records_at}
use Rattle.run_history.specs.Counts.{records_of_all}
use Rattle.rescue_audit.proofs.Siding.{gives_is, is_emptied}
use Rattle.rescue_audit.proofs.matching.gives.Goals as goal

pub returns-in-Some : goal.returns-in-Some
returns-in-Some c = record {
  value = c.is_empty.ensures ∙ ap is_emptied c.in-Some.ensures.value
      ∙ gives_is c.args.file.now (records_at c.args.fd (records_of_all c.args.entries.now));
}

pub returns-in-None : goal.returns-in-None
returns-in-None c = record {
  value = ap is_emptied c.in-None.ensures.value
      ∙ gives_is c.args.file.now (records_at c.args.fd (records_of_all c.args.entries.now));
}
