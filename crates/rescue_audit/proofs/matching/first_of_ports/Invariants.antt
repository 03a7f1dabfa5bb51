use Rattle.std.proofs.Common.{◌≡◌, drop}
use Rattle.run_history.specs.Counts.{records_of_all}
use Rattle.rescue_audit.specs.Matches.{first_broken, port_rules}
use Rattle.rescue_audit.proofs.Numbering.{numbered}
use Rattle.rescue_audit.proofs.matching.first_of_ports.Given as goal

abbrev pub invariant-loop-port : goal.invariant-loop-port
invariant-loop-port l =
    numbered l.input (first_broken (port_rules l.fd (drop l.port-index l.fn.ports) (records_of_all l.fn.entries)))
    ≡ numbered 3 (first_broken (port_rules 3 l.fn.ports (records_of_all l.fn.entries)))
