use Rattle.std.proofs.Common.{◌≡◌, drop}
use Rattle.edge_ports.specs.DevicesMatch.{records_at}
use Rattle.run_history.specs.Counts.{records_of_all}
use Rattle.rescue_audit.specs.Walk.{left_after}
use Rattle.rescue_audit.proofs.walk.+walk.Given as goal

abbrev pub invariant-left_after_all-loop-entry : goal.invariant-left_after_all-loop-entry
invariant-left_after_all-loop-entry l =
    left_after l.fn.side l.left (records_at l.fn.fd (records_of_all (drop l.entry-index l.fn.entries)))
    ≡ left_after l.fn.side l.fn.file (records_at l.fn.fd (records_of_all l.fn.entries))
