use Rattle.std.proofs.Common.{◌≡◌, ◌+◌, drop, length}
use Rattle.run_history.specs.Counts.{steps_of_all, records_of_all}
use Rattle.rescue_report.specs.Rescues.{rescues_of_all}
use Rattle.rescue_report.proofs.counts.Counts.+counts.Given as goal

abbrev pub invariant-add_all-loop-entry : goal.invariant-add_all-loop-entry
invariant-add_all-loop-entry l =
    (l.self.steps + steps_of_all (drop l.entry-index l.fn.entries) ≡ l.fn.self.steps + steps_of_all l.fn.entries)
    × (l.self.records + length (records_of_all (drop l.entry-index l.fn.entries)) ≡ l.fn.self.records + length (records_of_all l.fn.entries))
    × (l.self.rescues + rescues_of_all (drop l.entry-index l.fn.entries) ≡ l.fn.self.rescues + rescues_of_all l.fn.entries)
