use Rattle.std.proofs.Common.{◌≡◌, ◌++◌, drop, string_bytes}
use Rattle.rescue_report.specs.Rescues.{rescue_lines_of_all}
use Rattle.rescue_report.proofs.report.+rescues.Given as goal

abbrev pub invariant-put_rescues-loop-entry : goal.invariant-put_rescues-loop-entry
invariant-put_rescues-loop-entry l =
    string_bytes l.text ++ rescue_lines_of_all l.points (drop l.entry-index l.fn.entries) l.depth
    ≡ string_bytes l.fn.text ++ rescue_lines_of_all l.points l.fn.entries l.depth
