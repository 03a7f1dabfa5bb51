use Rattle.std.proofs.Common.{◌≡◌, ◌++◌, drop, string_bytes}
use Rattle.rescue_report.specs.Report.{spent_lines}
use Rattle.rescue_report.proofs.report.put_spent.Given as goal

abbrev pub invariant-loop-point : goal.invariant-loop-point
invariant-loop-point l =
    string_bytes l.text ++ spent_lines (drop l.point-index l.fn.points)
    ≡ string_bytes l.fn.text ++ spent_lines l.fn.points
