use Rattle.std.proofs.Common.{◌++◌, drop, map}
use Rattle.std.specs.List.{flat_map}
use Rattle.rescue_report.specs.List.{symbol_line, symbol_of}
use Rattle.rescue_report.specs.ListPuts.{PutsFront}
use Rattle.rescue_report.proofs.list_put.put_rows.Given as goal

abbrev pub invariant-loop-row : goal.invariant-loop-row
invariant-loop-row g l =
    PutsFront (l.fn.gathered ++ flat_map symbol_line (map symbol_of l.fn.rows))
    (l.gathered ++ flat_map symbol_line (map symbol_of (drop l.row-index l.fn.rows)))
    (g.R.Sink.end l.fn.sink) (g.R.Sink.end l.sink)
