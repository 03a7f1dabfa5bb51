use Rattle.std.proofs.Common.{◌≡◌, ◌++◌, drop, map}
use Rattle.rescue_report.specs.List.{symbol_of}
use Rattle.rescue_report.proofs.list.sorted_rows.Given as goal

abbrev pub invariant-loop-symbol : goal.invariant-loop-symbol
invariant-loop-symbol l = map symbol_of l.rows.items ++ drop l.symbol-index l.fn.symbols ≡ l.fn.symbols
