-- The rows stand for the symbols, and the sort's order is theirs.
use Rattle.std.proofs.Common.{◌≡◌, map, subst, arith}
use Rattle.std.proofs.lemmas.Grind.{common_steps}
use Rattle.std.proofs.lemmas.List.Sorted.{IsPermutation-map}
use Rattle.std.specs.List.Sorted.{IsPermutation}
use Rattle.rescue_report.specs.List.{symbol_of, symbol_order}
use Rattle.rescue_report.proofs.Orders.{IsSorted-map}
use Rattle.rescue_report.proofs.list.sorted_rows.Goals as goal

pub returns : goal.returns
returns c =
    let rows = c.sort_unstable.new.self.items in
    let all : map symbol_of c.loop-symbol.rows.items ≡ c.args.symbols.now = grind (arith, common_steps) in
    record {
      ok = record {
        same = subst (λ xs. IsPermutation xs (map symbol_of rows)) all
            (IsPermutation-map symbol_of c.loop-symbol.rows.items rows c.sort_unstable.ensures.permutation);
        sorted = IsSorted-map symbol_of symbol_order rows c.sort_unstable.ensures.sorted;
      };
    }
