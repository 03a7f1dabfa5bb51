use Rattle.std.proofs.Common.{◌≡◌, ◌<◌, ◌≤◌, get_or, length}
use Rattle.std.specs.List.{flat_map}
use Rattle.elf_symbols.specs.Find.{values_of}
use Rattle.elf_symbols.specs.SymbolTable.{places, symbol_at}
use Rattle.elf_symbols.proofs.symbol_table.SymbolTable.count_named.Given as goal

abbrev pub invariant-loop-k : goal.invariant-loop-k
invariant-loop-k l =
    let values = values_of (flat_map (symbol_at l.self.file.now l.self.strings.now) (places l.self.first 24 l.k)) l.name in record {
      count : l.count ≡ length values;
      first : 0 < l.count → l.first ≡ get_or values 0 0;
      within : l.count ≤ l.k;
    }
