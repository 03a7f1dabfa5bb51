use Rattle.std.specs.List.{flat_map}
use Rattle.elf_symbols.specs.SymbolTable.{places, symbol_at}
use Rattle.elf_symbols.specs.Tallies.{AreTallies}
use Rattle.elf_symbols.proofs.symbol_table.SymbolTable.add_all.Given as goal

abbrev pub invariant-loop-k : goal.invariant-loop-k
invariant-loop-k l = AreTallies (flat_map (symbol_at l.self.file.now l.self.strings.now) (places l.self.first 24 l.k)) l.k l.tallies
