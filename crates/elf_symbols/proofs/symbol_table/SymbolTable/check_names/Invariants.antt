use Rattle.std.proofs.Common.{◌≡◌, map}
use Rattle.std.specs.Prelude.{None}
use Rattle.guest_words.specs.Rules.{first_broken}
use Rattle.elf_symbols.specs.SymbolTable.{places, name_rule}
use Rattle.elf_symbols.proofs.symbol_table.SymbolTable.check_names.Given as goal

abbrev pub invariant-loop-k : goal.invariant-loop-k
invariant-loop-k l = first_broken (map (name_rule l.self.file.now l.self.strings.now) (places l.self.first 24 l.k)) ≡ None
