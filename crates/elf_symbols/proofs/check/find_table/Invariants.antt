use Rattle.std.proofs.Common.{◌≡◌}
use Rattle.std.specs.Prelude.{None, find, ◌==◌}
use Rattle.elf_symbols.specs.SymbolFields.{sh_type}
use Rattle.elf_symbols.specs.SymbolTable.{places}
use Rattle.elf_symbols.proofs.check.find_table.Given as goal

abbrev pub invariant-loop-k : goal.invariant-loop-k
invariant-loop-k l = find (λ place. sh_type l.file place == 2) (places l.first 64 l.k) ≡ None
