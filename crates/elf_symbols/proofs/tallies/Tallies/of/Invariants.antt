use Rattle.std.proofs.Common.{[]}
use Rattle.elf_symbols.specs.Tallies.{AreTallies}
use Rattle.elf_symbols.proofs.tallies.Tallies.of.Given as goal

abbrev pub invariant-loop-name : goal.invariant-loop-name
invariant-loop-name l = AreTallies [] 0 (record { by_name = l.by_name; longest = l.longest })
