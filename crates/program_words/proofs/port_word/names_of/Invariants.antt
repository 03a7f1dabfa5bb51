use Rattle.std.proofs.Common.{◌≡◌, map, take}
use Rattle.program_words.specs.Ports.{port_named}
use Rattle.program_words.proofs.port_word.names_of.Given as goal

abbrev pub invariant-loop-word : goal.invariant-loop-word
invariant-loop-word l = l.names.items ≡ map port_named (map (λ w. w.now) (take l.word-index l.words))
