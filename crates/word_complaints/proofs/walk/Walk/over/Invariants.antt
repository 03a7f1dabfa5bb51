use Rattle.std.proofs.Common.{◌≡◌, drop}
use Rattle.program_words.specs.Words.{texts}
use Rattle.word_complaints.specs.Walks.{walked}
use Rattle.word_complaints.proofs.walk.Walk.over.Given as goal

abbrev pub invariant-loop-word : goal.invariant-loop-word
invariant-loop-word l = walked l.walk (texts (drop l.word-index l.words)) ≡ walked l.fn.self (texts l.words)
