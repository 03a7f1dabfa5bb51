-- Printed names of the faults of words.
use Rattle.std.specs.Prelude.{ℕ, List, codes}
use Rattle.program_words.specs.declared.word_fault.WordFault.{WordFault}
use Rattle.program_words.specs.declared.word_fault.WordFault.TheVariants.{NoCommand, UnknownCommand, Line, Port, Threads}

-- the name of a fault, as ASCII
abbrev pub word_fault_name : WordFault → List ℕ
word_fault_name NoCommand = codes "no-command"
word_fault_name UnknownCommand = codes "unknown-command"
word_fault_name Line = codes "line"
word_fault_name (Port index) = codes "port"
word_fault_name Threads = codes "threads"
