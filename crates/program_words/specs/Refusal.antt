-- What a refusal of `clap` comes to.
use Rattle.clap.specs.declared.error.kind.ErrorKind.{ErrorKind}
use Rattle.clap.specs.declared.error.kind.ErrorKind.TheVariants.{OutOfMemory}
use Rattle.program_words.specs.declared.word_fault.WordFault.TheVariants.{Line}
use Rattle.program_words.specs.declared.words_fault.WordsFault.{WordsFault}
use Rattle.program_words.specs.declared.words_fault.WordsFault.TheVariants.{Memory, Words}

-- want of memory, or a line that the command doesn't take
abbrev pub refusal_of : ErrorKind → WordsFault
refusal_of OutOfMemory = Memory
refusal_of kind = Words Line
