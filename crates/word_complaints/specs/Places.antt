-- The words that the commands take, other than those of options.
use Rattle.std.specs.Prelude.{Bool, true, false, Option, Some, None, codes}
use Rattle.clap.specs.Words.{Text}
use Rattle.program_words.specs.declared.command_kind.CommandKind.{CommandKind}
use Rattle.program_words.specs.declared.command_kind.CommandKind.TheVariants as kind
use Rattle.word_complaints.specs.declared.place.Place.{Place}
use Rattle.word_complaints.specs.declared.place.Place.TheVariants as place

-- the first word of a command
abbrev pub first_place : CommandKind → Place
first_place kind.Audit = place.History
first_place kind.Load = place.Number
first_place kind.Help = place.Any
first_place kind.Version = place.Any
first_place k = place.Program

-- the word behind one, where the command takes a further one
abbrev pub next_place : CommandKind → Place → Option Place
next_place kind.Run place.Program = Some place.Port
next_place kind.Alone place.Program = Some place.Port
next_place kind.Audit place.Program = Some place.Input
next_place kind.Try place.Program = Some place.Input
next_place k place.Program = None
next_place kind.Audit place.Input = Some place.Out
next_place k place.Input = None
next_place k place.History = Some place.Program
next_place k place.Out = Some place.Err
next_place k place.Err = Some place.Port
next_place k place.Number = None
next_place k place.Port = Some place.Port
next_place k place.Any = Some place.Any

-- the word has to stand
abbrev pub is_required : Place → Bool
is_required place.Port = false
is_required place.Any = false
is_required p = true

-- the word as the usage has it
abbrev pub place_text : Place → Text
place_text place.Program = codes "PROGRAM"
place_text place.History = codes "HISTORY"
place_text place.Input = codes "INPUT"
place_text place.Out = codes "OUT"
place_text place.Err = codes "ERR"
place_text place.Number = codes "N"
place_text place.Port = codes "IN:OUT"
place_text place.Any = codes "WORD"
