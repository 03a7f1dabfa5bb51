-- The lines that explain why words are refused, in ASCII.
use Rattle.std.specs.Prelude.{ℕ, ◌++◌, ◌&&◌, Bool, List, [], ◌∷◌, map, length, min, nat_le, take, Option, Some, None, is_some, codes, if◌then◌else◌}
use Rattle.std.specs.Fmt.{decimal}
use Rattle.clap.specs.Words.{Text}
use Rattle.program_words.specs.Help.{usage_of}
use Rattle.program_words.specs.Kinds.{kind_named}
use Rattle.program_words.specs.Words.{first_word_fault}
use Rattle.program_words.specs.declared.command_kind.CommandKind.{CommandKind}
use Rattle.program_words.specs.declared.limits.TheConstants.{LOADS}
use Rattle.word_complaints.specs.Options.{option_text, wanted_by, wanted_text}
use Rattle.word_complaints.specs.Places.{place_text}
use Rattle.word_complaints.specs.Walks.{complaint_in}
use Rattle.word_complaints.specs.declared.complaint.Complaint.{Complaint}
use Rattle.word_complaints.specs.declared.complaint.Complaint.TheVariants.{NoOption, Twice, NoValue, BadValue, NoNumber, NoPort, Extra, Missing}

-- a byte as it is shown: a question mark (63) for one that isn't printed
abbrev pub shown_byte : ℕ → ℕ
shown_byte byte = if nat_le 32 byte && nat_le byte 126 then byte else 63

-- a word as it is shown: its first 60 bytes
unfoldable pub shown : Text → Text
shown word = map shown_byte (take (min (length word) 60) word)

-- what is wrong, in words
abbrev pub complaint_text : Complaint → Text
complaint_text (NoOption name) = codes "there is no option " ++ shown name
complaint_text (Twice o) = option_text o ++ codes " stands twice"
complaint_text (NoValue o) = option_text o ++ (codes " wants " ++ wanted_text (wanted_by o))
complaint_text (BadValue o value) = option_text o ++ (codes " wants "
    ++ (wanted_text (wanted_by o) ++ (codes ", not '" ++ (shown value ++ codes "'"))))
complaint_text (NoNumber word) = codes "N wants a number from 1 to "
    ++ (decimal LOADS ++ (codes ", not '" ++ (shown word ++ codes "'")))
complaint_text (NoPort word) = codes "'" ++ (shown word
    ++ codes "' is no port: a port is IN:OUT, two files' names with one colon between")
complaint_text (Extra word) = codes "'" ++ (shown word ++ codes "' is a word too many")
complaint_text (Missing p) = place_text p ++ codes " is missing"

-- what is wrong, in a line, where something is
abbrev pub complaint_line : Option Complaint → Text
complaint_line None = []
complaint_line (Some c) = codes "  " ++ (complaint_text c ++ codes "\n")

-- the commands, and where to read on
abbrev pub commands_lines : Text
commands_lines =
    codes "  the commands are run, alone, list, load, audit and try\n"
    ++ codes "  rescue --help tells more\n"

-- a first word that names no command
abbrev pub unknown_line : Text → Text
unknown_line first = codes "  there is no command '" ++ (shown first ++ codes "'\n")

-- that, and the commands
abbrev pub unknown_lines : Text → Text
unknown_lines first = unknown_line first ++ commands_lines

-- the lines on the words of a command
abbrev pub command_lines : CommandKind → List Text → Text
command_lines k words = complaint_line (complaint_in k words) ++ usage_of k

abbrev pub lines_on : Text → List Text → Option CommandKind → Text
lines_on first words None = unknown_lines first
lines_on first words (Some k) = command_lines k words

-- the lines on words that are refused
abbrev pub lines_of : List Text → Text
lines_of [] = codes "  a command is missing\n" ++ commands_lines
lines_of (first ∷ words) = lines_on first words (kind_named first)

-- the lines that explain words: none where they break no rule
abbrev pub explanation_of : List Text → Text
explanation_of words = if is_some (first_word_fault words) then lines_of words else []
