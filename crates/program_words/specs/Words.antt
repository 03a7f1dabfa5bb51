-- The words of a command line, what they ask for, and the first rule that they break.
use Rattle.std.specs.Prelude.{ℕ, ℤ, Bool, false, List, [], ◌∷◌, length, map, Option, Some, None, option_map, unwrap_or, Result, Ok, Err, String, string_bytes, codes, if◌then◌else◌}
use Rattle.std.specs.Result.{result_err, result_map_both}
use Rattle.std.specs.Option.{option_map_or}
use Rattle.std.specs.Str.Parse.{digits_value, signed_digits_value, without_leading_plus}
use Rattle.std.specs.declared.alloc.Global.{Global}
use Rattle.clap.specs.Walk.{is_empty}
use Rattle.clap.specs.Words.{Row, Text, all_of, fault_of, first_of, matches_of, one_of}
use Rattle.program_words.specs.declared.command.Command.{Command}
use Rattle.program_words.specs.declared.command.Command.TheVariants as command
use Rattle.program_words.specs.declared.command_kind.CommandKind.{CommandKind}
use Rattle.program_words.specs.declared.command_kind.CommandKind.TheVariants as kind
use Rattle.program_words.specs.declared.limits.TheConstants.{DEFAULT_BUDGET, DEFAULT_HARTS, DEFAULT_RETURNS, DEFAULT_SEED}
use Rattle.program_words.specs.declared.port_name.PortName.{PortName}
use Rattle.program_words.specs.declared.word_fault.WordFault.{WordFault}
use Rattle.program_words.specs.declared.word_fault.WordFault.TheVariants.{NoCommand, UnknownCommand, Line, Port}
use Rattle.program_words.specs.Kinds.{kind_named, tells_out}
use Rattle.program_words.specs.Ports.{first_bad_port, port_named}
use Rattle.program_words.specs.Table.{app_named}

-- the words as texts
abbrev pub texts : List (String Global) → List Text
texts words = map string_bytes words

-- `clap` takes the words behind the command's name
unfoldable pub is_taken : CommandKind → List Text → Bool
is_taken k words = is_empty (fault_of (app_named k) words)

-- what `clap` finds in them: a row for each option and positional that is given
unfoldable pub rows_in : CommandKind → List Text → List Row
rows_in k words = matches_of (app_named k) words

-- the text of a positional that has to stand
abbrev pub text_in : Text → List Row → Text
text_in id rows = unwrap_or (first_of id rows) []

-- the number of an option or a positional, where it is given
abbrev pub number_in : Text → List Row → Option ℕ
number_in id rows = option_map (λ t. digits_value 10 (without_leading_plus t)) (one_of id rows)

-- the port words
abbrev pub port_words : List Row → List Text
port_words rows = unwrap_or (all_of (codes "ports") rows) []

-- the same of a number that may be negative
abbrev pub signed_in : Text → List Row → Option ℤ
signed_in id rows = option_map (signed_digits_value 10) (one_of id rows)

-- the harts that are asked for
abbrev pub harts_in : List Row → ℕ
harts_in rows = unwrap_or (number_in (codes "harts") rows) DEFAULT_HARTS

-- the budget that is asked for
abbrev pub budget_in : List Row → ℕ
budget_in rows = unwrap_or (number_in (codes "budget") rows) DEFAULT_BUDGET

-- the seed that is asked for
abbrev pub seed_in : List Row → ℕ
seed_in rows = unwrap_or (number_in (codes "seed") rows) DEFAULT_SEED

-- the ports that the port words name
abbrev pub ports_in : List Row → List PortName
ports_in rows = map port_named (port_words rows)

-- what the rows of a command ask for
abbrev pub command_in : CommandKind → List Row → Command
command_in kind.Run rows = command.Run (first_of (codes "points") rows)
    (harts_in rows) (budget_in rows) (first_of (codes "save") rows)
    (text_in (codes "program") rows) (length (port_words rows))
command_in kind.Alone rows = command.Alone (first_of (codes "points") rows)
    (harts_in rows) (budget_in rows) (seed_in rows) (first_of (codes "save") rows)
    (text_in (codes "program") rows) (length (port_words rows))
command_in kind.List rows = command.List (text_in (codes "program") rows)
command_in kind.Load rows = command.Load (unwrap_or (number_in (codes "number") rows) 0)
command_in kind.Audit rows = command.Audit (first_of (codes "points") rows)
    (text_in (codes "history") rows) (text_in (codes "program") rows)
    (text_in (codes "input") rows) (text_in (codes "out") rows) (text_in (codes "err") rows)
    (ports_in rows)
command_in kind.Try rows = command.Try (harts_in rows) (budget_in rows) (seed_in rows)
    (unwrap_or (signed_in (codes "returns") rows) DEFAULT_RETURNS)
    (text_in (codes "program") rows) (text_in (codes "input") rows)
command_in kind.Help rows = command.Help
command_in kind.Version rows = command.Version

-- the value, or the fault of the first bad port word
abbrev pub unless_bad_port : {T : Type 0} → T → Option ℕ → Result T WordFault
unless_bad_port value None = Ok value
unless_bad_port value (Some index) = Err (Port index)

-- the rows of a command, or the first rule that its words break
abbrev pub rows_or_fault : CommandKind → List Text → Result (CommandKind × List Row) WordFault
rows_or_fault k words = if is_taken k words
    then unless_bad_port (k, rows_in k words) (first_bad_port (port_words (rows_in k words)))
    else Err Line

abbrev pub reading_of_kind : Option CommandKind → List Text
    → Result (CommandKind × List Row) WordFault
reading_of_kind None words = Err UnknownCommand
reading_of_kind (Some k) words = rows_or_fault k words

-- the command's kind and its rows, or the first rule that the words break
abbrev pub reading_of : List Text → Result (CommandKind × List Row) WordFault
reading_of [] = Err NoCommand
reading_of (first ∷ words) = reading_of_kind (kind_named first) words

-- what the words ask for, or the first rule that they break
abbrev pub command_of : List Text → Result Command WordFault
command_of words = result_map_both (λ r. command_in r.0 r.1) (λ fault. fault) (reading_of words)

-- the first rule that the words break
abbrev pub first_word_fault : List Text → Option WordFault
first_word_fault words = result_err (reading_of words)

-- the ports that a command opens; those of an audit are files that it reads whole
abbrev pub opened_ports : CommandKind → List Row → List PortName
opened_ports kind.Run rows = ports_in rows
opened_ports kind.Alone rows = ports_in rows
opened_ports k rows = []

-- the ports that the words name to be opened, or the first rule that they break
abbrev pub ports_of : List Text → Result (List PortName) WordFault
ports_of words = result_map_both (λ r. opened_ports r.0 r.1) (λ fault. fault) (reading_of words)

-- the file of `--report`, where one is named, or the first rule that the words break
abbrev pub report_file_of : List Text → Result (Option Text) WordFault
report_file_of words =
    result_map_both (λ r. first_of (codes "report") r.1) (λ fault. fault) (reading_of words)

-- the command that the first word names
abbrev pub first_kind : List Text → Option CommandKind
first_kind [] = None
first_kind (first ∷ words) = kind_named first

-- what the words' command tells goes to the standard output
abbrev pub is_told_out : List Text → Bool
is_told_out words = option_map_or tells_out (first_kind words) false
