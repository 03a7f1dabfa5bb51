-- The names of the files of a command, by which of them it is.
use Rattle.std.specs.Prelude.{ℕ, ◌-◌, ◌/◌, ◌%◌, ◌==◌, Bool, List, [], Option, Some, None, slice_get, unwrap_or, Result, Ok, Err, if◌then◌else◌}
use Rattle.program_words.specs.Words.{command_of}
use Rattle.program_words.specs.declared.command.Command.{Command}
use Rattle.program_words.specs.declared.command.Command.TheVariants as command
use Rattle.program_words.specs.declared.port_name.PortName.{PortName}
use Rattle.program_words.specs.declared.word_fault.WordFault.{WordFault}
use Rattle.rescue_run.specs.declared.outcome.Which.{Which}
use Rattle.rescue_run.specs.declared.outcome.Which.TheVariants as which

-- the program's; empty where the command has none
abbrev pub program_name : Command → List ℕ
program_name (command.Run points harts budget save program ports) = program
program_name (command.Alone points harts budget seed save program ports) = program
program_name (command.List program) = program
program_name (command.Audit points history program input out err ports) = program
program_name (command.Try harts budget seed returns program input) = program
program_name _ = []

-- the rescue file's
abbrev pub points_name : Command → List ℕ
points_name (command.Run points harts budget save program ports) = unwrap_or points []
points_name (command.Alone points harts budget seed save program ports) = unwrap_or points []
points_name (command.Audit points history program input out err ports) = unwrap_or points []
points_name _ = []

-- the history file's
abbrev pub history_name : Command → List ℕ
history_name (command.Audit points history program input out err ports) = history
history_name _ = []

-- of a port its input, or its output
abbrev pub port_side : Bool → Option PortName → List ℕ
port_side first None = []
port_side first (Some port) = if first then port.input else port.output

-- the one at this place among the files of ports: of each its input, and then its output
abbrev pub port_file : List PortName → ℕ → List ℕ
port_file ports number = port_side (number % 2 == 0) (slice_get ports (number / 2))

-- the name at this place among the files of the devices
abbrev pub audit_name : List ℕ → List ℕ → List ℕ → List PortName → ℕ → List ℕ
audit_name input out err ports number =
    if number == 0 then input
    else if number == 1 then out
    else if number == 2 then err
    else port_file ports (number - 3)

abbrev pub device_name : Command → ℕ → List ℕ
device_name (command.Audit points history program input out err ports) number =
    audit_name input out err ports number
device_name (command.Try harts budget seed returns program input) number = input
device_name _ number = []

abbrev pub name_of : Command → Which → List ℕ
name_of c which.Program = program_name c
name_of c which.Points = points_name c
name_of c which.History = history_name c
name_of c (which.Device number) = device_name c number

-- the same by the words of the command
abbrev pub name_read : Result Command WordFault → Which → List ℕ
name_read (Ok c) w = name_of c w
name_read (Err fault) w = []

abbrev pub name_for : List (List ℕ) → Which → List ℕ
name_for words w = name_read (command_of words) w
