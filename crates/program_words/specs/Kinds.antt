-- The commands by their first word.
use Rattle.std.specs.Prelude.{ℕ, ◌||◌, Bool, true, false, List, Option, Some, None, codes, if◌then◌else◌}
use Rattle.std.specs.Str.{bytes_eq}
use Rattle.program_words.specs.declared.command_kind.CommandKind.{CommandKind}
use Rattle.program_words.specs.declared.command_kind.CommandKind.TheVariants as kind

-- a word that asks for help
abbrev pub is_help : List ℕ → Bool
is_help word = bytes_eq word (codes "--help")
    || (bytes_eq word (codes "-h") || bytes_eq word (codes "help"))

-- the command that a word names
abbrev pub kind_named : List ℕ → Option CommandKind
kind_named word =
    if bytes_eq word (codes "run") then Some kind.Run
    else if bytes_eq word (codes "alone") then Some kind.Alone
    else if bytes_eq word (codes "list") then Some kind.List
    else if bytes_eq word (codes "load") then Some kind.Load
    else if bytes_eq word (codes "audit") then Some kind.Audit
    else if bytes_eq word (codes "try") then Some kind.Try
    else if is_help word then Some kind.Help
    else if bytes_eq word (codes "--version") then Some kind.Version
    else None

-- what the command tells is its own output; a run's is the guest's
abbrev pub tells_out : CommandKind → Bool
tells_out kind.Run = false
tells_out kind.Alone = false
tells_out k = true
