-- What each command takes behind its name, as simple commands of `clap`.
use Rattle.std.specs.Prelude.{ℕ, ◌^◌, ◌-◌, ◌++◌, pos, negsuc, true, List, [], ◌∷◌, Some, codes}
use Rattle.clap.specs.Lexer.{usize_max}
use Rattle.clap.specs.Words.{App, Rule, Text, new_rule}
use Rattle.clap.specs.Simple.{new_shape}
use Rattle.clap.specs.declared.builder.action.ArgAction.TheVariants.{Set}
use Rattle.clap.specs.declared.builder.value_parser.ValueParser.TheVariants.{Signed, Unsigned}
use Rattle.guest_words.specs.declared.limits.TheConstants.{BUDGET, HARTS}
use Rattle.program_words.specs.declared.command_kind.CommandKind.{CommandKind}
use Rattle.program_words.specs.declared.command_kind.CommandKind.TheVariants as kind
use Rattle.program_words.specs.declared.limits.TheConstants.{LOADS}

-- `--name TEXT`
abbrev pub option_rule : Text → Rule
option_rule name = record (new_rule name) { long = Some name }

-- `--name N`, a number of the range
abbrev pub number_rule : Text → ℕ → ℕ → Rule
number_rule name least most =
    record (option_rule name) { parser = Some (Unsigned least most) }

-- a word that has to stand
abbrev pub required_rule : Text → Rule
required_rule name = record (new_rule name) { action = Some Set; required = true }

-- any number of words
abbrev pub words_rule : Text → Rule
words_rule name = record (new_rule name) {
  range = Some (record { start_inclusive = 0; end_inclusive = usize_max });
}

-- a command without help and version flags, which is read from the words behind its name
abbrev pub simple_app : Text → List Rule → App
simple_app name rules = record {
  top = record (new_shape name) {
    rules = rules;
    no_binary_name = true;
    disable_help_flag = true;
    disable_version_flag = true;
  };
  subs = [];
}

-- the harts and the budget of a run
abbrev pub limit_options : List Rule
limit_options = number_rule (codes "harts") 1 HARTS ∷ number_rule (codes "budget") 1 BUDGET ∷ []

-- where the history goes, and where the report goes
abbrev pub result_options : List Rule
result_options = option_rule (codes "save") ∷ option_rule (codes "report") ∷ []

-- the options of a run
abbrev pub run_options : List Rule
run_options = option_rule (codes "points") ∷ limit_options ++ result_options

-- a program, and any number of port words
abbrev pub program_and_ports : List Rule
program_and_ports = required_rule (codes "program") ∷ words_rule (codes "ports") ∷ []

-- a program, and what it reads
abbrev pub program_and_input : List Rule
program_and_input = required_rule (codes "program") ∷ required_rule (codes "input") ∷ []

-- what a program wrote to descriptors 1 and 2
abbrev pub outputs : List Rule
outputs = required_rule (codes "out") ∷ required_rule (codes "err") ∷ []

-- a history, a program, the files of its devices, and any number of port words
abbrev pub audit_files : List Rule
audit_files = required_rule (codes "history") ∷ program_and_input ++ outputs
    ++ words_rule (codes "ports") ∷ []

-- the number of a load
abbrev pub load_rule : Rule
load_rule = record (required_rule (codes "number")) { parser = Some (Unsigned 1 LOADS) }

-- a seed
abbrev pub seed_rule : Rule
seed_rule = number_rule (codes "seed") 0 (2 ^ 64 - 1)

-- what a call that is taken back returns: a number of `i64`
abbrev pub returns_rule : Rule
returns_rule = record (option_rule (codes "returns")) {
  parser = Some (Signed (negsuc (2 ^ 63 - 1)) (pos (2 ^ 63 - 1)));
}

-- the options of a trial
abbrev pub trial_options : List Rule
trial_options = limit_options ++ seed_rule ∷ returns_rule ∷ []

-- the options and the words of each command
abbrev pub app_named : CommandKind → App
app_named kind.Run = simple_app (codes "run") (run_options ++ program_and_ports)
app_named kind.Alone = simple_app (codes "alone") (run_options ++ seed_rule ∷ program_and_ports)
app_named kind.List = simple_app (codes "list") (required_rule (codes "program") ∷ [])
app_named kind.Load = simple_app (codes "load") (load_rule ∷ [])
app_named kind.Audit = simple_app (codes "audit") (option_rule (codes "points")
    ∷ option_rule (codes "report") ∷ audit_files)
app_named kind.Try = simple_app (codes "try")
    (trial_options ++ option_rule (codes "report") ∷ program_and_input)
app_named kind.Help = simple_app (codes "help") (words_rule (codes "words") ∷ [])
app_named kind.Version = simple_app (codes "version") (words_rule (codes "words") ∷ [])
