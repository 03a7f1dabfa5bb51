-- The options of the commands, what each wants, and those that were met.
use Rattle.std.specs.Prelude.{ℕ, ℤ, ◌^◌, ◌-◌, ◌++◌, ◌||◌, pos, negsuc, Bool, true, false, not, List, Option, Some, None, codes, if◌then◌else◌}
use Rattle.std.specs.Fmt.{decimal}
use Rattle.std.specs.Str.{bytes_eq}
use Rattle.clap.specs.ValueTests.{is_signed_in, is_unsigned_in}
use Rattle.clap.specs.Words.{Text}
use Rattle.guest_words.specs.declared.limits.TheConstants.{BUDGET, HARTS}
use Rattle.program_words.specs.declared.command_kind.CommandKind.{CommandKind}
use Rattle.program_words.specs.declared.command_kind.CommandKind.TheVariants as kind
use Rattle.word_complaints.specs.declared.given.Given.{Given}
use Rattle.word_complaints.specs.declared.option_name.OptionName.{OptionName}
use Rattle.word_complaints.specs.declared.option_name.OptionName.TheVariants as option
use Rattle.word_complaints.specs.declared.wanted.Wanted.{Wanted}
use Rattle.word_complaints.specs.declared.wanted.Wanted.TheVariants.{File, Number, Signed}

-- an option as it is written
abbrev pub option_text : OptionName → Text
option_text option.Points = codes "--points"
option_text option.Harts = codes "--harts"
option_text option.Budget = codes "--budget"
option_text option.Seed = codes "--seed"
option_text option.Returns = codes "--returns"
option_text option.Save = codes "--save"
option_text option.Report = codes "--report"

-- the option that is written so
abbrev pub option_named : Text → Option OptionName
option_named text =
    if bytes_eq text (codes "--points") then Some option.Points
    else if bytes_eq text (codes "--harts") then Some option.Harts
    else if bytes_eq text (codes "--budget") then Some option.Budget
    else if bytes_eq text (codes "--seed") then Some option.Seed
    else if bytes_eq text (codes "--returns") then Some option.Returns
    else if bytes_eq text (codes "--save") then Some option.Save
    else if bytes_eq text (codes "--report") then Some option.Report
    else None

-- the command has the option
abbrev pub takes : CommandKind → OptionName → Bool
takes kind.Run option.Seed = false
takes kind.Run option.Returns = false
takes kind.Run o = true
takes kind.Alone option.Returns = false
takes kind.Alone o = true
takes kind.Audit option.Points = true
takes kind.Audit option.Report = true
takes kind.Audit o = false
takes kind.Try option.Points = false
takes kind.Try option.Save = false
takes kind.Try o = true
takes k o = false

abbrev pub if_taken : CommandKind → Option OptionName → Option OptionName
if_taken k (Some o) = if takes k o then Some o else None
if_taken k None = None

-- the command's option that is written so
abbrev pub option_in : CommandKind → Text → Option OptionName
option_in k text = if_taken k (option_named text)

-- what an option wants for a value
abbrev pub wanted_by : OptionName → Wanted
wanted_by option.Points = File
wanted_by option.Harts = Number 1 HARTS
wanted_by option.Budget = Number 1 BUDGET
wanted_by option.Seed = Number 0 (2 ^ 64 - 1)
wanted_by option.Returns = Signed
wanted_by option.Save = File
wanted_by option.Report = File

-- the text is such a value, as `clap` reads numbers
abbrev pub fits : Wanted → Text → Bool
fits File text = true
fits (Number least most) text = is_unsigned_in least most text
fits Signed text = is_signed_in (negsuc (2 ^ 63 - 1)) (pos (2 ^ 63 - 1)) text

-- what is wanted, in words
abbrev pub wanted_text : Wanted → Text
wanted_text File = codes "a file's name"
wanted_text (Number least most) =
    codes "a number from " ++ (decimal least ++ (codes " to " ++ decimal most))
wanted_text Signed = codes "a number from -9223372036854775808 to 9223372036854775807"

-- the option was met
abbrev pub is_given : Given → OptionName → Bool
is_given given option.Points = given.points
is_given given option.Harts = given.harts
is_given given option.Budget = given.budget
is_given given option.Seed = given.seed
is_given given option.Returns = given.returns
is_given given option.Save = given.save
is_given given option.Report = given.report

-- the same options and one more
abbrev pub with_given : Given → OptionName → Given
with_given given option.Points = record given { points = true }
with_given given option.Harts = record given { harts = true }
with_given given option.Budget = record given { budget = true }
with_given given option.Seed = record given { seed = true }
with_given given option.Returns = record given { returns = true }
with_given given option.Save = record given { save = true }
with_given given option.Report = record given { report = true }
