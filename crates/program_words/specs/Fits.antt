-- What holds of the rows of a command whose words `clap` takes.
use Rattle.std.specs.Prelude.{◌≡◌, ◌<◌, ◌^◌, ◌-◌, ℕ, ⊤, List, IfSome, FitsSigned, true, is_some, codes}
use Rattle.std.specs.Int.{w64}
use Rattle.std.specs.Str.Parse.{IsNumeral, digits_value, signed_digits_value, without_leading_plus, without_leading_sign}
use Rattle.clap.specs.Words.{IsUnsignedIn, Row, Text, first_of, one_of}
use Rattle.guest_words.specs.declared.limits.TheConstants.{BUDGET, HARTS}
use Rattle.program_words.specs.declared.command_kind.CommandKind.{CommandKind}
use Rattle.program_words.specs.declared.command_kind.CommandKind.TheVariants as kind
use Rattle.program_words.specs.declared.limits.TheConstants.{LOADS}

-- the text is given
abbrev pub HasText : Text → List Row → Type 0
HasText id rows = is_some (first_of id rows) ≡ true

-- the number, where it is given, is in the range
abbrev pub HasNumberIn : Text → ℕ → ℕ → List Row → Type 0
HasNumberIn id least most rows = IfSome (one_of id rows) (IsUnsignedIn least most)

-- the text is a number that a `u64` can hold
abbrev pub IsNumber : Text → Type 0
IsNumber text = IsNumeral 10 (without_leading_plus text)
    × (digits_value 10 (without_leading_plus text) < 2 ^ 64)

-- the text is a number that an `i64` can hold
abbrev pub IsSignedNumber : Text → Type 0
IsSignedNumber text = IsNumeral 10 (without_leading_sign text)
    × FitsSigned w64 (signed_digits_value 10 text)

-- harts and budget are in their ranges
abbrev pub FitLimits : List Row → Type 0
FitLimits rows =
    HasNumberIn (codes "harts") 1 HARTS rows × HasNumberIn (codes "budget") 1 BUDGET rows

-- a seed is in its range
abbrev pub FitSeed : List Row → Type 0
FitSeed rows = HasNumberIn (codes "seed") 0 (2 ^ 64 - 1) rows

-- the files of an audit are given
abbrev pub FitAudit : List Row → Type 0
FitAudit rows = HasText (codes "history") rows × HasText (codes "program") rows
    × HasText (codes "input") rows × HasText (codes "out") rows × HasText (codes "err") rows

-- a program and its input are given, and the numbers are in their ranges
abbrev pub FitTry : List Row → Type 0
FitTry rows = HasText (codes "program") rows × HasText (codes "input") rows × FitLimits rows
    × FitSeed rows × IfSome (one_of (codes "returns") rows) IsSignedNumber

abbrev pub Fit : CommandKind → List Row → Type 0
Fit kind.Run rows = HasText (codes "program") rows × FitLimits rows
Fit kind.Alone rows = HasText (codes "program") rows × FitLimits rows × FitSeed rows
Fit kind.List rows = HasText (codes "program") rows
Fit kind.Load rows = HasText (codes "number") rows × HasNumberIn (codes "number") 1 LOADS rows
Fit kind.Audit rows = FitAudit rows
Fit kind.Try rows = FitTry rows
Fit kind.Help rows = ⊤
Fit kind.Version rows = ⊤
