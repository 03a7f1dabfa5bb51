-- Numbers as the report prints them, in ASCII.
use Rattle.std.specs.Prelude.{ℕ, ◌-◌, List, ◌++◌, false, length, codes, replicate}
use Rattle.std.specs.Fmt.{digits, signed_decimal}
use Rattle.guest_words.specs.declared.point.Ret.{Ret}
use Rattle.guest_words.specs.declared.point.Ret.TheVariants.{Code, Void}
use Rattle.guest_words.specs.Word.{signed}

-- hexadecimal digits, in lower case, with zeros before them up to 16
abbrev pub hexadecimal : ℕ → List ℕ
hexadecimal n = replicate (16 - length (digits 16 false n)) 48 ++ digits 16 false n

-- what a rescued call returned, as a signed number
abbrev pub code_text : Ret → List ℕ
code_text (Code word) = signed_decimal (signed word)
code_text Void = codes "void"
