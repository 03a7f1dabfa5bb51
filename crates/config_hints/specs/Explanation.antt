-- What a broken rescue file is told: a line on what is wrong, and one on what would be right.
use Rattle.std.specs.Prelude.{ℕ, List, [], ◌++◌, Option, Result, Ok, Err, codes}
use Rattle.guest_words.specs.declared.image.Span.{Span}
use Rattle.guest_words.specs.declared.point.Point.{Point}
use Rattle.elf_symbols.specs.declared.symbol.Symbol.{Symbol}
use Rattle.rescue_config.specs.declared.point_fault.PointFault.{PointFault}
use Rattle.rescue_config.specs.Document.{Broken, points_of}
use Rattle.rescue_config.specs.Version.{version_of}
use Rattle.config_hints.specs.Right.{right_of}
use Rattle.config_hints.specs.Tables.{file_of, table_at}
use Rattle.config_hints.specs.Wrong.{wrong_of}

-- a line behind two spaces
abbrev pub hint_line : List ℕ → List ℕ
hint_line words = codes "  " ++ words ++ codes "\n"

-- the lines on the rule that the bytes of a file break, by the executable ranges of the program
abbrev pub fault_explanation_of : List ℕ → List Span → PointFault → Option ℕ → List ℕ
fault_explanation_of bytes text fault place =
    let file = file_of bytes in
    hint_line (wrong_of (version_of file) (table_at place file) place fault)
    ++ hint_line (right_of text place fault)

-- nothing on a file that keeps the rules
abbrev pub explanation_or : List ℕ → List Span → Result (List Point) Broken → List ℕ
explanation_or bytes text (Ok points) = []
explanation_or bytes text (Err broken) = fault_explanation_of bytes text broken.0 broken.1

abbrev pub explanation_of : List ℕ → List Symbol → List Span → List ℕ
explanation_of bytes symbols text = explanation_or bytes text (points_of bytes symbols text)
