-- The lines behind that of a refusal, in ASCII: what was wrong, and what would be right.
use Rattle.std.specs.Prelude.{ℕ, List, [], ◌++◌, Option, codes, unwrap_or}
use Rattle.std.specs.Fmt.{decimal}
use Rattle.config_hints.specs.Shown.{quoted}
use Rattle.edge_ports.specs.Reasons.{reason_text}
use Rattle.edge_ports.specs.declared.reason.Reason.{Reason}
use Rattle.elf_hints.specs.Hints.{elf_hint, hint_line, sym_hint}
use Rattle.word_complaints.specs.Lines.{explanation_of}
use Rattle.rescue_run.specs.declared.outcome.Outcome.{Outcome}
use Rattle.rescue_run.specs.declared.outcome.Outcome.TheVariants.{Words, Shelf, TooLong, Elf, Symbols, Points}
use Rattle.rescue_run.specs.Lines.{line_of}
use Rattle.rescue_run.specs.Names.{name_for}
use Rattle.rescue_run.specs.Outcomes.{limit_of}

-- a file that wasn't read, and the system's reason
abbrev pub unread_hint : List ℕ → Reason → List ℕ
unread_hint name reason = hint_line (quoted name ++ (codes ": " ++ reason_text reason))

-- the length of a file, and the greatest one
abbrev pub sizes_text : ℕ → ℕ → List ℕ
sizes_text size limit =
    decimal size ++ (codes " bytes, and at most " ++ (decimal limit ++ codes " are read"))

-- a file that is too long, and these
abbrev pub long_hint : List ℕ → ℕ → ℕ → List ℕ
long_hint name size limit = hint_line (quoted name ++ (codes " has " ++ sizes_text size limit))

-- the lines for a refusal of these words, by those on the rescue file
abbrev pub hint_of : List (List ℕ) → Option (List ℕ) → Outcome → List ℕ
hint_of words lines (Words fault) = explanation_of words
hint_of words lines (Shelf which reason) = unread_hint (name_for words which) reason
hint_of words lines (TooLong which size) =
    long_hint (name_for words which) size (limit_of which)
hint_of words lines (Elf fault offset) = elf_hint fault
hint_of words lines (Symbols fault offset) = sym_hint fault
hint_of words lines (Points fault place) = unwrap_or lines []
hint_of words lines _ = []

-- its line, and these
abbrev pub refusal_text : List (List ℕ) → Option (List ℕ) → Outcome → List ℕ
refusal_text words lines outcome = line_of outcome ++ hint_of words lines outcome
