-- The lines of the report: words with a space between, and a line feed.
use Rattle.std.specs.Prelude.{ℕ, List, [], ◌∷◌, ◌++◌, codes}
use Rattle.std.specs.Fmt.{decimal}
use Rattle.guest_words.specs.Names.{fault_name}
use Rattle.guest_words.specs.declared.fault.Fault.{Fault as FaultAt}
use Rattle.guest_words.specs.declared.point.PointRef.{PointRef}
use Rattle.guest_words.specs.declared.point.Ret.{Ret}
use Rattle.guest_words.specs.declared.ending.Ending.{Ending}
use Rattle.guest_words.specs.declared.ending.Ending.TheVariants.{Exit, Fault, Stuck, Budget}
use Rattle.rescue_report.specs.Numbers.{hexadecimal, code_text}

-- the words, with a space between them and a line feed at the end
abbrev pub line : List (List ℕ) → List ℕ
line [] = 10 ∷ []
line (word ∷ []) = word ++ 10 ∷ []
line (word ∷ next ∷ words) = word ++ 32 ∷ line (next ∷ words)

-- the line of a number with its name
abbrev pub count_line : List ℕ → ℕ → List ℕ
count_line name number = line (name ∷ decimal number ∷ [])

-- the line of a rescued call: how many rescued calls it lies in; hart, point and fault; the steps
-- and records of its inside, which stay; and what it returned
abbrev pub rescue_line : ℕ → ℕ → PointRef → FaultAt → ℕ → ℕ → Ret → List ℕ
rescue_line depth hart point fault steps records code = line
    (codes "rescue"
    ∷ codes "depth" ∷ decimal depth
    ∷ codes "hart" ∷ decimal hart
    ∷ codes "point" ∷ hexadecimal point.entry
    ∷ codes "fault" ∷ fault_name fault.name
    ∷ codes "pc" ∷ hexadecimal fault.pc
    ∷ codes "steps" ∷ decimal steps
    ∷ codes "records" ∷ decimal records
    ∷ codes "code" ∷ code_text code
    ∷ [])

-- the line of a point to which no rescue is left
abbrev pub spent_line : ℕ → List ℕ
spent_line entry = line (codes "spent" ∷ codes "point" ∷ hexadecimal entry ∷ [])

-- the words of an ending
abbrev pub ending_words : Ending → List (List ℕ)
ending_words (Exit hart code) = codes "exit" ∷ decimal code ∷ []
ending_words (Fault hart fault) =
    codes "fault" ∷ fault_name fault.name
    ∷ codes "hart" ∷ decimal hart
    ∷ codes "pc" ∷ hexadecimal fault.pc
    ∷ []
ending_words Stuck = codes "stuck" ∷ []
ending_words Budget = codes "budget" ∷ []

-- the last line
abbrev pub end_line : Ending → List ℕ
end_line ending = line (codes "end" ∷ ending_words ending)
