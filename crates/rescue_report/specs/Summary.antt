-- The summary of the run of a load: what went in, what came out, the sums of the history, and how
-- it ended.
use Rattle.std.specs.Prelude.{ℕ, ◌==◌, List, [], ◌∷◌, ◌++◌, length, codes, if◌then◌else◌}
use Rattle.guest_words.specs.ElfFields.{number as number_at}
use Rattle.guest_words.specs.declared.ending.Ending.{Ending}
use Rattle.run_history.specs.declared.entry.Entry.{Entry}
use Rattle.run_history.specs.Counts.{steps_of_all, records_of_all}
use Rattle.rescue_report.specs.Lines.{line, count_line, end_line}
use Rattle.rescue_report.specs.Rescues.{rescues_of_all}

-- the line of the sum: the 8 bytes that were written, the least significant first, as a number, and
-- `none` where other than 8 were
abbrev pub sum_line : List ℕ → List ℕ
sum_line out =
    if length out == 8
    then count_line (codes "sum") (number_at 8 0 out)
    else line (codes "sum" ∷ codes "none" ∷ [])

-- the text of the summary, by the number of the load, the length of its input, and its output
abbrev pub summary_of : ℕ → ℕ → List ℕ → List Entry → Ending → List ℕ
summary_of number bytes out entries ending =
    count_line (codes "load") number
    ++ count_line (codes "bytes") bytes
    ++ sum_line out
    ++ count_line (codes "steps") (steps_of_all entries)
    ++ count_line (codes "records") (length (records_of_all entries))
    ++ count_line (codes "rescues") (rescues_of_all entries)
    ++ end_line ending
