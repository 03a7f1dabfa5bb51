-- The report on a run: the sums of its history, its rescued calls, the points that are spent, and
-- how it ended.
use Rattle.std.specs.Prelude.{ℕ, List, [], ◌∷◌, ◌++◌, length, codes}
use Rattle.std.specs.List.{filter, flat_map}
use Rattle.guest_words.specs.declared.ending.Ending.{Ending}
use Rattle.guest_words.specs.declared.point.Point.{Point}
use Rattle.guest_words.specs.Points.{is_spent}
use Rattle.run_history.specs.declared.entry.Entry.{Entry}
use Rattle.run_history.specs.Counts.{steps_of_all, records_of_all}
use Rattle.rescue_report.specs.Lines.{line, count_line, spent_line, end_line}
use Rattle.rescue_report.specs.Rescues.{rescues_of_all, rescue_lines_of_all}

-- the points to which no rescue is left, in the order of the file
abbrev pub spent_lines : List Point → List ℕ
spent_lines points = flat_map (λ p. spent_line p.entry) (filter (λ p. is_spent p.left) points)

-- the text of the report, by the points of the last state: sums go over all depths, and rescued
-- calls begin at depth 0
abbrev pub report_of : List Entry → List Point → Ending → List ℕ
report_of entries points ending =
    line (codes "rescue-report" ∷ codes "1" ∷ [])
    ++ count_line (codes "steps") (steps_of_all entries)
    ++ count_line (codes "records") (length (records_of_all entries))
    ++ count_line (codes "rescues") (rescues_of_all entries)
    ++ rescue_lines_of_all points entries 0
    ++ spent_lines points
    ++ end_line ending
