-- What is defined by the row of an inside, by its list.
use Rattle.std.proofs.Common.{◌≡◌, ℕ, ◌+◌, List, [], ◌++◌, length, refl, ap, sym, ◌∙◌}
use Rattle.guest_words.specs.declared.point.PointRef.{PointRef}
use Rattle.guest_words.specs.declared.fault.Fault.{Fault}
use Rattle.guest_words.specs.declared.point.Point.{Point}
use Rattle.guest_words.specs.Points.{code_of}
use Rattle.run_history.specs.declared.entry.Entry.{Entry, Ran, Entered, Called, Rescued', Ended, Row_of-Entry, end_of-Entry, more_of-Entry, items-the_row-Entry, items_shown-the_row-Entry-0, out-Entry}
use Rattle.run_history.specs.declared.entry.Entry.TheOpen.{Entry-F}
use Rattle.run_history.specs.declared.entry.Entry.TheViews as v
use Rattle.run_history.specs.declared.entry.Entry.TheVariants.{outs-Ran, outs-Entered, outs-Called, outs-Rescued', outs-Ended}
use Rattle.run_history.specs.Counts.{steps_of_row, steps_of_all, records_of_row, records_of_all}
use Rattle.run_history.proofs.Insides.{out-Rescued, steps_of_row-is, records_of_row-is}
use Rattle.rescue_report.specs.Lines.{rescue_line}
use Rattle.rescue_report.specs.Rescues.{rescues_of, rescues_of_row, rescues_of_all, rescue_lines, rescue_lines_of_row, rescue_lines_of_all, rescued_lines}

-- the number of rescued calls

rescues_of_row-is : (n : _) (row : Row_of-Entry n) → rescues_of_row row ≡ rescues_of_all (items-the_row-Entry n row)
unfolding rescues_of
rescues_of_row-is n end_of-Entry = refl
rescues_of_row-is n (more_of-Entry e rest) = ap (λ m. rescues_of e + m) (rescues_of_row-is _ rest)

abbrev rescues_at : Entry-F Entry → ℕ
rescues_at (Entry-F.Rescued h p f inside) = rescues_of_all inside + 1
rescues_at _ = 0

rescues_of-at : (e : Entry) → rescues_of e ≡ rescues_at (out-Entry e)
unfolding rescues_of
rescues_of-at (Ran h n) = sym (ap rescues_at (outs-Ran h n))
rescues_of-at (Entered h p) = sym (ap rescues_at (outs-Entered h p))
rescues_of-at (Called h r) = sym (ap rescues_at (outs-Called h r))
rescues_of-at (Rescued' h p f shape row) =
    ap (λ n. n + 1) (rescues_of_row-is _ row ∙ sym (ap rescues_of_all (items_shown-the_row-Entry-0 shape row)))
    ∙ sym (ap rescues_at (outs-Rescued' h p f shape row))
rescues_of-at (Ended x) = sym (ap rescues_at (outs-Ended x))

pub rescues_of-Rescued : (h : ℕ) (p : PointRef) (f : Fault) (xs : List Entry) → rescues_of (v.Rescued h p f xs) ≡ rescues_of_all xs + 1
rescues_of-Rescued h p f xs = rescues_of-at _ ∙ ap rescues_at (out-Rescued h p f xs)

-- the lines of the rescued calls

rescue_lines_of_row-is : (points : List Point) (n : _) (row : Row_of-Entry n) (depth : ℕ) → rescue_lines_of_row points row depth ≡ rescue_lines_of_all points (items-the_row-Entry n row) depth
unfolding rescue_lines
rescue_lines_of_row-is points n end_of-Entry depth = refl
rescue_lines_of_row-is points n (more_of-Entry e rest) depth = ap (λ text. rescue_lines points e depth ++ text) (rescue_lines_of_row-is points _ rest depth)

abbrev lines_at : List Point → ℕ → Entry-F Entry → List ℕ
lines_at points depth (Entry-F.Rescued h p f inside) = rescued_lines points h p f inside depth
lines_at points depth _ = []

-- the lines of a rescued call, by the row of its inside
rescued-row : (points : List Point) (n : _) (row : Row_of-Entry n) (h : ℕ) (p : PointRef) (f : Fault) (depth : ℕ)
    → (rescue_line depth h p f (steps_of_row row) (length (records_of_row row)) (code_of points p.entry f.name) ++ rescue_lines_of_row points row (depth + 1))
    ≡ rescued_lines points h p f (items-the_row-Entry n row) depth
rescued-row points n row h p f depth =
    let code = code_of points p.entry f.name in
    ap (λ steps. rescue_line depth h p f steps (length (records_of_row row)) code ++ rescue_lines_of_row points row (depth + 1)) (steps_of_row-is n row)
    ∙ ap (λ rs. rescue_line depth h p f (steps_of_all (items-the_row-Entry n row)) (length rs) code ++ rescue_lines_of_row points row (depth + 1)) (records_of_row-is n row)
    ∙ ap (λ text. rescue_line depth h p f (steps_of_all (items-the_row-Entry n row)) (length (records_of_all (items-the_row-Entry n row))) code ++ text) (rescue_lines_of_row-is points n row (depth + 1))

rescue_lines-at : (points : List Point) (e : Entry) (depth : ℕ) → rescue_lines points e depth ≡ lines_at points depth (out-Entry e)
unfolding rescue_lines
rescue_lines-at points (Ran h n) depth = sym (ap (lines_at points depth) (outs-Ran h n))
rescue_lines-at points (Entered h p) depth = sym (ap (lines_at points depth) (outs-Entered h p))
rescue_lines-at points (Called h r) depth = sym (ap (lines_at points depth) (outs-Called h r))
rescue_lines-at points (Rescued' h p f shape row) depth =
    rescued-row points _ row h p f depth
    ∙ ap (λ xs. rescued_lines points h p f xs depth) (sym (items_shown-the_row-Entry-0 shape row))
    ∙ sym (ap (lines_at points depth) (outs-Rescued' h p f shape row))
rescue_lines-at points (Ended x) depth = sym (ap (lines_at points depth) (outs-Ended x))

pub rescue_lines-Rescued : (points : List Point) (h : ℕ) (p : PointRef) (f : Fault) (xs : List Entry) (depth : ℕ) → rescue_lines points (v.Rescued h p f xs) depth ≡ rescued_lines points h p f xs depth
rescue_lines-Rescued points h p f xs depth = rescue_lines-at points _ depth ∙ ap (lines_at points depth) (out-Rescued h p f xs)
