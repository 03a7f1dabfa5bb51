-- The lowest list of some calls, and the notes of one of them, by the levels in their order.
use Rattle.std.proofs.Common.{◌≡◌, ◌≢◌, ℕ, zero, suc, ◌≤◌, Bool, true, false, ◌==◌, if◌then◌else◌, List, [], ◌∷◌, ◌++◌, drop, length, take, Option, Some, None, refl, ap, sym, ◌∙◌, slice_get, arith}
use Rattle.std.proofs.lemmas.Bool.Decides.{nat_tests}
use Rattle.undo_log.specs.declared.note.Note.{Note}
use Rattle.run_history.specs.declared.entry.Entry.{Entry}
use Rattle.run_history.specs.HistoryView.{HistoryView}
use Rattle.open_calls.specs.declared.outer.Outer.{Outer}
use Rattle.open_calls.specs.Nest.{lowest, lowest_from, notes_from, notes_in, notes_upto}
use Rattle.open_calls.specs.Rooms.{level_of, levels, nest_of, turned}
use Rattle.open_calls.proofs.Filling.{length-levels, length-turned, turned-push}

-- the lowest list

abbrev pub lowest_by : HistoryView → Option Outer → List Entry
lowest_by top None = top.entries
lowest_by top (Some o) = o.entries.entries

lowest_last : (os : List Outer) (o : Outer) (es : List Entry) → lowest_from (levels (os ++ o ∷ [])) es ≡ o.entries.entries
lowest_last [] o es = refl
lowest_last (p ∷ os) o es = lowest_last os o p.entries.entries

pub lowest_first : (top : HistoryView) (os : List Outer) → lowest (nest_of top os) ≡ lowest_by top (slice_get os 0)
lowest_first top [] = refl
lowest_first top (o ∷ os) = lowest_last (turned os) o top.entries

-- the notes of a call

turned-turned : (os : List Outer) → turned (turned os) ≡ os
turned-turned [] = refl
turned-turned (o ∷ os) = turned-push (turned os) o ∙ ap (λ ps. o ∷ ps) (turned-turned os)

-- they end at the mark of the next call
abbrev pub end_by : Option Outer → ℕ → ℕ
end_by None all = all
end_by (Some p) all = p.mark

end_push : (xs : List Outer) (x : Outer) (k all : ℕ) → k ≤ length xs → end_by (slice_get (xs ++ x ∷ []) k) all ≡ end_by (slice_get xs k) x.mark
end_push [] x zero all within = refl
end_push [] x (suc k) all within = absurd (omega (arith, within))
end_push (y ∷ ys) x zero all within = refl
end_push (y ∷ ys) x (suc k) all within = end_push ys x k all (omega (arith, within))

end_past : (xs : List Outer) (x : Outer) (k all : ℕ) → k ≡ length xs → end_by (slice_get (xs ++ x ∷ []) (suc k)) all ≡ all
end_past [] x zero all is = refl
end_past [] x (suc k) all is = absurd (omega (arith, is))
end_past (y ∷ ys) x zero all is = absurd (omega (arith, is))
end_past (y ∷ ys) x (suc k) all is = end_past ys x k all (omega (arith, is))

-- with no next call they are all
pub end_none : (os : List Outer) (k all : ℕ) → length os ≤ k → end_by (slice_get os k) all ≡ all
end_none [] k all past = refl
end_none (o ∷ os) zero all past = absurd (omega (arith, past))
end_none (o ∷ os) (suc k) all past = end_none os k all (omega (arith, past))

got_last : (xs : List Outer) (x o : Outer) (k : ℕ) → k ≡ length xs → slice_get (xs ++ x ∷ []) k ≡ Some o → x ≡ o
got_last [] x o zero is got = cc
got_last [] x o (suc k) is got = absurd (omega (arith, is))
got_last (y ∷ ys) x o zero is got = absurd (omega (arith, is))
got_last (y ∷ ys) x o (suc k) is got = got_last ys x o k (omega (arith, is)) got

got_front : (xs : List Outer) (x o : Outer) (k : ℕ) → k ≢ length xs → slice_get (xs ++ x ∷ []) k ≡ Some o → (k ≤ length xs) × (slice_get xs k ≡ Some o)
got_front [] x o zero other got = absurd (other refl)
got_front [] x o (suc k) other got = cc
got_front (y ∷ ys) x o zero other got = (omega arith, got)
got_front (y ∷ ys) x o (suc k) other got =
    let front = got_front ys x o k (λ e. other (ap suc e)) got in
    let few = front.0 in
    (omega (arith, few), front.1)

pub notes_at : (top : HistoryView) (os : List Outer) (frame : ℕ) (ns : List Note) (o : Outer) → slice_get os frame ≡ Some o
    → notes_in frame ns (nest_of top os) ≡ drop o.mark (take (end_by (slice_get os (suc frame)) (length ns)) ns)
notes_at top os frame ns o is =
    by (turned os) (length ns) (ap (λ ps. slice_get ps frame) (turned-turned os) ∙ is)
    ∙ ap (λ ps. drop o.mark (take (end_by (slice_get ps (suc frame)) (length ns)) ns)) (turned-turned os)
  where
    by : (ts : List Outer) (end : ℕ) → slice_get (turned ts) frame ≡ Some o → notes_from frame (levels ts) end ns ≡ drop o.mark (take (end_by (slice_get (turned ts) (suc frame)) end) ns)
    by [] end is = cc
    by (t ∷ ts) end is = at (frame == length (levels ts)) refl (by ts t.mark)
      where
        l : length (levels ts) ≡ length (turned ts)
        l = length-levels ts ∙ sym (length-turned ts)

        at : (b : Bool) → (frame == length (levels ts)) ≡ b
            → (slice_get (turned ts) frame ≡ Some o → notes_from frame (levels ts) t.mark ns ≡ drop o.mark (take (end_by (slice_get (turned ts) (suc frame)) t.mark) ns))
            → (if b then notes_upto end (level_of t) ns else notes_from frame (levels ts) t.mark ns) ≡ drop o.mark (take (end_by (slice_get (turned ts ++ t ∷ []) (suc frame)) end) ns)
        at true e further =
            let last : frame ≡ length (turned ts) = let same : frame ≡ length (levels ts) = grind (arith, nat_tests, e) in same ∙ l in
            λ i. drop (got_last (turned ts) t o frame last is i).mark (take (sym (end_past (turned ts) t frame end last) i) ns)
        at false e further =
            let other : frame ≢ length (turned ts) = λ same. let same_levels : (frame == length (levels ts)) ≡ true = grind (arith, nat_tests, same, l) in cc in
            let front = got_front (turned ts) t o frame other is in
            let few = front.0 in
            let within : suc frame ≤ length (turned ts) = grind (arith, few, other) in
            further front.1 ∙ ap (λ n. drop o.mark (take n ns)) (sym (end_push (turned ts) t (suc frame) end within))
