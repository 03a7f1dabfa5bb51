-- Rans that stand apart in a rescued call, by the list of its inside.
use Rattle.std.proofs.Common.{◌≡◌, ℕ, Bool, true, false, not, ◌&&◌, List, refl, ap, sym, ◌∙◌}
use Rattle.guest_words.specs.declared.point.PointRef.{PointRef}
use Rattle.guest_words.specs.declared.fault.Fault.{Fault}
use Rattle.run_history.specs.declared.entry.Entry.{Entry, Ran, Entered, Called, Rescued', Ended, Row_of-Entry, end_of-Entry, more_of-Entry, items-the_row-Entry, items_shown-the_row-Entry-0, out-Entry}
use Rattle.run_history.specs.declared.entry.Entry.TheOpen.{Entry-F}
use Rattle.run_history.specs.declared.entry.Entry.TheViews as v
use Rattle.run_history.specs.declared.entry.Entry.TheVariants.{outs-Ran, outs-Entered, outs-Called, outs-Rescued', outs-Ended}
use Rattle.run_history.proofs.Insides.{out-Rescued}
use Rattle.lone_schedule.specs.Insides.{is_ran, is_apart, is_apart_row, are_apart}

apart_row-is : (n : _) (ran : Bool) (row : Row_of-Entry n) → is_apart_row ran row ≡ are_apart ran (items-the_row-Entry n row)
unfolding is_apart
apart_row-is n ran end_of-Entry = refl
apart_row-is n ran (more_of-Entry e rest) = ap (λ b. not (ran && is_ran e) && is_apart e && b) (apart_row-is _ (is_ran e) rest)

abbrev apart_at : Entry-F Entry → Bool
apart_at (Entry-F.Rescued h p f inside) = are_apart false inside
apart_at _ = true

apart-at : (e : Entry) → is_apart e ≡ apart_at (out-Entry e)
unfolding is_apart
apart-at (Ran h n) = sym (ap apart_at (outs-Ran h n))
apart-at (Entered h p) = sym (ap apart_at (outs-Entered h p))
apart-at (Called h r) = sym (ap apart_at (outs-Called h r))
apart-at (Rescued' h p f shape row) = apart_row-is _ false row ∙ sym (ap (are_apart false) (items_shown-the_row-Entry-0 shape row)) ∙ sym (ap apart_at (outs-Rescued' h p f shape row))
apart-at (Ended x) = sym (ap apart_at (outs-Ended x))

pub apart-Rescued : (h : ℕ) (p : PointRef) (f : Fault) (xs : List Entry) → is_apart (v.Rescued h p f xs) ≡ are_apart false xs
apart-Rescued h p f xs = apart-at _ ∙ ap apart_at (out-Rescued h p f xs)

abbrev ran_at : Entry-F Entry → Bool
ran_at (Entry-F.Ran h n) = true
ran_at _ = false

ran-at : (e : Entry) → is_ran e ≡ ran_at (out-Entry e)
ran-at (Ran h n) = sym (ap ran_at (outs-Ran h n))
ran-at (Entered h p) = sym (ap ran_at (outs-Entered h p))
ran-at (Called h r) = sym (ap ran_at (outs-Called h r))
ran-at (Rescued' h p f shape row) = sym (ap ran_at (outs-Rescued' h p f shape row))
ran-at (Ended x) = sym (ap ran_at (outs-Ended x))

pub ran-Rescued : (h : ℕ) (p : PointRef) (f : Fault) (xs : List Entry) → is_ran (v.Rescued h p f xs) ≡ false
ran-Rescued h p f xs = ran-at _ ∙ ap ran_at (out-Rescued h p f xs)
