-- A rescued call, by the row of its inside and by its list.
use Rattle.std.proofs.Common.{◌≡◌, ℕ, List, ap, sym, subst, ◌∙◌}
use Rattle.guest_words.specs.declared.point.PointRef.{PointRef}
use Rattle.guest_words.specs.declared.fault.Fault.{Fault}
use Rattle.run_history.specs.declared.entry.Entry.{Entry, Ran, Entered, Called, Rescued', Ended, items-the_row-Entry, items_shown-the_row-Entry-0, out-Entry, roll-Entry, roll-out-Entry}
use Rattle.run_history.specs.declared.entry.Entry.TheOpen.{Entry-F}
use Rattle.run_history.specs.declared.entry.Entry.TheViews as v
use Rattle.run_history.specs.declared.entry.Entry.TheVariants.{outs-Ran, outs-Entered, outs-Called, outs-Rescued', outs-Ended, rolls-Rescued}
use Rattle.run_history.proofs.Insides.{out-Rescued}

-- the rescued call with the list of a row is that with the row
pub rescued-is : (h : ℕ) (p : PointRef) (f : Fault) (shape : _) (row : _) → v.Rescued h p f (items-the_row-Entry _ row) ≡ Rescued' h p f shape row
rescued-is h p f shape row =
    ap (v.Rescued h p f) (sym (items_shown-the_row-Entry-0 shape row))
    ∙ sym (rolls-Rescued h p f _)
    ∙ ap roll-Entry (sym (outs-Rescued' h p f shape row))
    ∙ roll-out-Entry (Rescued' h p f shape row)

opened_by : (Q : Entry → Type 0) (h : ℕ) (p : PointRef) (f : Fault) (xs : List Entry) (e : Entry) → out-Entry e ≡ Entry-F.Rescued h p f xs
    → ((shape : _) (row : _) → items-the_row-Entry _ row ≡ xs → Q (Rescued' h p f shape row)) → Q e
opened_by Q h p f xs (Ran a n) o k = let no = sym (outs-Ran a n) ∙ o in absurd cc
opened_by Q h p f xs (Entered a q) o k = let no = sym (outs-Entered a q) ∙ o in absurd cc
opened_by Q h p f xs (Called a r) o k = let no = sym (outs-Called a r) ∙ o in absurd cc
opened_by Q h p f xs (Rescued' a q g shape row) o k =
    let same = sym (outs-Rescued' a q g shape row) ∙ o in
    let hart : h ≡ a = cc in
    let point : p ≡ q = cc in
    let fault : f ≡ g = cc in
    let shown = items_shown-the_row-Entry-0 shape row in
    let list : items-the_row-Entry _ row ≡ xs = cc in
    subst (λ x. Q (Rescued' x q g shape row)) hart
    (subst (λ x. Q (Rescued' h x g shape row)) point
    (subst (λ x. Q (Rescued' h p x shape row)) fault (k shape row list)))
opened_by Q h p f xs (Ended x) o k = let no = sym (outs-Ended x) ∙ o in absurd cc

-- what holds of each rescued call whose row lists some entries, holds of the one with these
pub opened : (Q : Entry → Type 0) (h : ℕ) (p : PointRef) (f : Fault) (xs : List Entry)
    → ((shape : _) (row : _) → items-the_row-Entry _ row ≡ xs → Q (Rescued' h p f shape row)) → Q (v.Rescued h p f xs)
opened Q h p f xs k = opened_by Q h p f xs (v.Rescued h p f xs) (out-Rescued h p f xs) k
