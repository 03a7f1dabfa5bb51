-- What is defined by the row of an inside, by its list.
use Rattle.std.proofs.Common.{◌≡◌, ℕ, ◌+◌, Bool, false, ◌&&◌, ◌==◌, nat_lt, List, [], ◌∷◌, ◌++◌, refl, ap, sym, ◌∙◌}
use Rattle.guest_words.specs.declared.point.PointRef.{PointRef}
use Rattle.guest_words.specs.declared.fault.Fault.{Fault}
use Rattle.guest_words.specs.declared.record.Record.{Record}
use Rattle.guest_words.specs.Act.{act_of}
use Rattle.guest_words.specs.State.{State, enter, frames_at}
use Rattle.run_history.specs.declared.entry.Entry.{Entry, Ran, Entered, Called, Rescued', Ended, Row_of-Entry, end_of-Entry, more_of-Entry, items-the_row-Entry, items_shown-the_row-Entry-0, out-Entry, out-roll-Entry}
use Rattle.run_history.specs.declared.entry.Entry.TheOpen.{Entry-F}
use Rattle.run_history.specs.declared.entry.Entry.TheViews as v
use Rattle.run_history.specs.declared.entry.Entry.TheVariants.{outs-Ran, outs-Entered, outs-Called, outs-Rescued', outs-Ended, rolls-Rescued}
use Rattle.run_history.specs.Counts.{size_of, size_of_row, size_of_all, steps_of, steps_of_row, steps_of_all, records_of, records_of_row, records_of_all}
use Rattle.run_history.specs.After.{after, after_row, state_after, rescued, rescued_from, ran, called}
use Rattle.run_history.specs.Legal.{legal, legal_row, legal_inside, legal_rescue, licence, may_act, is_arrival, is_of}

pub out-Rescued : (h : ℕ) (p : PointRef) (f : Fault) (xs : List Entry) → out-Entry (v.Rescued h p f xs) ≡ Entry-F.Rescued h p f xs
out-Rescued h p f xs = ap out-Entry (sym (rolls-Rescued h p f xs)) ∙ out-roll-Entry (Entry-F.Rescued h p f xs)

-- the number of entries

pub size_of_row-is : (n : _) (row : Row_of-Entry n) → size_of_row row ≡ size_of_all (items-the_row-Entry n row)
unfolding size_of
size_of_row-is n end_of-Entry = refl
size_of_row-is n (more_of-Entry e rest) = ap (λ m. size_of e + m) (size_of_row-is _ rest)

abbrev size_at : Entry-F Entry → ℕ
size_at (Entry-F.Rescued h p f inside) = size_of_all inside + 1
size_at _ = 1

size_of-at : (e : Entry) → size_of e ≡ size_at (out-Entry e)
unfolding size_of
size_of-at (Ran h n) = sym (ap size_at (outs-Ran h n))
size_of-at (Entered h p) = sym (ap size_at (outs-Entered h p))
size_of-at (Called h r) = sym (ap size_at (outs-Called h r))
size_of-at (Rescued' h p f shape row) = ap (λ n. n + 1) (size_of_row-is _ row ∙ sym (ap size_of_all (items_shown-the_row-Entry-0 shape row))) ∙ sym (ap size_at (outs-Rescued' h p f shape row))
size_of-at (Ended x) = sym (ap size_at (outs-Ended x))

pub size_of-Rescued : (h : ℕ) (p : PointRef) (f : Fault) (xs : List Entry) → size_of (v.Rescued h p f xs) ≡ size_of_all xs + 1
size_of-Rescued h p f xs = size_of-at _ ∙ ap size_at (out-Rescued h p f xs)

-- the steps

pub steps_of_row-is : (n : _) (row : Row_of-Entry n) → steps_of_row row ≡ steps_of_all (items-the_row-Entry n row)
unfolding steps_of
steps_of_row-is n end_of-Entry = refl
steps_of_row-is n (more_of-Entry e rest) = ap (λ m. steps_of e + m) (steps_of_row-is _ rest)

abbrev steps_at : Entry-F Entry → ℕ
steps_at (Entry-F.Ran h n) = n
steps_at (Entry-F.Called h r) = 1
steps_at (Entry-F.Rescued h p f inside) = steps_of_all inside
steps_at _ = 0

steps_of-at : (e : Entry) → steps_of e ≡ steps_at (out-Entry e)
unfolding steps_of
steps_of-at (Ran h n) = sym (ap steps_at (outs-Ran h n))
steps_of-at (Entered h p) = sym (ap steps_at (outs-Entered h p))
steps_of-at (Called h r) = sym (ap steps_at (outs-Called h r))
steps_of-at (Rescued' h p f shape row) = steps_of_row-is _ row ∙ sym (ap steps_of_all (items_shown-the_row-Entry-0 shape row)) ∙ sym (ap steps_at (outs-Rescued' h p f shape row))
steps_of-at (Ended x) = sym (ap steps_at (outs-Ended x))

pub steps_of-Rescued : (h : ℕ) (p : PointRef) (f : Fault) (xs : List Entry) → steps_of (v.Rescued h p f xs) ≡ steps_of_all xs
steps_of-Rescued h p f xs = steps_of-at _ ∙ ap steps_at (out-Rescued h p f xs)

-- the records

pub records_of_row-is : (n : _) (row : Row_of-Entry n) → records_of_row row ≡ records_of_all (items-the_row-Entry n row)
unfolding records_of
records_of_row-is n end_of-Entry = refl
records_of_row-is n (more_of-Entry e rest) = ap (λ m. records_of e ++ m) (records_of_row-is _ rest)

abbrev records_at : Entry-F Entry → List Record
records_at (Entry-F.Called h r) = r ∷ []
records_at (Entry-F.Rescued h p f inside) = records_of_all inside
records_at _ = []

records_of-at : (e : Entry) → records_of e ≡ records_at (out-Entry e)
unfolding records_of
records_of-at (Ran h n) = sym (ap records_at (outs-Ran h n))
records_of-at (Entered h p) = sym (ap records_at (outs-Entered h p))
records_of-at (Called h r) = sym (ap records_at (outs-Called h r))
records_of-at (Rescued' h p f shape row) = records_of_row-is _ row ∙ sym (ap records_of_all (items_shown-the_row-Entry-0 shape row)) ∙ sym (ap records_at (outs-Rescued' h p f shape row))
records_of-at (Ended x) = sym (ap records_at (outs-Ended x))

pub records_of-Rescued : (h : ℕ) (p : PointRef) (f : Fault) (xs : List Entry) → records_of (v.Rescued h p f xs) ≡ records_of_all xs
records_of-Rescued h p f xs = records_of-at _ ∙ ap records_at (out-Rescued h p f xs)

-- the state after

pub after_row-is : (n : _) (row : Row_of-Entry n) (s : State) → after_row s row ≡ state_after s (items-the_row-Entry n row)
unfolding after
after_row-is n end_of-Entry s = refl
after_row-is n (more_of-Entry e rest) s = after_row-is _ rest (after s e)

abbrev after_at : State → Entry-F Entry → State
after_at s (Entry-F.Ran h n) = ran s h n
after_at s (Entry-F.Entered h p) = enter s h p
after_at s (Entry-F.Called h r) = called s h r
after_at s (Entry-F.Rescued h p f inside) = rescued s h p f inside
after_at s (Entry-F.Ended x) = after s (Ended x)

after-at : (e : Entry) (s : State) → after s e ≡ after_at s (out-Entry e)
unfolding after
after-at (Ran h n) s = sym (ap (after_at s) (outs-Ran h n))
after-at (Entered h p) s = sym (ap (after_at s) (outs-Entered h p))
after-at (Called h r) s = sym (ap (after_at s) (outs-Called h r))
after-at (Rescued' h p f shape row) s =
    ap (rescued_from s h p f) (after_row-is _ row (enter s h p)) ∙ sym (ap (rescued s h p f) (items_shown-the_row-Entry-0 shape row))
    ∙ sym (ap (after_at s) (outs-Rescued' h p f shape row))
after-at (Ended x) s = sym (ap (after_at s) (outs-Ended x))

pub after-Rescued : (s : State) (h : ℕ) (p : PointRef) (f : Fault) (xs : List Entry) → after s (v.Rescued h p f xs) ≡ rescued s h p f xs
after-Rescued s h p f xs = after-at _ s ∙ ap (after_at s) (out-Rescued h p f xs)

-- legal entries

pub legal_row-is : (n : _) (row : Row_of-Entry n) (s : State) (h d : ℕ) → legal_row s h d row ≡ legal_inside s h d (items-the_row-Entry n row)
unfolding legal
legal_row-is n end_of-Entry s h d = refl
legal_row-is n (more_of-Entry e rest) s h d = ap (λ b. is_of h e && legal s e && nat_lt d (frames_at (after s e) h) && b) (legal_row-is _ rest (after s e) h d)

abbrev legal_at : State → Entry-F Entry → Bool
legal_at s (Entry-F.Ran h n) = legal s (Ran h n)
legal_at s (Entry-F.Entered h p) = legal s (Entered h p)
legal_at s (Entry-F.Called h r) = legal s (Called h r)
legal_at s (Entry-F.Rescued h p f inside) = legal_rescue s h p f inside
legal_at s (Entry-F.Ended x) = legal s (Ended x)

legal-at : (e : Entry) (s : State) → legal s e ≡ legal_at s (out-Entry e)
unfolding legal
legal-at (Ran h n) s = sym (ap (legal_at s) (outs-Ran h n))
legal-at (Entered h p) s = sym (ap (legal_at s) (outs-Entered h p))
legal-at (Called h r) s = sym (ap (legal_at s) (outs-Called h r))
legal-at (Rescued' h p f shape row) s =
    let begins = may_act s h && is_arrival p (act_of s h) in
    let xs = items-the_row-Entry _ row in
    ap (λ b. begins && licence s h f b (after_row (enter s h p) row)) (legal_row-is _ row (enter s h p) h (frames_at s h))
    ∙ ap (λ t. begins && licence s h f (legal_inside (enter s h p) h (frames_at s h) xs) t) (after_row-is _ row (enter s h p))
    ∙ sym (ap (legal_rescue s h p f) (items_shown-the_row-Entry-0 shape row))
    ∙ sym (ap (legal_at s) (outs-Rescued' h p f shape row))
legal-at (Ended x) s = sym (ap (legal_at s) (outs-Ended x))

pub legal-Rescued : (s : State) (h : ℕ) (p : PointRef) (f : Fault) (xs : List Entry) → legal s (v.Rescued h p f xs) ≡ legal_rescue s h p f xs
legal-Rescued s h p f xs = legal-at _ s ∙ ap (legal_at s) (out-Rescued h p f xs)

-- the hart of an entry

abbrev is_of_at : ℕ → Entry-F Entry → Bool
is_of_at h (Entry-F.Ran hart n) = hart == h
is_of_at h (Entry-F.Entered hart p) = hart == h
is_of_at h (Entry-F.Called hart r) = hart == h
is_of_at h (Entry-F.Rescued hart p f inside) = hart == h
is_of_at h (Entry-F.Ended x) = false

is_of-at : (h : ℕ) (e : Entry) → is_of h e ≡ is_of_at h (out-Entry e)
is_of-at h (Ran hart n) = sym (ap (is_of_at h) (outs-Ran hart n))
is_of-at h (Entered hart p) = sym (ap (is_of_at h) (outs-Entered hart p))
is_of-at h (Called hart r) = sym (ap (is_of_at h) (outs-Called hart r))
is_of-at h (Rescued' hart p f shape row) = sym (ap (is_of_at h) (outs-Rescued' hart p f shape row))
is_of-at h (Ended x) = sym (ap (is_of_at h) (outs-Ended x))

pub is_of-Rescued : (h hart : ℕ) (p : PointRef) (f : Fault) (xs : List Entry) → is_of h (v.Rescued hart p f xs) ≡ (hart == h)
is_of-Rescued h hart p f xs = is_of-at h _ ∙ ap (is_of_at h) (out-Rescued hart p f xs)
