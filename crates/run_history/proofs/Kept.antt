-- What entries leave of a state: records, ending and what is left of the points apart, all but memory
-- and harts stays.
use Rattle.std.proofs.Common.{◌≡◌, ℕ, Bool, true, false, ◌&&◌, ◌==◌, nat_lt, if◌then◌else◌, List, [], ◌∷◌, ◌++◌, map, find, Option, Some, None, option_map, unwrap_or, refl, ap, sym, ◌∙◌, subst}
use Rattle.std.proofs.lemmas.List.{append_assoc, append-nil}
use Rattle.guest_words.specs.declared.ending.Ending.{Ending}
use Rattle.guest_words.specs.declared.fault.Fault.{Fault as FaultAt}
use Rattle.guest_words.specs.declared.fault.FaultName.{FaultName}
use Rattle.guest_words.specs.declared.point.Ret.TheVariants.{Void}
use Rattle.guest_words.specs.declared.point.Point.{Point}
use Rattle.guest_words.specs.Points.{code_in, code_of, spent, spent_once}
use Rattle.guest_words.specs.declared.point.PointRef.{PointRef}
use Rattle.guest_words.specs.declared.record.Record.{Record}
use Rattle.guest_words.specs.declared.record.Way.{Way}
use Rattle.guest_words.specs.declared.record.Way.TheVariants as way
use Rattle.guest_words.specs.Act.{act_of}
use Rattle.guest_words.specs.State.{State, enter, frames_at}
use Rattle.run_history.specs.declared.entry.Entry.{Entry, Ran, Entered, Called, Rescued', Ended, Row_of-Entry, end_of-Entry, more_of-Entry}
use Rattle.run_history.specs.declared.entry.Entry.TheViews as v
use Rattle.run_history.specs.After.{after, after_row, called, next, placed, ran, read_place, rescued_from, state_after, with_record}
use Rattle.run_history.specs.Counts.{records_of, records_of_row, records_of_all}
use Rattle.run_history.specs.Legal.{is_of, legal, legal_inside}
use Rattle.run_history.specs.Run.{is_ended}
use Rattle.run_history.proofs.Ands.{and_left, and_right, if_by}
use Rattle.run_history.proofs.Insides.{after-Rescued}
use Rattle.run_history.proofs.Walk.{Leads, OtherChanges, OwnChanges, next_walked, ran_walked, walked_act}

-- the parts of a state that an ordinary act leaves, steps apart
pub record Rest : Type 0 where
  pub low : ℕ
  pub records : List Record
  pub ending : Option Ending
  pub points : List Point
  pub ports : ℕ
  pub budget : ℕ

abbrev pub rest_of : State → Rest
rest_of s =
    record {
      low = s.low;
      records = s.records;
      ending = s.ending;
      points = s.points;
      ports = s.ports;
      budget = s.budget;
    }

abbrev pub KeepsRest : State → State → Type 0
KeepsRest s t = rest_of t ≡ rest_of s

own : (h : ℕ) → OwnChanges h KeepsRest
own h = record {
  same = λ s. refl;
  both = λ a b c p q. q ∙ p;
  rest = λ s m brk waiting tid steps. refl;
  hart = λ s f. refl;
  closes = λ s. refl;
  leaves = λ s code. refl;
  each = λ s f same. refl;
}

other : OtherChanges KeepsRest
other = record {
  wakes = λ s k. refl;
  bears = λ s slot child parent none. refl;
}

pub act_of_keeps : (s : State) (h : ℕ) → Leads KeepsRest s (act_of s h)
act_of_keeps s h = walked_act h KeepsRest (own h) other s

pub next_keeps : (s : State) (h : ℕ) → KeepsRest s (next s h)
next_keeps s h = next_walked h KeepsRest (own h) s (walked_act h KeepsRest (own h) other s)

pub ran_keeps : (s : State) (h n : ℕ) → KeepsRest s (ran s h n)
ran_keeps s h n = ran_walked h KeepsRest (own h) n s (λ t. walked_act h KeepsRest (own h) other t)

pub called_keeps : (s : State) (h : ℕ) (call : Record) → rest_of (called s h call) ≡ record (rest_of s) { records = s.records ++ call ∷ [] }
unfolding called
called_keeps s h call = by call.way
  where
    by : (w : Way) → rest_of (placed (with_record s call) w (read_place (act_of s h)) call.bytes) ≡ record (rest_of s) { records = s.records ++ call ∷ [] }
    by way.Read = refl
    by way.Write = refl
    by way.Close = refl

pub enter_keeps : (s : State) (h : ℕ) (p : PointRef) → KeepsRest s (enter s h p)
unfolding enter
enter_keeps s h p = refl

pub rescued_keeps : (s : State) (h : ℕ) (p : PointRef) (f : FaultAt) (t : State) → rest_of (rescued_from s h p f t) ≡ record (rest_of s) { records = t.records; points = spent t.points p.entry }
unfolding rescued_from
rescued_keeps s h p f t = refl

-- whatever a rescued call did to memory, breaks, waiting list and tids is as at its entry again

pub record TakenBack (s t : State) : Type 0 where
  pub memory : t.memory ≡ s.memory
  pub low : t.low ≡ s.low
  pub brk : t.brk ≡ s.brk
  pub waiting : t.waiting ≡ s.waiting
  pub next_tid : t.next_tid ≡ s.next_tid
  pub ending : t.ending ≡ s.ending

from_rescued : (s : State) (h : ℕ) (p : PointRef) (f : FaultAt) (t : State) → TakenBack s (rescued_from s h p f t)
unfolding rescued_from
from_rescued s h p f t = record { memory = refl; low = refl; brk = refl; waiting = refl; next_tid = refl; ending = refl }

pub rescue_takes_back : (s : State) (h : ℕ) (p : PointRef) (f : FaultAt) (inside : List Entry) → TakenBack s (after s (v.Rescued h p f inside))
rescue_takes_back s h p f inside = subst (TakenBack s) (sym (after-Rescued s h p f inside)) (from_rescued s h p f (state_after (enter s h p) inside))

-- the records after an entry are those before it and its own
mutual
  unfolding after records_of enter rescued_from

  pub records_after : (s : State) (e : Entry) → (after s e).records ≡ s.records ++ records_of e
  records_after s (Ran h n) = ap (λ (r : Rest). r.records) (ran_keeps s h n) ∙ sym (append-nil s.records)
  records_after s (Entered h p) = sym (append-nil s.records)
  records_after s (Called h call) = ap (λ (r : Rest). r.records) (called_keeps s h call)
  records_after s (Rescued' h p f shape inside) = records_after_row (enter s h p) inside
  records_after s (Ended x) = sym (append-nil s.records)

  records_after_row : (s : State) {m : _} (row : Row_of-Entry m) → (after_row s row).records ≡ s.records ++ records_of_row row
  records_after_row s end_of-Entry = sym (append-nil s.records)
  records_after_row s (more_of-Entry e rest) =
      records_after_row (after s e) rest ∙ ap (λ rs. rs ++ records_of_row rest) (records_after s e)
      ∙ append_assoc s.records (records_of e) (records_of_row rest)

pub records_after_all : (s : State) (es : List Entry) → (state_after s es).records ≡ s.records ++ records_of_all es
records_after_all s [] = sym (append-nil s.records)
records_after_all s (e ∷ es) =
    records_after_all (after s e) es ∙ ap (λ rs. rs ++ records_of_all es) (records_after s e)
    ∙ append_assoc s.records (records_of e) (records_of_all es)

-- the points apart from what is left of each

abbrev pub unlimited : Point → Point
unlimited p = record p { left = None }

unlimited-spent : (entry : ℕ) (points : List Point) → map unlimited (spent points entry) ≡ map unlimited points
unlimited-spent entry [] = refl
unlimited-spent entry (p ∷ ps) =
    ap (λ (q : Point). q ∷ map unlimited (spent ps entry)) (if_by (λ (q : Point). unlimited q ≡ unlimited p) (p.entry == entry) (spent_once p) p (λ e. refl) (λ e. refl))
    ∙ ap (λ qs. unlimited p ∷ qs) (unlimited-spent entry ps)

-- the parts of the rest that no entry changes
pub record Fixed : Type 0 where
  pub low : ℕ
  pub points : List Point
  pub ports : ℕ
  pub budget : ℕ

abbrev fixed_in : Rest → Fixed
fixed_in r = record { low = r.low; points = map unlimited r.points; ports = r.ports; budget = r.budget }

abbrev pub fixed_of : State → Fixed
fixed_of s = fixed_in (rest_of s)

with_points : Fixed → List Point → Fixed
with_points f ps = record f { points = ps }

rescued_fixed : (s : State) (h : ℕ) (p : PointRef) (f : FaultAt) (t : State) → fixed_of t ≡ fixed_of s → fixed_of (rescued_from s h p f t) ≡ fixed_of s
unfolding with_points
rescued_fixed s h p f t same =
    ap fixed_in (rescued_keeps s h p f t)
    ∙ ap (with_points (fixed_of s)) (unlimited-spent p.entry t.points ∙ ap (λ (x : Fixed). x.points) same)

mutual
  unfolding after enter

  pub after_fixed : (s : State) (e : Entry) → fixed_of (after s e) ≡ fixed_of s
  after_fixed s (Ran h n) = ap fixed_in (ran_keeps s h n)
  after_fixed s (Entered h p) = ap fixed_in (enter_keeps s h p)
  after_fixed s (Called h call) = ap fixed_in (called_keeps s h call)
  after_fixed s (Rescued' h p f shape inside) = rescued_fixed s h p f (after_row (enter s h p) inside) (after_row_fixed (enter s h p) inside)
  after_fixed s (Ended x) = refl

  after_row_fixed : (s : State) {m : _} (row : Row_of-Entry m) → fixed_of (after_row s row) ≡ fixed_of s
  after_row_fixed s end_of-Entry = refl
  after_row_fixed s (more_of-Entry e rest) = after_row_fixed (after s e) rest ∙ after_fixed s e

pub state_after_fixed : (s : State) (es : List Entry) → fixed_of (state_after s es) ≡ fixed_of s
state_after_fixed s [] = refl
state_after_fixed s (e ∷ es) = state_after_fixed (after s e) es ∙ after_fixed s e

pub state_after_budget : (s : State) (es : List Entry) → (state_after s es).budget ≡ s.budget
state_after_budget s es = ap (λ (f : Fixed). f.budget) (state_after_fixed s es)

-- so the codes stay

code_of-unlimited : (points : List Point) (entry : ℕ) (name : FaultName) → code_of (map unlimited points) entry name ≡ code_of points entry name
code_of-unlimited [] entry name = refl
code_of-unlimited (p ∷ ps) entry name = by (p.entry == entry) (code_of-unlimited ps entry name)
  where
    by : (b : Bool) → code_of (map unlimited ps) entry name ≡ code_of ps entry name → unwrap_or (option_map (λ q. code_in q name) (if b then Some (unlimited p) else find (λ q. q.entry == entry) (map unlimited ps))) Void
        ≡ unwrap_or (option_map (λ q. code_in q name) (if b then Some p else find (λ q. q.entry == entry) ps)) Void
    by true rest = refl
    by false rest = rest

pub state_after_codes : (s : State) (es : List Entry) (entry : ℕ) (name : FaultName) → code_of (state_after s es).points entry name ≡ code_of s.points entry name
state_after_codes s es entry name =
    sym (code_of-unlimited (state_after s es).points entry name) ∙ ap (λ (f : Fixed). code_of f.points entry name) (state_after_fixed s es) ∙ code_of-unlimited s.points entry name

-- the ending stays, but at an Ended

pub after_ending : (s : State) (e : Entry) → is_ended e ≡ false → (after s e).ending ≡ s.ending
unfolding after
after_ending s (Ran k n) other = ap (λ (r : Rest). r.ending) (ran_keeps s k n)
after_ending s (Entered k p) other = ap (λ (r : Rest). r.ending) (enter_keeps s k p)
after_ending s (Called k call) other = ap (λ (r : Rest). r.ending) (called_keeps s k call)
after_ending s (Rescued' k p f shape inside) other = ap (λ (r : Rest). r.ending) (rescued_keeps s k p f _)
after_ending s (Ended x) other = cc

of_hart_other : (e : Entry) (h : ℕ) → is_of h e ≡ true → is_ended e ≡ false
of_hart_other (Ran k n) h is = refl
of_hart_other (Entered k p) h is = refl
of_hart_other (Called k call) h is = refl
of_hart_other (Rescued' k p f shape inside) h is = refl
of_hart_other (Ended x) h is = cc

pub legal_inside_ending : (s : State) (h d : ℕ) (es : List Entry) → legal_inside s h d es ≡ true → (state_after s es).ending ≡ s.ending
legal_inside_ending s h d [] is = refl
legal_inside_ending s h d (e ∷ es) is =
    legal_inside_ending (after s e) h d es (and_right (is_of h e && legal s e && nat_lt d (frames_at (after s e) h)) _ is)
    ∙ after_ending s e (of_hart_other e h (and_left _ _ (and_left _ _ (and_left _ _ is))))
