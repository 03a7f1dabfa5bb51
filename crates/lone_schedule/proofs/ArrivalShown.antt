-- An arrival in a state in which a turn begins is answered by Entered or Rescued.
use Rattle.std.proofs.Common.{◌≡◌, ℕ, true, ◌==◌, sym, subst, arith}
use Rattle.std.proofs.lemmas.Bool.Decides.{nat_tests}
use Rattle.guest_words.specs.declared.ending.Ending.TheVariants as ending
use Rattle.guest_words.specs.declared.point.PointRef.{PointRef}
use Rattle.guest_words.specs.Act.{StateAct, Ordinary, Fault, Request, Arrival, End, Absent, act_of, fits}
use Rattle.guest_words.specs.Endings.{is_end, is_fault}
use Rattle.guest_words.specs.State.{State}
use Rattle.run_history.specs.declared.entry.Entry.{Entry, Ran, Entered, Called, Rescued', Ended}
use Rattle.run_history.specs.Legal.{is_arrival, is_ordinary, legal, may_act}
use Rattle.run_history.proofs.Ands.{and_left, and_right}
use Rattle.run_history.proofs.Entries.{legal-Called-fits, legal-Ran-goes}
use Rattle.lone_schedule.specs.Turns.{begins}

abbrev pub Answers : Entry → Type 0
Answers (Entered h p) = Unit {0}
Answers (Rescued' h p fault shape inside) = Unit {0}
Answers _ = ⊥

number : (m n : ℕ) → (m == n) ≡ true → m ≡ n
number m n e = grind (arith, nat_tests, e)

no_act : (p : PointRef) (a : StateAct) → is_arrival p a ≡ true → is_ordinary a ≡ true → ⊥
no_act p (Ordinary t) arrives is = cc
no_act p (Fault name) arrives is = cc
no_act p (Request way port asked place) arrives is = cc
no_act p (Arrival q) arrives is = cc
no_act p (End code) arrives is = cc
no_act p Absent arrives is = cc

no_call : (p : PointRef) (a : StateAct) (r : _) (s : State) → is_arrival p a ≡ true → fits s a r ≡ true → ⊥
no_call p (Ordinary t) r s arrives is = cc
no_call p (Fault name) r s arrives is = cc
no_call p (Request way port asked place) r s arrives is = cc
no_call p (Arrival q) r s arrives is = cc
no_call p (End code) r s arrives is = cc
no_call p Absent r s arrives is = cc

no_end : (p : PointRef) (a : StateAct) (code : ℕ) → is_arrival p a ≡ true → is_end code a ≡ true → ⊥
no_end p (End other) code arrives is = cc
no_end p (Ordinary t) code arrives is = cc
no_end p (Fault name) code arrives is = cc
no_end p (Request way port asked place) code arrives is = cc
no_end p (Arrival q) code arrives is = cc
no_end p Absent code arrives is = cc

no_fault : (p : PointRef) (a : StateAct) (name : _) → is_arrival p a ≡ true → is_fault name a ≡ true → ⊥
no_fault p (Fault other) name arrives is = cc
no_fault p (Ordinary t) name arrives is = cc
no_fault p (Request way port asked place) name arrives is = cc
no_fault p (Arrival q) name arrives is = cc
no_fault p (End code) name arrives is = cc
no_fault p Absent name arrives is = cc

-- at the hart that the entry is of
there : (s : State) (h k : ℕ) (p : PointRef) → is_arrival p (act_of s h) ≡ true → (k == h) ≡ true → is_arrival p (act_of s k) ≡ true
there s h k p arrives same = subst (λ i. is_arrival p (act_of s i) ≡ true) (sym (number k h same)) arrives

legal_end : (s : State) (h code : ℕ) → legal s (Ended (ending.Exit h code)) ≡ true → is_end code (act_of s h) ≡ true
unfolding legal
legal_end s h code is = and_right (may_act s h) _ is

legal_fault : (s : State) (h : ℕ) (f : _) → legal s (Ended (ending.Fault h f)) ≡ true → is_fault f.name (act_of s h) ≡ true
unfolding legal
legal_fault s h f is = and_right _ _ (and_left _ _ (and_right (may_act s h) _ is))

pub answers_arrival : (s : State) (h : ℕ) (p : PointRef) (e : Entry) → is_arrival p (act_of s h) ≡ true → legal s e ≡ true → begins s h e ≡ true → Answers e
answers_arrival s h p (Ran k n) arrives is first =
    no_act p (act_of s k) (there s h k p arrives (and_left _ _ first)) (and_right _ _ (legal-Ran-goes s k n is))
answers_arrival s h p (Entered k q) arrives is first = tt
answers_arrival s h p (Called k r) arrives is first =
    no_call p (act_of s k) r s (there s h k p arrives (and_left _ _ first)) (legal-Called-fits s k r is)
answers_arrival s h p (Rescued' k q f shape row) arrives is first = tt
answers_arrival s h p (Ended (ending.Exit k code)) arrives is first = no_end p (act_of s k) code (there s h k p arrives first) (legal_end s k code is)
answers_arrival s h p (Ended (ending.Fault k f)) arrives is first = no_fault p (act_of s k) f.name (there s h k p arrives first) (legal_fault s k f is)
answers_arrival s h p (Ended ending.Stuck) arrives is first = cc
answers_arrival s h p (Ended ending.Budget) arrives is first = cc
