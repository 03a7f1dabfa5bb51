-- The steps of a state are those before an entry and its own, and a run stays within its budget.
use Rattle.std.proofs.Common.{◌≡◌, ℕ, zero, suc, ◌+◌, ◌<◌, ◌≤◌, Bool, true, false, not, ◌&&◌, ◌||◌, ◌==◌, nat_lt, List, [], ◌∷◌, refl, ap, arith}
use Rattle.std.proofs.lemmas.Bool.Decides.{nat_tests}
use Rattle.guest_words.specs.declared.limits.TheConstants.{RECORD_BYTES}
use Rattle.guest_words.specs.declared.record.Record.{Record}
use Rattle.guest_words.specs.declared.record.Way.{Way}
use Rattle.guest_words.specs.declared.record.Way.TheVariants as way
use Rattle.guest_words.specs.Act.{StateAct, Ordinary, Fault, Request, Arrival, End, Absent, act_of}
use Rattle.guest_words.specs.Endings.{is_budget_spent, record_bytes}
use Rattle.guest_words.specs.State.{State, enter, frames_at}
use Rattle.run_history.specs.declared.entry.Entry.{Entry, Ran, Entered, Called, Rescued', Ended, Row_of-Entry, end_of-Entry, more_of-Entry}
use Rattle.run_history.specs.After.{after, after_row, called, moved, next, placed, ran, read_place, rescued_from, state_after, with_record}
use Rattle.run_history.specs.Counts.{steps_of, steps_of_row, steps_of_all}
use Rattle.run_history.specs.Legal.{can_go, can_run, is_arrival, is_of, is_ordinary, is_ready_at, legal, legal_inside, legal_row, may_act}
use Rattle.run_history.specs.Run.{is_run}
use Rattle.run_history.proofs.Ands.{and_left, and_right}
use Rattle.run_history.proofs.Appends.{legal_inside-runs}
use Rattle.run_history.proofs.Kept.{Fixed, Rest, after_fixed, next_keeps}

pub next_steps : (s : State) (h : ℕ) → is_ordinary (act_of s h) ≡ true → (next s h).steps ≡ s.steps + 1
unfolding next
next_steps s h is = by (act_of s h) is
  where
    by : (a : StateAct) → is_ordinary a ≡ true → (moved s a).steps ≡ s.steps + 1
    by (Ordinary t) is = refl
    by (Fault name) is = cc
    by (Request way port asked place) is = cc
    by (Arrival point) is = cc
    by (End code) is = cc
    by Absent is = cc

-- a hart that can go on makes an ordinary act
pub can_ordinary : (s : State) (h : ℕ) → can_go s h ≡ true → is_ordinary (act_of s h) ≡ true
can_ordinary s h goes = and_right (not (is_budget_spent s) && is_ready_at s h) (is_ordinary (act_of s h)) goes

pub ran_steps : (s : State) (h n : ℕ) → can_run s h n ≡ true → (ran s h n).steps ≡ s.steps + n
unfolding ran can_run
ran_steps s h zero is = omega arith
ran_steps s h (suc n) is =
    let rest = ran_steps (next s h) h n (and_right (can_go s h) _ is) in
    let one = next_steps s h (can_ordinary s h (and_left (can_go s h) (can_run (next s h) h n) is)) in
    omega (arith, rest, one)

pub called_steps : (s : State) (h : ℕ) (call : Record) → (called s h call).steps ≡ s.steps + 1
unfolding called
called_steps s h call = by call.way
  where
    by : (w : Way) → (placed (with_record s call) w (read_place (act_of s h)) call.bytes).steps ≡ s.steps + 1
    by way.Read = refl
    by way.Write = refl
    by way.Close = refl

mutual
  unfolding after steps_of legal enter rescued_from

  pub steps_after : (s : State) (e : Entry) → legal s e ≡ true → (after s e).steps ≡ s.steps + steps_of e
  steps_after s (Ran h n) is = ran_steps s h n (and_right (may_act s h && nat_lt 0 n) _ is)
  steps_after s (Entered h p) is = omega arith
  steps_after s (Called h call) is = called_steps s h call
  steps_after s (Rescued' h p f shape inside) is =
      steps_after_row (enter s h p) h (frames_at s h) inside (and_left _ _ (and_right (may_act s h && is_arrival p (act_of s h)) _ is))
  steps_after s (Ended x) is = omega arith

  steps_after_row : (s : State) (h d : ℕ) {m : _} (row : Row_of-Entry m) → legal_row s h d row ≡ true → (after_row s row).steps ≡ s.steps + steps_of_row row
  steps_after_row s h d end_of-Entry is = omega arith
  steps_after_row s h d (more_of-Entry e rest) is =
      let later = steps_after_row (after s e) h d rest (and_right (is_of h e && legal s e && nat_lt d (frames_at (after s e) h)) _ is) in
      let here = steps_after s e (and_right (is_of h e) _ (and_left _ _ (and_left _ _ is))) in
      omega (arith, later, here)

pub steps_after_run : (s : State) (es : List Entry) → is_run s es ≡ true → (state_after s es).steps ≡ s.steps + steps_of_all es
steps_after_run s [] is = omega arith
steps_after_run s (e ∷ es) is =
    let later = steps_after_run (after s e) es (and_right (legal s e) _ is) in
    let here = steps_after s e (and_left _ _ is) in
    omega (arith, later, here)

pub steps_after_inside : (s : State) (h d : ℕ) (es : List Entry) → legal_inside s h d es ≡ true → (state_after s es).steps ≡ s.steps + steps_of_all es
steps_after_inside s h d es is = steps_after_run s es (legal_inside-runs s h d es is)

-- so no run takes a step back
pub more_steps_run : (s : State) (es : List Entry) → is_run s es ≡ true → s.steps ≤ (state_after s es).steps
more_steps_run s es is = let steps = steps_after_run s es is in omega (arith, steps)

pub more_steps_inside : (s : State) (h d : ℕ) (es : List Entry) → legal_inside s h d es ≡ true → s.steps ≤ (state_after s es).steps
more_steps_inside s h d es is = more_steps_run s es (legal_inside-runs s h d es is)

-- a state whose budget isn't spent has a step left
pub step_left : (s : State) → not (is_budget_spent s) ≡ true → s.steps ≤ s.budget → s.steps < s.budget
step_left s is within = by (s.steps == s.budget) refl is
  where
    by : (b : Bool) → (s.steps == s.budget) ≡ b → not (b || nat_lt RECORD_BYTES (record_bytes s)) ≡ true → s.steps < s.budget
    by true e fresh = cc
    by false e fresh = grind (arith, nat_tests, e, within)

-- and so has one in which a hart may act
pub may_step : (s : State) (h : ℕ) → may_act s h ≡ true → s.steps ≤ s.budget → s.steps < s.budget
may_step s h may within = step_left s (and_right _ _ (and_left _ _ (and_left _ _ may))) within

pub ran_within : (s : State) (h n : ℕ) → can_run s h n ≡ true → s.steps ≤ s.budget → s.steps + n ≤ s.budget
unfolding can_run
ran_within s h zero is within = omega (arith, within)
ran_within s h (suc n) is within =
    let here = and_left (can_go s h) (can_run (next s h) h n) is in
    let fresh = and_left _ _ (and_left _ _ here) in
    let one = next_steps s h (can_ordinary s h here) in
    let less = step_left s fresh within in
    let kept = ap (λ (r : Rest). r.budget) (next_keeps s h) in
    let rest = ran_within (next s h) h n (and_right (can_go s h) _ is) (omega (arith, one, less, kept)) in
    omega (arith, one, rest, kept)

after_budget : (s : State) (e : Entry) → (after s e).budget ≡ s.budget
after_budget s e = ap (λ (f : Fixed). f.budget) (after_fixed s e)

mutual
  unfolding legal steps_of enter

  -- the steps of a legal entry are left
  left_for : (s : State) (e : Entry) → legal s e ≡ true → s.steps ≤ s.budget → s.steps + steps_of e ≤ s.budget
  left_for s (Ran h n) is within = ran_within s h n (and_right (may_act s h && nat_lt 0 n) _ is) within
  left_for s (Entered h p) is within = omega (arith, within)
  left_for s (Called h call) is within = let less = may_step s h (and_left _ _ is) within in omega (arith, less)
  left_for s (Rescued' h p f shape inside) is within =
      left_for_row (enter s h p) h (frames_at s h) inside (and_left _ _ (and_right (may_act s h && is_arrival p (act_of s h)) _ is)) within
  left_for s (Ended x) is within = omega (arith, within)

  left_for_row : (s : State) (h d : ℕ) {m : _} (row : Row_of-Entry m) → legal_row s h d row ≡ true → s.steps ≤ s.budget → s.steps + steps_of_row row ≤ s.budget
  left_for_row s h d end_of-Entry is within = omega (arith, within)
  left_for_row s h d (more_of-Entry e rest) is within =
      let may = and_right (is_of h e) _ (and_left _ _ (and_left _ _ is)) in
      let here = left_for s e may within in
      let steps = steps_after s e may in
      let budget = after_budget s e in
      let later = left_for_row (after s e) h d rest (and_right (is_of h e && legal s e && nat_lt d (frames_at (after s e) h)) _ is) (omega (arith, here, steps, budget)) in
      omega (arith, later, steps, budget)

pub within_after : (s : State) (e : Entry) → legal s e ≡ true → s.steps ≤ s.budget → (after s e).steps ≤ (after s e).budget
within_after s e is within =
    let here = left_for s e is within in
    let steps = steps_after s e is in
    let budget = after_budget s e in
    omega (arith, here, steps, budget)

pub within_run : (s : State) (es : List Entry) → is_run s es ≡ true → s.steps ≤ s.budget → (state_after s es).steps ≤ (state_after s es).budget
within_run s [] is within = within
within_run s (e ∷ es) is within =
    within_run (after s e) es (and_right (legal s e) _ is) (within_after s e (and_left _ _ is) within)

pub within_inside : (s : State) (h d : ℕ) (es : List Entry) → legal_inside s h d es ≡ true → s.steps ≤ s.budget → (state_after s es).steps ≤ (state_after s es).budget
within_inside s h d es is within = within_run s es (legal_inside-runs s h d es is) within
