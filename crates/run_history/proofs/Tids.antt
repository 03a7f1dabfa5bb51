-- A new hart costs a step: the next tid stays within two of the steps.
use Rattle.std.proofs.Common.{◌≡◌, ℕ, zero, suc, ◌+◌, ◌≤◌, true, not, ◌&&◌, ◌==◌, List, [], ◌∷◌, Option, Some, None, refl, slice_get, arith}
use Rattle.guest_words.specs.declared.act.Write.{Write}
use Rattle.guest_words.specs.declared.call.Request.{Request as Call}
use Rattle.guest_words.specs.declared.fault.Fault.{Fault as FaultAt}
use Rattle.guest_words.specs.declared.point.PointRef.{PointRef}
use Rattle.guest_words.specs.declared.record.Record.{Record}
use Rattle.guest_words.specs.declared.record.Way.{Way}
use Rattle.guest_words.specs.declared.record.Way.TheVariants as way
use Rattle.guest_words.specs.Act.{StateAct, Ordinary, Fault, Request, Arrival, End, Absent, act_of, written}
use Rattle.guest_words.specs.CallChanges.{clear_of, clones, departed, exits}
use Rattle.guest_words.specs.Calls.{sets_parent_tid}
use Rattle.guest_words.specs.Space.{can_write}
use Rattle.guest_words.specs.State.{State, changed, enter, with_hart}
use Rattle.run_history.specs.declared.entry.Entry.{Entry, Ran, Entered, Called, Rescued', Ended}
use Rattle.run_history.specs.After.{after, after_row, called, moved, next, placed, ran, read_place, rescued_from, state_after, with_record}
use Rattle.run_history.specs.Legal.{legal, legal_inside}
use Rattle.run_history.specs.Run.{is_run}
use Rattle.run_history.proofs.Ands.{and_left, and_right, if_by}
use Rattle.run_history.proofs.Appends.{legal_inside-runs}
use Rattle.run_history.proofs.CallCases.{CallCases, act_of_by}
use Rattle.run_history.proofs.StepsAfter.{called_steps, steps_after}

-- an act makes at most one hart, and counts no step itself
abbrev FewTids : State → StateAct → Type 0
FewTids s (Ordinary t) = (t.next_tid ≤ s.next_tid + 1) × (t.steps ≡ s.steps)
FewTids s _ = Unit {0}

-- the same tids and steps
abbrev Same : State → State → Type 0
Same s t = (t.next_tid ≡ s.next_tid) × (t.steps ≡ s.steps)

few : (s t : State) → Same s t → (t.next_tid ≤ s.next_tid + 1) × (t.steps ≡ s.steps)
few s t same = let tids = same.0 in (omega (arith, tids), same.1)

written_same : (s : State) (write : Option Write) → Same s (written s write)
written_same s None = (refl, refl)
written_same s (Some write) = (refl, refl)

exits_same : (s : State) (h code : ℕ) → Same s (exits s h code)
exits_same s h code =
    let t : State = record s { slots = changed (departed code) h s.slots } in
    let place = clear_of (slice_get s.slots h) in
    if_by (Same s) (not (place == 0) && can_write s.memory place 4) _ t (λ e. (refl, refl)) (λ e. (refl, refl))

clones_few : (s : State) (h slot flags stack parent tls child : ℕ) → ((clones s h slot flags stack parent tls child).next_tid ≤ s.next_tid + 1) × ((clones s h slot flags stack parent tls child).steps ≡ s.steps)
clones_few s h slot flags stack parent tls child =
    if_by (λ (t : State). (t.next_tid ≤ s.next_tid + 1) × (t.steps ≡ s.steps)) (sets_parent_tid flags && can_write s.memory parent 4) _ _ (λ e. (omega arith, refl)) (λ e. (omega arith, refl))

few_call : (s : State) (h : ℕ) (call : Call) → CallCases (FewTids s) s h call
few_call s h call = record {
  value = λ v. (omega arith, refl);
  read = λ fd place size is usable some may. tt;
  write = λ fd place size is usable some may. tt;
  close = λ fd is usable. tt;
  gone = λ code is live. few s (exits s h code) (exits_same s h code);
  last = λ code is. tt;
  ends = λ code is. tt;
  queue = λ place value timeout is none. (omega arith, refl);
  blocked = tt;
  rouse = λ place value is. (omega arith, refl);
  child = λ flags stack parent tls child slot is free. clones_few s h slot flags stack parent tls child;
  breaks = λ asked to is at. (omega arith, refl);
  maps = λ size prot flags place is asked most free. (omega arith, refl);
  unmaps = λ place size is within. (omega arith, refl);
}

act_tids : (s : State) (h : ℕ) → FewTids s (act_of s h)
act_tids s h =
    act_of_by (FewTids s) s h tt (λ slot is. record {
      next = λ hart write does. let t : State = with_hart s h (λ before. hart) in few s (written t write) (written_same t write);
      fault = λ name. tt;
      call = λ call does. few_call s h call;
      arrived = λ point does. tt;
    })

pub next_tids : (s : State) (h : ℕ) → s.next_tid ≤ s.steps + 2 → (next s h).next_tid ≤ (next s h).steps + 2
unfolding next
next_tids s h few = by (act_of s h) (act_tids s h)
  where
    by : (a : StateAct) → FewTids s a → (moved s a).next_tid ≤ (moved s a).steps + 2
    by (Ordinary t) made = let tids = made.0 in omega (arith, tids, few)
    by (Fault name) made = few
    by (Request w port asked place) made = few
    by (Arrival point) made = few
    by (End code) made = few
    by Absent made = few

pub ran_tids : (s : State) (h n : ℕ) → s.next_tid ≤ s.steps + 2 → (ran s h n).next_tid ≤ (ran s h n).steps + 2
unfolding ran
ran_tids s h zero few = few
ran_tids s h (suc n) few = ran_tids (next s h) h n (next_tids s h few)

called_tid : (s : State) (h : ℕ) (call : Record) → (called s h call).next_tid ≡ s.next_tid
unfolding called
called_tid s h call = by call.way
  where
    by : (w : Way) → (placed (with_record s call) w (read_place (act_of s h)) call.bytes).next_tid ≡ s.next_tid
    by way.Read = refl
    by way.Write = refl
    by way.Close = refl

pub called_tids : (s : State) (h : ℕ) (call : Record) → s.next_tid ≤ s.steps + 2 → (called s h call).next_tid ≤ (called s h call).steps + 2
called_tids s h call few = let tid = called_tid s h call in let steps = called_steps s h call in omega (arith, tid, steps, few)

pub entered_tids : (s : State) (h : ℕ) (p : PointRef) → s.next_tid ≤ s.steps + 2 → (enter s h p).next_tid ≤ (enter s h p).steps + 2
unfolding enter
entered_tids s h p few = few

-- a rescue keeps the steps of its call, and takes back its tids
pub rescued_tids : (s : State) (h : ℕ) (p : PointRef) (f : FaultAt) (t : State) → s.steps ≤ t.steps → s.next_tid ≤ s.steps + 2
    → (rescued_from s h p f t).next_tid ≤ (rescued_from s h p f t).steps + 2
unfolding rescued_from
rescued_tids s h p f t later few = omega (arith, later, few)

rescued_tid : (s : State) (h : ℕ) (p : PointRef) (f : FaultAt) (t : State) → (rescued_from s h p f t).next_tid ≡ s.next_tid
unfolding rescued_from
rescued_tid s h p f t = refl

-- so of every legal entry
pub after_tids : (s : State) (e : Entry) → legal s e ≡ true → s.next_tid ≤ s.steps + 2 → (after s e).next_tid ≤ (after s e).steps + 2
unfolding after
after_tids s (Ran h n) is few = ran_tids s h n few
after_tids s (Entered h p) is few = entered_tids s h p few
after_tids s (Called h call) is few = called_tids s h call few
after_tids s (Rescued' h p f shape inside) is few =
    let tid = rescued_tid s h p f (after_row (enter s h p) inside) in
    let steps = steps_after s (Rescued' h p f shape inside) is in
    omega (arith, tid, steps, few)
after_tids s (Ended x) is few = few

pub run_tids : (s : State) (es : List Entry) → is_run s es ≡ true → s.next_tid ≤ s.steps + 2 → (state_after s es).next_tid ≤ (state_after s es).steps + 2
run_tids s [] is few = few
run_tids s (e ∷ es) is few = run_tids (after s e) es (and_right (legal s e) _ is) (after_tids s e (and_left _ _ is) few)

pub inside_tids : (s : State) (h d : ℕ) (es : List Entry) → legal_inside s h d es ≡ true → s.next_tid ≤ s.steps + 2 → (state_after s es).next_tid ≤ (state_after s es).steps + 2
inside_tids s h d es is few = run_tids s es (legal_inside-runs s h d es is) few
