-- Entries of one kind: when each is legal, and the state after it.
use Rattle.std.proofs.Common.{◌≡◌, ℕ, ◌+◌, ◌<◌, zero, suc, Bool, true, false, not, ◌||◌, List, [], ◌∷◌, Option, Some, None, refl, ap, ◌∙◌, slice_get, arith, eq-eqb, is_none}
use Rattle.std.proofs.lemmas.Bool.{and_from, lt-ltb}
use Rattle.std.specs.List.{list_any}
use Rattle.guest_words.specs.declared.ending.Ending.{Ending}
use Rattle.guest_words.specs.declared.ending.Ending.TheVariants as ending
use Rattle.guest_words.specs.declared.fault.Fault.{Fault as FaultAt}
use Rattle.guest_words.specs.declared.fault.FaultName.{FaultName}
use Rattle.guest_words.specs.declared.fault.FaultName.TheVariants.{FetchRights, FetchMisaligned, Illegal, LoadRights, StoreRights, AtomicMisaligned, Breakpoint, BlockedInPoint}
use Rattle.guest_words.specs.declared.hart.Slot.{Slot}
use Rattle.guest_words.specs.declared.point.PointRef.{PointRef}
use Rattle.guest_words.specs.declared.record.Record.{Record}
use Rattle.guest_words.specs.Act.{Fault, Arrival, End, act_of, fits}
use Rattle.guest_words.specs.Endings.{faults, stands_at, is_budget_spent, is_end, is_fault, is_same_name, is_stuck}
use Rattle.guest_words.specs.Harts.{is_ready}
use Rattle.guest_words.specs.State.{State, enter, frames_at}
use Rattle.run_history.specs.declared.entry.Entry.{Entry, Ran, Entered, Called, Ended}
use Rattle.run_history.specs.declared.entry.Entry.TheViews as v
use Rattle.run_history.specs.After.{after, called, next, ran, rescued_from, state_after}
use Rattle.run_history.specs.Legal.{can_go, can_run, ends_in, is_alone, is_arrival, is_ready_at, is_ready_slot, legal, legal_inside, may_act}
use Rattle.run_history.specs.Quiet.{is_quiet}
use Rattle.run_history.proofs.Ands.{and_left, and_right}
use Rattle.run_history.proofs.Insides.{after-Rescued, legal-Rescued}
use Rattle.run_history.proofs.Quietness.{quiet_alone, quiet_frames}
use Rattle.run_history.proofs.RunSteps.{can_run-one, ran-one}

-- the state after each

pub after-Ran : (s : State) (h n : ℕ) → after s (Ran h n) ≡ ran s h n
unfolding after
after-Ran s h n = refl

pub after-Entered : (s : State) (h : ℕ) (p : PointRef) → after s (Entered h p) ≡ enter s h p
unfolding after
after-Entered s h p = refl

pub after-Called : (s : State) (h : ℕ) (r : Record) → after s (Called h r) ≡ called s h r
unfolding after
after-Called s h r = refl

pub after-Ended : (s : State) (x : Ending) → after s (Ended x) ≡ record s { ending = Some x }
unfolding after
after-Ended s x = refl

-- one act
pub after-Ran_one : (s : State) (h : ℕ) → after s (Ran h 1) ≡ next s h
after-Ran_one s h = after-Ran s h 1 ∙ ran-one s h

-- a rescue, by the state at its fault
pub after-rescue : (s t : State) (h : ℕ) (p : PointRef) (f : FaultAt) (inside : List Entry) → state_after (enter s h p) inside ≡ t → after s (v.Rescued h p f inside) ≡ rescued_from s h p f t
after-rescue s t h p f inside reaches = after-Rescued s h p f inside ∙ ap (rescued_from s h p f) reaches

-- a hart may act where the run goes on, it is ready and no other has a frame open
pub may_by : (s : State) (h : ℕ) → s.ending ≡ None → is_budget_spent s ≡ false → is_ready_at s h ≡ true → is_alone s h ≡ true → may_act s h ≡ true
may_by s h going fresh ready alone = and_from _ _ (and_from _ _ (and_from _ _ (ap is_none going) (ap not fresh)) ready) alone

pub may : (s : State) (h : ℕ) → s.ending ≡ None → is_budget_spent s ≡ false → is_ready_at s h ≡ true → is_quiet s ≡ true → may_act s h ≡ true
may s h going fresh ready calm = may_by s h going fresh ready (quiet_alone s h calm)

-- and where it may act, all of that holds

none-is : (o : Option Ending) → is_none o ≡ true → o ≡ None
none-is None is = refl
none-is (Some x) is = cc

not-is : (b : Bool) → not b ≡ true → b ≡ false
not-is true is = cc
not-is false is = refl

pub may-going : (s : State) (h : ℕ) → may_act s h ≡ true → s.ending ≡ None
may-going s h may = none-is s.ending (and_left _ _ (and_left _ _ (and_left _ _ may)))

pub may-fresh : (s : State) (h : ℕ) → may_act s h ≡ true → is_budget_spent s ≡ false
may-fresh s h may = not-is (is_budget_spent s) (and_right _ _ (and_left _ _ (and_left _ _ may)))

pub may-ready : (s : State) (h : ℕ) → may_act s h ≡ true → is_ready_at s h ≡ true
may-ready s h may = and_right _ _ (and_left _ _ may)

pub may-alone : (s : State) (h : ℕ) → may_act s h ≡ true → is_alone s h ≡ true
may-alone s h may = and_right _ _ may

-- when each is legal

pub legal-Ran : (s : State) (h n : ℕ) → may_act s h ≡ true → 0 < n → can_run s h n ≡ true → legal s (Ran h n) ≡ true
unfolding legal
legal-Ran s h n may some runs = and_from _ _ (and_from _ _ may (lt-ltb 0 n some)) runs

pub legal-Ran_one : (s : State) (h : ℕ) → may_act s h ≡ true → can_go s h ≡ true → legal s (Ran h 1) ≡ true
legal-Ran_one s h may goes = legal-Ran s h 1 may (omega arith) (can_run-one s h goes)

pub legal-Entered : (s : State) (h : ℕ) (p : PointRef) → may_act s h ≡ true → is_arrival p (act_of s h) ≡ true → legal s (Entered h p) ≡ true
unfolding legal
legal-Entered s h p may at = and_from _ _ may at

pub legal-arrival : (s : State) (h : ℕ) (p : PointRef) → may_act s h ≡ true → act_of s h ≡ Arrival p → legal s (Entered h p) ≡ true
legal-arrival s h p may act = legal-Entered s h p may (ap (is_arrival p) act ∙ eq-eqb p.entry p.entry refl)

pub legal-Called : (s : State) (h : ℕ) (r : Record) → may_act s h ≡ true → fits s (act_of s h) r ≡ true → legal s (Called h r) ≡ true
unfolding legal
legal-Called s h r may fit = and_from _ _ may fit

-- a rescue is legal where its call was entered, and met its fault in the frame that it opened
pub legal-rescue : (s t : State) (h : ℕ) (p : PointRef) (f : FaultAt) (inside : List Entry) → legal s (Entered h p) ≡ true
    → legal_inside (enter s h p) h (frames_at s h) inside ≡ true → state_after (enter s h p) inside ≡ t → frames_at t h ≡ frames_at s h + 1
    → is_budget_spent t ≡ false → faults t h f ≡ true → legal s (v.Rescued h p f inside) ≡ true
unfolding legal
legal-rescue s t h p f inside enters inner reaches framed fresh meets =
    legal-Rescued s h p f inside
    ∙ and_from _ _ enters
    (and_from _ _ inner (ap (λ (u : State). ends_in u h f (frames_at s h)) reaches ∙ and_from _ _ (and_from _ _ (eq-eqb _ _ framed) (ap not fresh)) meets))

-- what is legal tells

pub goes-first : (s : State) (h n : ℕ) → 0 < n → can_run s h n ≡ true → can_go s h ≡ true
unfolding can_run
goes-first s h zero some is = absurd (omega (arith, some))
goes-first s h (suc n) some is = and_left (can_go s h) (can_run (next s h) h n) is

pub legal-Ran-goes : (s : State) (h n : ℕ) → legal s (Ran h n) ≡ true → can_go s h ≡ true
unfolding legal can_run
legal-Ran-goes s h zero is = absurd (cc (and_right (may_act s h) false (and_left _ _ is)))
legal-Ran-goes s h (suc n) is = and_left (can_go s h) (can_run (next s h) h n) (and_right _ _ is)

pub legal-Ran-may : (s : State) (h n : ℕ) → legal s (Ran h n) ≡ true → may_act s h ≡ true
unfolding legal
legal-Ran-may s h n is = and_left _ _ (and_left _ _ is)

pub legal-Entered-may : (s : State) (h : ℕ) (p : PointRef) → legal s (Entered h p) ≡ true → may_act s h ≡ true
unfolding legal
legal-Entered-may s h p is = and_left _ _ is

pub legal-Called-may : (s : State) (h : ℕ) (r : Record) → legal s (Called h r) ≡ true → may_act s h ≡ true
unfolding legal
legal-Called-may s h r is = and_left _ _ is

pub legal-Called-fits : (s : State) (h : ℕ) (r : Record) → legal s (Called h r) ≡ true → fits s (act_of s h) r ≡ true
unfolding legal
legal-Called-fits s h r is = and_right _ _ is

-- endings

pub same_name : (name : FaultName) → is_same_name name name ≡ true
same_name FetchRights = refl
same_name FetchMisaligned = refl
same_name Illegal = refl
same_name LoadRights = refl
same_name StoreRights = refl
same_name AtomicMisaligned = refl
same_name Breakpoint = refl
same_name BlockedInPoint = refl

pub legal-Budget : (s : State) → s.ending ≡ None → is_budget_spent s ≡ true → legal s (Ended ending.Budget) ≡ true
unfolding legal
legal-Budget s going spent = and_from _ _ (ap is_none going) spent

pub legal-Stuck : (s : State) → s.ending ≡ None → is_budget_spent s ≡ false → is_stuck s ≡ true → legal s (Ended ending.Stuck) ≡ true
unfolding legal
legal-Stuck s going fresh stuck = and_from _ _ (and_from _ _ (ap is_none going) (ap not fresh)) stuck

pub legal-Exit : (s : State) (h code : ℕ) → may_act s h ≡ true → act_of s h ≡ End code → legal s (Ended (ending.Exit h code)) ≡ true
unfolding legal
legal-Exit s h code may act = and_from _ _ may (ap (is_end code) act ∙ eq-eqb code code refl)

pub legal-Fault : (s : State) (h pc : ℕ) (name : FaultName) → may_act s h ≡ true → act_of s h ≡ Fault name → stands_at pc (slice_get s.slots h) ≡ true → is_quiet s ≡ true
    → legal s (Ended (ending.Fault h (record { name = name; pc = pc }))) ≡ true
unfolding legal
legal-Fault s h pc name may act at calm =
    and_from _ _ may (and_from _ _ (and_from _ _ at (ap (is_fault name) act ∙ same_name name)) (eq-eqb (frames_at s h) 0 (quiet_frames s h calm)))

-- a hart that is ready isn't stuck
pub ready_unstuck : (s : State) (h : ℕ) → is_ready_at s h ≡ true → is_stuck s ≡ false
ready_unstuck s h ready = ap not (by s.slots h ready)
  where
    behind : (a b : Bool) → b ≡ true → (a || b) ≡ true
    behind true b is = refl
    behind false b is = is

    by : (slots : List Slot) (h : ℕ) → is_ready_slot (slice_get slots h) ≡ true → list_any (λ slot. is_ready slot.hart.state) slots ≡ true
    by [] h ready = cc
    by (x ∷ xs) zero ready = ap (λ b. b || list_any (λ slot. is_ready slot.hart.state) xs) ready
    by (x ∷ xs) (suc h) ready = behind (is_ready x.hart.state) _ (by xs h ready)
