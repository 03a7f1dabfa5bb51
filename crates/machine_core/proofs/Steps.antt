-- What a step under open calls is, by the act that was seen.
use Rattle.std.proofs.Common.{◌≡◌, ℕ, zero, suc, ◌+◌, ◌<◌, ◌≤◌, true, false, List, [], ◌∷◌, length, Some, None, Ok, Err, OnOk, ap, sym, ◌∙◌, subst, arith, slice_get}
use Rattle.std.specs.declared.result.Result.{Result}
use Rattle.guest_words.specs.declared.ending.Ending.{Ending}
use Rattle.guest_words.specs.declared.ending.Ending.TheVariants as ending
use Rattle.guest_words.specs.declared.fault.Fault.{Fault as FaultAt}
use Rattle.guest_words.specs.declared.hart.Slot.{Slot}
use Rattle.guest_words.specs.declared.point.PointRef.{PointRef}
use Rattle.guest_words.specs.Act.{StateAct, Ordinary, Fault, Request, Arrival, End, Absent, act_of}
use Rattle.guest_words.specs.Endings.{is_budget_spent}
use Rattle.guest_words.specs.State.{State}
use Rattle.edge_ports.specs.DevicesMatch.{DevicesMatch}
use Rattle.edge_ports.specs.Seen.{Seen}
use Rattle.run_history.specs.Ahead.{ahead}
use Rattle.run_history.specs.Faults.{fault_by, fault_of, pc_at}
use Rattle.run_history.specs.Legal.{is_ready_slot}
use Rattle.run_history.proofs.Ahead.{ahead_called, ahead_ran}
use Rattle.run_history.proofs.Entries.{after-Ended}
use Rattle.hart_step.specs.declared.next_act.Ask.{Ask}
use Rattle.hart_step.specs.declared.next_act.NextAct.TheVariants as next_act
use Rattle.hart_step.specs.Sees.{Sees, named}
use Rattle.undo_log.specs.declared.note.Note.{Note}
use Rattle.machine_core.specs.Inner.{Inner, IsGoing, IsUnderSame, opened_in, whole_in}
use Rattle.machine_core.specs.Kept.{HasDevices}
use Rattle.machine_core.specs.Machine.{Machine, Opened, whole}
use Rattle.machine_core.specs.Notes.{IsUnnoted, NotesGoOn}
use Rattle.machine_core.specs.OpenSteps.{Asks, Does, DoesBy, Enters, EntersAt, Erases, StaysUnder, StepsTo}
use Rattle.machine_core.specs.QuietSteps.{CallsOn, EndsBy, Moves}
use Rattle.machine_core.specs.Under.{Goes}
use Rattle.machine_core.proofs.Growing.{asked_notes, fewer_notes, mark_unnoted, same_notes, unnoted_mark}

pub three_ok : {A E : Type 0} (r : Result A E) (P Q R T : Type 0) → (P → Q → R → T) → OnOk r P → OnOk r Q → OnOk r R → OnOk r T
three_ok (Ok x) P Q R T f p q s = f p q s
three_ok (Err e) P Q R T f p q s = tt

pub both_ok : {A E : Type 0} (r : Result A E) (P Q R : Type 0) → (P → Q → R) → OnOk r P → OnOk r Q → OnOk r R
both_ok (Ok x) P Q R f p q = f p q
both_ok (Err e) P Q R f p q = tt

-- the devices match by the records alone
pub by_records : (told : Seen) (x y : Inner) (e : Seen) (n : ℕ) → y.live.state.records ≡ x.live.state.records → HasDevices told x e n → HasDevices told y e n
by_records told x y e n same k = record { matches = subst (λ rs. DevicesMatch told e 0 rs) (sym same) k.matches; closes = k.closes }

-- a ready hart has a slot
pub ready_within : (slots : List Slot) (h : ℕ) → is_ready_slot (slice_get slots h) ≡ true → h < length slots
ready_within [] h ready = cc
ready_within (x ∷ xs) zero ready = omega arith
ready_within (x ∷ xs) (suc h) ready = let further = ready_within xs h ready in omega (arith, further)

does_request : (start : State) (a : Opened) (m : Machine) (ask : Ask) (x : StateAct) → named x ≡ Some (next_act.Request ask) → Asks a m → Does start a x m
does_request start a m ask (Ordinary t) is does = cc
does_request start a m ask (Fault name) is does = cc
does_request start a m ask (Request w port asked place) is does = does
does_request start a m ask (Arrival p) is does = cc
does_request start a m ask (End code) is does = cc
does_request start a m ask Absent is does = cc

does_arrival : (start : State) (a : Opened) (m : Machine) (point : PointRef) (x : StateAct) → named x ≡ Some (next_act.Arrival point) → Enters point a m → Does start a x m
does_arrival start a m point (Ordinary t) is does = cc
does_arrival start a m point (Fault name) is does = cc
does_arrival start a m point (Request w port asked place) is does = cc
does_arrival start a m point (Arrival p) is does = let same : p ≡ point = cc in subst (λ q. Enters q a m) (sym same) does
does_arrival start a m point (End code) is does = cc
does_arrival start a m point Absent is does = cc

does_end : (start : State) (a : Opened) (m : Machine) (code : ℕ) (x : StateAct) → named x ≡ Some (next_act.End code) → EndsBy (ending.Exit a.hart code) (whole a) m → Does start a x m
does_end start a m code (Ordinary t) is does = cc
does_end start a m code (Fault name) is does = cc
does_end start a m code (Request w port asked place) is does = cc
does_end start a m code (Arrival p) is does = cc
does_end start a m code (End other) is does = let same : other ≡ code = cc in subst (λ n. EndsBy (ending.Exit a.hart n) (whole a) m) (sym same) does
does_end start a m code Absent is does = cc

does_fault : (start : State) (a : Opened) (m : Machine) (fault : FaultAt) (x : StateAct) → fault_by x (pc_at a.state a.hart) ≡ Some fault → Erases start fault a m → Does start a x m
does_fault start a m fault (Ordinary t) is does = cc
does_fault start a m fault (Fault name) is does =
    let same : (record { name = name; pc = pc_at a.state a.hart }) ≡ fault = cc in subst (λ f. Erases start f a m) (sym same) does
does_fault start a m fault (Request w port asked place) is does = cc
does_fault start a m fault (Arrival p) is does = cc
does_fault start a m fault (End code) is does = cc
does_fault start a m fault Absent is does = cc

pub end_act : (x : StateAct) (code : ℕ) → named x ≡ Some (next_act.End code) → x ≡ End code
end_act (Ordinary t) code is = cc
end_act (Fault name) code is = cc
end_act (Request w port asked place) code is = cc
end_act (Arrival p) code is = cc
end_act (End other) code is = let same : other ≡ code = cc in ap End same
end_act Absent code is = cc

-- less is ahead of a hart that has moved
pub moved_nearer : (h most : ℕ) (m n : Machine) (a : StateAct) → m.state.steps ≤ m.state.budget → Moves h most m a n → ahead n.state h < ahead m.state h
moved_nearer h most m n (Ordinary t) within runs = subst (λ (x : Machine). ahead x.state h < ahead m.state h) (sym runs.same) (ahead_ran m.state h runs.count runs.legal within)
moved_nearer h most m n (Fault name) within moves = absurd moves
moved_nearer h most m n (Request w port asked place) within calls = subst (λ (x : Machine). ahead x.state h < ahead m.state h) (sym calls.same) (ahead_called m.state h calls.call calls.legal within)
moved_nearer h most m n (Arrival p) within moves = absurd moves
moved_nearer h most m n (End code) within moves = absurd moves
moved_nearer h most m n Absent within moves = absurd moves

-- an ended run doesn't go on
over : (x : Ending) (w v : Inner) (d e : Seen) → EndsBy x (whole_in w d) (whole_in v e) → v.live.state.ending ≡ None → ⊥
over x w v d e ends going =
    let is : Some x ≡ None = sym (ap (λ (m : Machine). m.state.ending) ends.same ∙ ap (λ (s : State). s.ending) (after-Ended w.live.state x)) ∙ going in cc

ends_under : (w v : Inner) → v.nest.outers ≡ [] → v.hart ≡ w.hart → IsUnderSame w v
ends_under w v none hart = record { hart = hart; outermost = λ some. let empty = ap length none in absurd (omega (arith, some, empty)) }

all_left : (w v : Inner) (d e : Seen) → v.nest.outers ≡ [] → v.notes ≡ w.notes → NotesGoOn (opened_in w d) (opened_in v e)
all_left w v d e none same = same_notes w v d e same (λ more. let empty = ap length none in absurd (omega (arith, more, empty)))

module _ (start : State) (w v : Inner) (d e : Seen) (g : IsGoing w) where
  whole_is : whole_in w d ≡ whole (opened_in w d)
  whole_is = λ i. record (whole_in w d) { abandoned = g.kept i }

  module _ (fresh : is_budget_spent w.live.state ≡ false) where
    stepped : Does start (opened_in w d) (act_of w.live.state w.hart) (whole_in v e) → StepsTo start (opened_in w d) (whole_in v e)
    stepped does = subst (λ b. DoesBy start (opened_in w d) b (whole_in v e)) (sym fresh) does

    pub request_goes : (ask : Ask) → Sees w.live.state w.hart (next_act.Request ask) → CallsOn w.hart (whole_in w d) (whole_in v e) → IsUnderSame w v → ahead v.live.state w.hart < ahead w.live.state w.hart
        → length v.nest.outers ≤ length w.nest.outers → length v.notes ≤ length w.notes + ask.asked → Goes start w d v e
    request_goes ask sees calls under nearer fewer few = record {
      notes = asked_notes w v d e fewer ask sees few;
      steps = stepped (does_request start (opened_in w d) (whole_in v e) ask (act_of w.live.state w.hart) sees (subst (λ m. CallsOn w.hart m (whole_in v e)) whole_is calls));
      under = under;
      nearer = λ going. nearer;
    }

    pub arrival_goes : (point : PointRef) → Sees w.live.state w.hart (next_act.Arrival point) → EntersAt w.hart point (whole_in w d) (whole_in v e) → IsUnderSame w v → ahead v.live.state w.hart < ahead w.live.state w.hart
        → v.notes ≡ w.notes → IsUnnoted v.nest v.notes → Goes start w d v e
    arrival_goes point sees enters under nearer same none = record {
      notes = same_notes w v d e same (λ more. none);
      steps = stepped (does_arrival start (opened_in w d) (whole_in v e) point (act_of w.live.state w.hart) sees (subst (λ m. EntersAt w.hart point m (whole_in v e)) whole_is enters));
      under = under;
      nearer = λ going. nearer;
    }

    pub end_goes : (code : ℕ) → Sees w.live.state w.hart (next_act.End code) → EndsBy (ending.Exit w.hart code) (whole_in w d) (whole_in v e) → v.nest.outers ≡ [] → v.hart ≡ w.hart → v.notes ≡ w.notes → Goes start w d v e
    end_goes code sees ends none hart same = record {
      notes = all_left w v d e none same;
      steps = stepped (does_end start (opened_in w d) (whole_in v e) code (act_of w.live.state w.hart) sees (subst (λ m. EndsBy (ending.Exit w.hart code) m (whole_in v e)) whole_is ends));
      under = ends_under w v none hart;
      nearer = λ going. absurd (over (ending.Exit w.hart code) w v d e ends going);
    }

    pub fault_goes : (fault : FaultAt) → fault_of w.live.state w.hart ≡ Some fault → Erases start fault (opened_in w d) (whole_in v e) → IsUnderSame w v → ahead v.live.state w.hart < ahead w.live.state w.hart
        → length v.nest.outers ≤ length w.nest.outers → length v.notes ≤ length w.notes → Goes start w d v e
    fault_goes fault due erases under nearer fewer few = record {
      notes = fewer_notes w v d e fewer few;
      steps = stepped (does_fault start (opened_in w d) (whole_in v e) fault (act_of w.live.state w.hart) due erases);
      under = under;
      nearer = λ going. nearer;
    }

  pub budget_goes : is_budget_spent w.live.state ≡ true → EndsBy ending.Budget (whole_in w d) (whole_in v e) → v.nest.outers ≡ [] → v.hart ≡ w.hart → v.notes ≡ w.notes → Goes start w d v e
  budget_goes spent ends none hart same = record {
    notes = all_left w v d e none same;
    steps = subst (λ b. DoesBy start (opened_in w d) b (whole_in v e)) (sym spent) (subst (λ m. EndsBy ending.Budget m (whole_in v e)) whole_is ends);
    under = ends_under w v none hart;
    nearer = λ going. absurd (over ending.Budget w v d e ends going);
  }

-- calls are open still, whatever notes go that nothing is put back by
pub stays_under : (start : State) (w v : Inner) (d e : Seen) (ns : List Note) → Goes start w d v e → IsGoing v → 0 < length v.nest.outers → length ns ≤ length v.notes
    → StaysUnder start (opened_in w d) (opened_in (record v { notes = ns }) e)
stays_under start w v d e ns goes going some less = record {
  steps = subst (λ (m : Machine). StepsTo start (opened_in w d) m) (λ i. record (whole_in v e) { abandoned = going.kept i }) goes.steps;
  hart = goes.under.hart;
  outermost = goes.under.outermost some;
  notes = record {
    few = let few = goes.notes.few in omega (arith, few, less);
    none = λ more. let few = mark_unnoted v.nest v.notes some (goes.notes.none more) in unnoted_mark v.nest ns some (omega (arith, few, less));
  };
  goes = record { under = going.under; framed = going.framed; some = some };
}
