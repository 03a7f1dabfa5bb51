-- Register acts of a hart that were made beside the run are ordinary acts of it.
use Rattle.std.proofs.Common.{◌≡◌, ℕ, zero, suc, ◌+◌, ◌-◌, ◌≤◌, Bool, true, false, not, ◌==◌, nat_lt, if◌then◌else◌, List, set, Option, Some, None, refl, ap, sym, ◌∙◌, subst, slice_get, option_map, arith}
use Rattle.std.proofs.lemmas.Bool.{and_from, or_from}
use Rattle.std.proofs.lemmas.Bool.Decides.{nat_tests}
use Rattle.guest_words.specs.declared.act.Act.{Act}
use Rattle.guest_words.specs.declared.act.Act.TheVariants as act
use Rattle.guest_words.specs.declared.class.Class.{Class}
use Rattle.guest_words.specs.declared.class.Class.TheVariants as class
use Rattle.guest_words.specs.declared.hart.Hart.{Hart}
use Rattle.guest_words.specs.declared.inst.Inst.{Inst}
use Rattle.guest_words.specs.declared.limits.TheConstants.{RECORD_BYTES}
use Rattle.guest_words.specs.declared.point.Point.{Point}
use Rattle.guest_words.specs.declared.point.PointRef.{PointRef}
use Rattle.guest_words.specs.Act.{Ordinary, act_of}
use Rattle.guest_words.specs.Effects.{class_of}
use Rattle.guest_words.specs.Endings.{is_budget_spent, record_bytes}
use Rattle.guest_words.specs.HartAct.{act_of_class, arrival_of, hart_act}
use Rattle.guest_words.specs.Harts.{close_frames, is_ready}
use Rattle.guest_words.specs.Space.{Space}
use Rattle.guest_words.specs.Start.{slot_of}
use Rattle.guest_words.specs.State.{State, changed, closed, on_hart, with_closed, with_hart}
use Rattle.run_history.specs.After.{next, ran}
use Rattle.run_history.specs.Legal.{can_go, can_run, is_ordinary, is_ready_at, is_ready_slot}
use Rattle.run_history.proofs.RunSteps.{can_run-more, can_run-none, next-ordinary, ran-more, ran-none}
use Rattle.hart_step.specs.InPlace.{hart_after}
use Rattle.hart_step.specs.Registers.{Stretch, IsTextOf, after_class, after_inst, gone_on, inst_in, register_next, registers, then_next, unless_arrived}
use Rattle.hart_step.specs.SlotActs.{slot_act}
use Rattle.hart_step.specs.Stretches.{IsStretch, steps_left}
use Rattle.hart_step.proofs.Acting.{act_inst, looked-inst_at}
use Rattle.hart_step.proofs.Rows.{changed_is, same_state, set_get, set_same, set_set}
use Rattle.hart_step.proofs.SlotActs.{act_of-at}

-- a register act is the act of the hart alone

went : (a : Act) (to : Hart) → gone_on a ≡ Some to → a ≡ act.Next to None
went (act.Next hart None) to is = cc
went (act.Next hart (Some write)) to is = cc
went (act.Fault name) to is = cc
went (act.Call call) to is = cc
went (act.Arrived point) to is = cc

of_class : (m : Space) (hart to : Hart) (inst : Inst) (kind : Class) → after_class kind hart inst ≡ Some to → act_of_class kind m hart inst ≡ act.Next to None
of_class m hart to inst class.Register is = went _ to is
of_class m hart to inst class.Branch is = went _ to is
of_class m hart to inst class.Jump is = went _ to is
of_class m hart to inst class.Fence is = cc
of_class m hart to inst (class.Load width) is = cc
of_class m hart to inst (class.Store width) is = cc
of_class m hart to inst class.Call is = cc
of_class m hart to inst class.Break is = cc
of_class m hart to inst (class.LoadReserved width) is = cc
of_class m hart to inst (class.StoreConditional width) is = cc
of_class m hart to inst (class.Atomic width) is = cc

register_acts : (text : List Stretch) (m : Space) (points : List Point) (hart to : Hart) → IsTextOf text m → register_next text points hart ≡ Some to → hart_act m points 0 hart ≡ act.Next to None
register_acts text m points hart to tells is = by (arrival_of points 0 hart) (inst_in text hart.pc) refl refl is
  where
    by : (o : Option PointRef) (i : Option Inst) → arrival_of points 0 hart ≡ o → inst_in text hart.pc ≡ i → unless_arrived o (after_inst hart i) ≡ Some to
        → hart_act m points 0 hart ≡ act.Next to None
    by (Some point) i arrives found e = absurd (cc)
    by None None none found e = absurd (cc)
    by None (Some inst) none found e =
        act_inst m points 0 hart inst none (looked-inst_at m hart.pc inst (sym (tells hart.pc) ∙ found)) ∙ of_class m hart to inst (class_of inst.op) e

-- so many of them are acts of the run

module _ (s : State) (h : ℕ) (base : Hart) (text : List Stretch) (kept : slice_get s.slots h ≡ Some (slot_of base)) (tells : IsTextOf text s.memory)
    (ready : is_ready base.state ≡ true) (few : nat_lt RECORD_BYTES (record_bytes s) ≡ false) where
  -- the state with the hart in its slot, and so many steps more
  abbrev pub stretched : Hart → ℕ → State
  stretched hart n = record s { slots = set s.slots h (slot_of hart); steps = s.steps + n }

  record Reached (n : ℕ) (to : Hart) : Type 0 where
    pub is : ran s h n ≡ stretched to n
    pub goes : s.steps + n ≤ s.budget → can_run s h n ≡ true
    pub stands : is_ready to.state ≡ true

  there : (mid : Hart) → slice_get (set s.slots h (slot_of mid)) h ≡ Some (slot_of mid)
  there mid = set_get s.slots h (slot_of mid) (slot_of base) kept

  acts : (n : ℕ) (mid to : Hart) → register_next text s.points mid ≡ Some to → act_of (stretched mid n) h ≡ Ordinary (with_closed (with_hart (stretched mid n) h (λ before. to)) h)
  acts n mid to one =
      act_of-at (stretched mid n) h (act.Next to None) (ap (λ o. option_map (slot_act (stretched mid n)) o) (there mid) ∙ ap Some (register_acts text s.memory s.points mid to tells one))

  no_frame : (hart : Hart) → closed (slot_of hart) ≡ slot_of hart
  unfolding close_frames
  no_frame hart = refl

  slots_after : (mid to : Hart) → changed closed h (changed (on_hart (λ before. to)) h (set s.slots h (slot_of mid))) ≡ set s.slots h (slot_of to)
  slots_after mid to =
      let put : changed (on_hart (λ before. to)) h (set s.slots h (slot_of mid)) ≡ set s.slots h (slot_of to) =
      changed_is (on_hart (λ before. to)) h (set s.slots h (slot_of mid)) (slot_of mid) (there mid) ∙ set_set s.slots h (slot_of mid) (slot_of to) in
      ap (changed closed h) put ∙ changed_is closed h (set s.slots h (slot_of to)) (slot_of to) (there to)
      ∙ ap (set (set s.slots h (slot_of to)) h) (no_frame to) ∙ set_set s.slots h (slot_of to) (slot_of to)

  moves : (n : ℕ) (mid to : Hart) → register_next text s.points mid ≡ Some to → next (stretched mid n) h ≡ stretched to (n + 1)
  moves n mid to one =
      let count : s.steps + n + 1 ≡ s.steps + (n + 1) = omega arith in
      next-ordinary (stretched mid n) (with_closed (with_hart (stretched mid n) h (λ before. to)) h) h (acts n mid to one)
      ∙ (λ i. record s { slots = slots_after mid to i; steps = count i })

  fresh : (n : ℕ) (hart : Hart) → s.steps + (n + 1) ≤ s.budget → is_budget_spent (stretched hart n) ≡ false
  fresh n hart within =
      let apart : ((s.steps + n) == s.budget) ≡ false = grind (arith, nat_tests, within) in
      or_from _ _ apart few

  goes_on : (n : ℕ) (mid to : Hart) → register_next text s.points mid ≡ Some to → is_ready mid.state ≡ true → s.steps + (n + 1) ≤ s.budget → can_go (stretched mid n) h ≡ true
  goes_on n mid to one so within =
      and_from _ _ (and_from _ _ (ap not (fresh n mid within)) (ap is_ready_slot (there mid) ∙ so)) (ap is_ordinary (acts n mid to one))

  stays_ready : (mid to : Hart) → register_next text s.points mid ≡ Some to → to.state ≡ mid.state
  stays_ready mid to one = sym (ap (λ a. (hart_after a mid).state) (register_acts text s.memory s.points mid to tells one)) ∙ same_state s.memory s.points 0 mid

  more : (n : ℕ) (mid to : Hart) → Reached n mid → register_next text s.points mid ≡ Some to → Reached (n + 1) to
  more n mid to so_far one =
      let now = so_far.is in
      record {
        is = ran-more s h n ∙ ap (λ (t : State). next t h) now ∙ moves n mid to one;
        goes = λ within. can_run-more s h n (so_far.goes (omega (arith, within))) (ap (λ (t : State). can_go t h) now ∙ goes_on n mid to one so_far.stands within);
        stands = ap is_ready (stays_ready mid to one) ∙ so_far.stands;
      }

  none : Reached 0 base
  none =
      let count : s.steps ≡ s.steps + 0 = omega arith in
      record {
        is = ran-none s h ∙ (λ i. record s { slots = sym (set_same s.slots h (slot_of base) kept) i; steps = count i });
        goes = λ within. can_run-none s h;
        stands = ready;
      }

  reached : (n : ℕ) (to : Hart) → registers text s.points base n ≡ Some to → Reached n to
  unfolding registers
  reached zero to is = let same : base ≡ to = cc in subst (Reached 0) same none
  reached (suc n) to is = by (registers text s.points base n) (λ mid so_far. reached n mid so_far) refl is
    where
      by : (o : Option Hart) → ((mid : Hart) → o ≡ Some mid → Reached n mid) → registers text s.points base n ≡ o → then_next text s.points o ≡ Some to → Reached (suc n) to
      by None before so_far one = absurd (cc)
      by (Some mid) before so_far one = let count : n + 1 ≡ suc n = omega arith in subst (λ k. Reached k to) count (more n mid to (before mid refl) one)

-- a stretch is acts of the run, and puts its last hart into the slot
pub record Stretched (s : State) (h : ℕ) (after : Hart) (count : ℕ) : Type 0 where
  pub is : ran s h count ≡ record s { slots = changed (on_hart (λ before. after)) h s.slots; steps = s.steps + count }
  pub goes : can_run s h count ≡ true
  pub ready : is_ready_at s h ≡ true
  pub within : s.steps + count ≤ s.budget

room_for : (s : State) (count : ℕ) → s.steps ≤ s.budget → 1 ≤ count → count ≤ steps_left s → (nat_lt RECORD_BYTES (record_bytes s) ≡ false) × (s.steps + count ≤ s.budget)
room_for s count upto some room = by (nat_lt RECORD_BYTES (record_bytes s)) room
  where
    by : (b : Bool) → count ≤ (if b then 0 else s.budget - s.steps) → (b ≡ false) × (s.steps + count ≤ s.budget)
    by true e = absurd (omega (arith, e, some))
    by false e = (refl, omega (arith, e, upto, some))

pub stretched_by : (s : State) (h : ℕ) (base after : Hart) (count : ℕ) → s.steps ≤ s.budget → 1 ≤ count → IsStretch s h base after count → Stretched s h after count
stretched_by s h base after count upto some stretch =
    let room = room_for s count upto some stretch.room in
    let end = reached s h base stretch.text stretch.kept stretch.tells stretch.ready room.0 count after stretch.made in
    let put : changed (on_hart (λ before. after)) h s.slots ≡ set s.slots h (slot_of after) = changed_is (on_hart (λ before. after)) h s.slots (slot_of base) stretch.kept in
    record {
      is = end.is ∙ (λ i. record s { slots = sym put i; steps = s.steps + count });
      goes = end.goes room.1;
      ready = ap is_ready_slot stretch.kept ∙ stretch.ready;
      within = room.1;
    }
