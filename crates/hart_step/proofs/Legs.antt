-- Parts of a row of acts.
use Rattle.std.proofs.Common.{◌≡◌, ℕ, ◌+◌, ◌-◌, ◌<◌, ◌≤◌, Bool, true, false, not, length, slice_get, Option, Some, None, option_map, refl, ap, sym, ◌∙◌, subst, arith, inl, inr}
use Rattle.std.proofs.lemmas.Bool.{and_from, or_parts}
use Rattle.std.proofs.lemmas.Bool.Decides.{leb_tells}
use Rattle.std.proofs.lemmas.Option.{slice_get_within}
use Rattle.guest_words.specs.declared.act.Act.{Act}
use Rattle.guest_words.specs.declared.act.Act.TheVariants as act
use Rattle.guest_words.specs.declared.fault.FaultName.{FaultName}
use Rattle.guest_words.specs.declared.hart.Slot.{Slot}
use Rattle.guest_words.specs.Act.{StateAct, Ordinary, Fault, Request, Arrival, End, Absent, act_of}
use Rattle.guest_words.specs.Endings.{is_budget_spent}
use Rattle.guest_words.specs.State.{State, frames_at}
use Rattle.run_history.specs.After.{next, ran}
use Rattle.run_history.specs.Legal.{is_ordinary, is_ready_at, is_ready_slot}
use Rattle.run_history.proofs.FewerFrames.{next_fewer}
use Rattle.run_history.proofs.RunSteps.{can_run-both, can_run-none, can_run-one, ran-both, ran-none, ran-one}
use Rattle.hart_step.specs.declared.next_act.NextAct.{NextAct}
use Rattle.hart_step.specs.declared.next_act.NextAct.TheVariants as next_act
use Rattle.hart_step.specs.declared.did.Did.TheVariants as did
use Rattle.hart_step.specs.InPlace.{did_of}
use Rattle.hart_step.specs.Legs.{did_at, IsLeg}
use Rattle.hart_step.specs.Sees.{is_ordinary_act, named, Sees}
use Rattle.hart_step.specs.SlotActs.{act_at}
use Rattle.hart_step.specs.Stops.{is_held, wants_memory, Stops, StopsAt}
use Rattle.hart_step.proofs.SlotActs.{act_of-at}

-- a hart that isn't held is ready, and the budget isn't spent
pub free_ready : (s : State) (h : ℕ) → is_held s h ≡ false → is_ready_at s h ≡ true
free_ready s h free = by (is_ready_at s h) ((or_parts (not (is_ready_at s h)) (is_budget_spent s) free).0)
  where
    by : (b : Bool) → not b ≡ false → b ≡ true
    by true e = refl
    by false e = cc

pub free_left : (s : State) (h : ℕ) → is_held s h ≡ false → is_budget_spent s ≡ false
free_left s h free = (or_parts (not (is_ready_at s h)) (is_budget_spent s) free).1

-- no act
pub leg_none : (noted : Bool) (s : State) (h : ℕ) → IsLeg noted s s h 0
leg_none noted s h = record { legal = can_run-none s h; after = sym (ran-none s h); plain = λ fewer less. absurd (omega (arith, less)) }

ordinary_seen : (a : StateAct) → named a ≡ Some next_act.Ordinary → is_ordinary a ≡ true
ordinary_seen (Ordinary t) e = refl
ordinary_seen (Fault name) e = cc
ordinary_seen (Request way port asked place) e = cc
ordinary_seen (Arrival point) e = cc
ordinary_seen (End code) e = cc
ordinary_seen Absent e = cc

-- one act
pub leg_one : (noted : Bool) (s t : State) (h : ℕ) → is_held s h ≡ false → wants_memory noted s h ≡ false → Sees s h next_act.Ordinary → t ≡ next s h → IsLeg noted s t h 1
leg_one noted s t h free wants sees is =
    record {
      legal = can_run-one s h (and_from _ _ (and_from _ _ (ap not (free_left s h free)) (free_ready s h free)) (ordinary_seen (act_of s h) sees));
      after = is ∙ sym (ran-one s h);
      plain = λ fewer less.
          let first : 0 ≡ fewer = omega (arith, less) in
          subst (λ (k : ℕ). (frames_at (ran s h k) h ≡ frames_at s h) × (wants_memory noted (ran s h k) h ≡ false)) first
          (ap (λ (u : State). frames_at u h) (ran-none s h), ap (λ (u : State). wants_memory noted u h) (ran-none s h) ∙ wants);
    }

-- two parts, the first of which closes no frame
pub leg_joined : (noted : Bool) (s t u : State) (h m n : ℕ) → IsLeg noted s t h m → frames_at t h ≡ frames_at s h → IsLeg noted t u h n → IsLeg noted s u h (m + n)
leg_joined noted s t u h m n first stays second =
    let there = first.after in
    record {
      legal = can_run-both s h m n first.legal (subst (λ (x : State). IsLeg noted x u h n) there second).legal;
      after = second.after ∙ ap (λ (x : State). ran x h n) there ∙ sym (ran-both s h m n);
      plain = λ fewer less. elim (leb_tells m fewer) [
        | inl past ↦
            let k = fewer - m in
            let over = past.1 in
            let split : m + k ≡ fewer = omega (arith, over) in
            let same : ran t h k ≡ ran s h fewer = ap (λ (x : State). ran x h k) there ∙ sym (ran-both s h m k) ∙ ap (ran s h) split in
            let plain = second.plain k (omega (arith, less, over)) in
            (ap (λ (x : State). frames_at x h) (sym same) ∙ plain.0 ∙ stays, ap (λ (x : State). wants_memory noted x h) (sym same) ∙ plain.1)
        | inr below ↦ first.plain fewer below.1
      ];
    }

-- an act opens no frame
pub act_open : (s t : State) (h : ℕ) → t ≡ next s h → (frames_at t h < frames_at s h → ⊥) → frames_at t h ≡ frames_at s h
act_open s t h is stays =
    let few : frames_at (next s h) h ≤ frames_at s h = next_fewer s h h in
    let same : frames_at t h ≡ frames_at (next s h) h = ap (λ (x : State). frames_at x h) is in
    elim (leb_tells (frames_at s h) (frames_at t h)) [
      | inl past ↦ let over = past.1 in omega (arith, few, same, over)
      | inr below ↦ absurd (stays below.1)
    ]

-- a ready hart is in a slot that is there
pub ready_within : (s : State) (h : ℕ) → is_ready_at s h ≡ true → h < length s.slots
ready_within s h ready = by (slice_get s.slots h) refl ready
  where
    by : (o : Option Slot) → slice_get s.slots h ≡ o → is_ready_slot o ≡ true → h < length s.slots
    by None is e = cc
    by (Some slot) is e = slice_get_within s.slots h slot is

-- a part without acts

pub leg_empty : (noted : Bool) (s t : State) (h n : ℕ) → t ≡ s → n ≡ 0 → IsLeg noted s t h n
leg_empty noted s t h n same none = subst (λ k. IsLeg noted s t h k) (sym none) (subst (λ (u : State). IsLeg noted s u h 0) (sym same) (leg_none noted s h))

pub leg_still : (noted : Bool) (s t : State) (h n : ℕ) → IsLeg noted s t h n → n ≡ 0 → t ≡ s
leg_still noted s t h n leg none = leg.after ∙ ap (ran s h) none ∙ ran-none s h

-- acts that aren't ordinary stop a row

pub other_act : (is : NextAct) → (is ≡ next_act.Ordinary → ⊥) → is_ordinary_act is ≡ false
other_act next_act.Ordinary other = absurd (other refl)
other_act (next_act.Fault name) other = refl
other_act (next_act.Request ask) other = refl
other_act (next_act.Arrival point) other = refl
other_act (next_act.End code) other = refl

pub stops_other : (noted : Bool) (s : State) (h : ℕ) (is : NextAct) → is_ordinary_act is ≡ false → Sees s h is → is_held s h ≡ false → StopsAt noted s h is
stops_other noted s h next_act.Ordinary other sees free = absurd (cc)
stops_other noted s h (next_act.Fault name) other sees free = record { act = sees; reason = tt; free = free }
stops_other noted s h (next_act.Request ask) other sees free = record { act = sees; reason = tt; free = free }
stops_other noted s h (next_act.Arrival point) other sees free = record { act = sees; reason = tt; free = free }
stops_other noted s h (next_act.End code) other sees free = record { act = sees; reason = tt; free = free }

-- what stops a part that begins with as many frames stops the whole
pub stops_whole : (noted : Bool) (s t u : State) (h : ℕ) (next : Option NextAct) → frames_at t h ≡ frames_at s h → Stops noted t u h next → Stops noted s u h next
stops_whole noted s t u h None same (inl held) = inl held
stops_whole noted s t u h None same (inr fewer) = inr (omega (arith, same, fewer))
stops_whole noted s t u h (Some is) same stops = stops

-- a hart that meets a fault next is seen to
pub fault_next : (s : State) (h : ℕ) (name : FaultName) → did_at s h ≡ Some (did.Fault name) → Sees s h (next_act.Fault name)
fault_next s h name is = by (act_at s h) refl is
  where
    by : (o : Option Act) → act_at s h ≡ o → option_map did_of o ≡ Some (did.Fault name) → Sees s h (next_act.Fault name)
    by None at e = absurd (cc)
    by (Some (act.Next hart None)) at e = absurd (cc)
    by (Some (act.Next hart (Some write))) at e = absurd (cc)
    by (Some (act.Fault other)) at e =
        let same : other ≡ name = cc in
        ap named (act_of-at s h (act.Fault other) at) ∙ ap (λ (n : FaultName). Some (next_act.Fault n)) same
    by (Some (act.Call call)) at e = absurd (cc)
    by (Some (act.Arrived point)) at e = absurd (cc)
