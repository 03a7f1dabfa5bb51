-- Each entry that a hart makes lowers the bound on what is ahead of it.
use Rattle.std.proofs.Common.{◌≡◌, ℕ, ◌+◌, ◌<◌, ◌≤◌, Bool, true, false, ◌&&◌, nat_lt, if◌then◌else◌, Option, Some, None, option_map, refl, ap, ◌∙◌, slice_get, arith}
use Rattle.std.proofs.lemmas.Bool.Decides.{nat_tests}
use Rattle.std.proofs.lemmas.Option.{slice_get-map}
use Rattle.guest_words.specs.declared.fault.Fault.{Fault as FaultAt}
use Rattle.guest_words.specs.declared.hart.Slot.{Slot}
use Rattle.guest_words.specs.declared.point.PointRef.{PointRef}
use Rattle.guest_words.specs.declared.point.Ret.{Ret}
use Rattle.guest_words.specs.declared.point.Ret.TheVariants.{Code, Void}
use Rattle.guest_words.specs.declared.record.Record.{Record}
use Rattle.guest_words.specs.Harts.{opened, unreserved}
use Rattle.guest_words.specs.Points.{code_of}
use Rattle.guest_words.specs.State.{State, changed, closed, enter, frames_at, on_each, on_hart}
use Rattle.run_history.specs.declared.entry.Entry.{Ran, Entered, Called}
use Rattle.run_history.specs.After.{after, called, given_back, ran, rescued_from}
use Rattle.run_history.specs.Ahead.{ahead, arrival_ahead}
use Rattle.run_history.specs.Legal.{can_run, is_going, is_ready_at, legal, may_act}
use Rattle.run_history.proofs.Ands.{and_left, and_right}
use Rattle.run_history.proofs.Arrivals.{arrival_arrived}
use Rattle.run_history.proofs.EnteredFrames.{frames_entered_ready}
use Rattle.run_history.proofs.FewerFrames.{called_fewer, ran_fewer, rescued_fewer}
use Rattle.run_history.proofs.Kept.{Rest, called_keeps, enter_keeps, ran_keeps, rescued_keeps}
use Rattle.run_history.proofs.Slots.{changed-get}
use Rattle.run_history.proofs.StepsAfter.{called_steps, may_step, ran_steps, ran_within}

few : (o : Option Slot) → arrival_ahead o ≤ 2
few None = omega arith
few (Some slot) = by slot.hart.arrived
  where
    by : (b : Bool) → (if b then 2 else 0) ≤ 2
    by true = omega arith
    by false = omega arith

pub ahead_ran : (s : State) (h n : ℕ) → legal s (Ran h n) ≡ true → s.steps ≤ s.budget → ahead (after s (Ran h n)) h < ahead s h
unfolding legal after
ahead_ran s h n is within =
    let t = ran s h n in
    let can : can_run s h n ≡ true = and_right (may_act s h && nat_lt 0 n) _ is in
    let positive : nat_lt 0 n ≡ true = and_right (may_act s h) _ (and_left _ _ is) in
    let some : 0 < n = grind (arith, nat_tests, positive) in
    let steps : t.steps ≡ s.steps + n = ran_steps s h n can in
    let budget : t.budget ≡ s.budget = ap (λ (r : Rest). r.budget) (ran_keeps s h n) in
    let most : s.steps + n ≤ s.budget = ran_within s h n can within in
    let frames : frames_at t h ≤ frames_at s h = ran_fewer s h n h in
    let arrival : arrival_ahead (slice_get t.slots h) ≤ 2 = few (slice_get t.slots h) in
    omega (arith, some, steps, budget, most, frames, arrival)

pub ahead_called : (s : State) (h : ℕ) (call : Record) → legal s (Called h call) ≡ true → s.steps ≤ s.budget → ahead (after s (Called h call)) h < ahead s h
unfolding legal after
ahead_called s h call is within =
    let t = called s h call in
    let less : s.steps < s.budget = may_step s h (and_left _ _ is) within in
    let steps : t.steps ≡ s.steps + 1 = called_steps s h call in
    let budget : t.budget ≡ s.budget = ap (λ (r : Rest). r.budget) (called_keeps s h call) in
    let frames : frames_at t h ≤ frames_at s h = called_fewer s h call h in
    let arrival : arrival_ahead (slice_get t.slots h) ≤ 2 = few (slice_get t.slots h) in
    omega (arith, less, steps, budget, frames, arrival)

-- a hart that has entered a point isn't arrived
entered_still : (s : State) (h : ℕ) (p : PointRef) → arrival_ahead (slice_get (enter s h p).slots h) ≡ 0
unfolding enter
entered_still s h p =
    ap arrival_ahead (slice_get-map (on_hart unreserved) (changed (opened p) h s.slots) h ∙ ap (option_map (on_hart unreserved)) (changed-get (opened p) h s.slots))
    ∙ by (slice_get s.slots h)
  where
    by : (o : Option Slot) → arrival_ahead (option_map (on_hart unreserved) (option_map (opened p) o)) ≡ 0
    by None = refl
    by (Some slot) = refl

entered_steps : (s : State) (h : ℕ) (p : PointRef) → (enter s h p).steps ≡ s.steps
unfolding enter
entered_steps s h p = refl

pub ahead_entered : (s : State) (h : ℕ) (p : PointRef) → legal s (Entered h p) ≡ true → ahead (after s (Entered h p)) h < ahead s h
unfolding legal after
ahead_entered s h p is =
    let t = enter s h p in
    let may : may_act s h ≡ true = and_left _ _ is in
    let ready : is_ready_at s h ≡ true = and_right (is_going s) _ (and_left _ _ may) in
    let frames : frames_at t h ≡ frames_at s h + 1 = frames_entered_ready s h p ready in
    let before : arrival_ahead (slice_get s.slots h) ≡ 2 = arrival_arrived s h p (and_right (may_act s h) _ is) in
    let behind : arrival_ahead (slice_get t.slots h) ≡ 0 = entered_still s h p in
    let budget : t.budget ≡ s.budget = ap (λ (r : Rest). r.budget) (enter_keeps s h p) in
    let steps : t.steps ≡ s.steps = entered_steps s h p in
    omega (arith, frames, before, behind, budget, steps)

-- nor is one whose call is taken back
rescued_still : (s : State) (h : ℕ) (p : PointRef) (f : FaultAt) (t : State) → arrival_ahead (slice_get (rescued_from s h p f t).slots h) ≡ 0
unfolding rescued_from
rescued_still s h p f t =
    let plain = on_each unreserved s.slots in
    let back = given_back (code_of s.points p.entry f.name) in
    ap arrival_ahead (changed-get closed h (changed (on_hart back) h plain) ∙ ap (option_map closed) (changed-get (on_hart back) h plain))
    ∙ by (code_of s.points p.entry f.name) (slice_get plain h)
  where
    by : (ret : Ret) (o : Option Slot) → arrival_ahead (option_map closed (option_map (on_hart (given_back ret)) o)) ≡ 0
    by ret None = refl
    by (Code value) (Some slot) = refl
    by Void (Some slot) = refl

rescued_steps : (s : State) (h : ℕ) (p : PointRef) (f : FaultAt) (t : State) → (rescued_from s h p f t).steps ≡ t.steps
unfolding rescued_from
rescued_steps s h p f t = refl

-- a call that is taken back leaves less ahead than there was at its end
pub ahead_rescued : (s : State) (h : ℕ) (p : PointRef) (f : FaultAt) (t : State) → s.budget ≡ t.budget → frames_at s h < frames_at t h → ahead (rescued_from s h p f t) h < ahead t h
ahead_rescued s h p f t budget above =
    let u = rescued_from s h p f t in
    let kept : u.budget ≡ s.budget = ap (λ (r : Rest). r.budget) (rescued_keeps s h p f t) in
    let steps : u.steps ≡ t.steps = rescued_steps s h p f t in
    let frames : frames_at u h ≤ frames_at s h = rescued_fewer s h p f t h in
    let still : arrival_ahead (slice_get u.slots h) ≡ 0 = rescued_still s h p f t in
    omega (arith, budget, above, kept, steps, frames, still)
