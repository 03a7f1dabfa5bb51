-- A turn leaves fewer turns ahead.
use Rattle.std.proofs.Common.{◌≡◌, ℕ, zero, suc, ◌+◌, ◌-◌, ◌*◌, ◌<◌, ◌≤◌, Bool, true, false, if◌then◌else◌, List, [], ◌∷◌, length, set, option_map, Option, Some, None, slice_get, refl, ap, ◌∙◌, subst, arith}
use Rattle.std.proofs.Math.Nat.{mul-le-mul_left, mul-add}
use Rattle.std.proofs.lemmas.Option.{slice_get-map}
use Rattle.guest_words.specs.declared.hart.Slot.{Slot}
use Rattle.guest_words.specs.declared.point.Ret.{Ret}
use Rattle.guest_words.specs.declared.point.Ret.TheVariants.{Code, Void}
use Rattle.guest_words.specs.declared.fault.Fault.{Fault as FaultAt}
use Rattle.guest_words.specs.declared.point.PointRef.{PointRef}
use Rattle.guest_words.specs.Points.{code_of}
use Rattle.guest_words.specs.Harts.{unreserved}
use Rattle.guest_words.specs.State.{State, changed, changed_by, closed, on_each, on_hart}
use Rattle.run_history.specs.After.{given_back, rescued_from}
use Rattle.run_history.specs.Ahead.{arrival_ahead}
use Rattle.run_history.proofs.Kept.{Rest, rescued_keeps}
use Rattle.run_history.proofs.SlotCount.{rescued_count}
use Rattle.lone_schedule.specs.Ahead.{arrival, arrivals, turns_ahead}

one_or_none : (slot : Slot) → arrival slot ≤ 1
one_or_none slot = by slot.hart.arrived
  where
    by : (b : Bool) → (if b then 1 else 0) ≤ 1
    by true = omega arith
    by false = omega arith

arrivals_few : (slots : List Slot) → arrivals slots ≤ length slots
arrivals_few [] = omega arith
arrivals_few (slot ∷ slots) = let here = one_or_none slot in let rest = arrivals_few slots in omega (arith, here, rest)

-- a step more, after which all harts may have arrived
pub step_nearer : (s t : State) → length t.slots ≡ length s.slots → t.budget ≡ s.budget → s.steps < s.budget → s.steps < t.steps → turns_ahead t < turns_ahead s
step_nearer s t slots budget left more =
    let k = length s.slots + 1 in
    let x = s.budget - t.steps in
    let less : x + 1 ≤ s.budget - s.steps = omega (arith, left, more) in
    let wide = mul-le-mul_left k less in
    let spread : k * (x + 1) ≡ k * x + k * 1 = mul-add k x 1 in
    let few : arrivals t.slots ≤ length s.slots = subst (λ n. arrivals t.slots ≤ n) slots (arrivals_few t.slots) in
    let now : turns_ahead t ≡ k * x + arrivals t.slots =
    ap (λ n. (n + 1) * (t.budget - t.steps) + arrivals t.slots) slots ∙ ap (λ n. k * (n - t.steps) + arrivals t.slots) budget in
    omega (arith, wide, spread, few, now)

-- one arrival less, with no step less

set_arrivals : (slots : List Slot) (h : ℕ) (x slot : Slot) → slice_get slots h ≡ Some slot → arrivals (set slots h x) + arrival slot ≡ arrivals slots + arrival x
set_arrivals [] h x slot is = cc
set_arrivals (y ∷ ys) zero x slot is = let same : y ≡ slot = cc in let as_one = ap arrival same in omega (arith, as_one)
set_arrivals (y ∷ ys) (suc h) x slot is = let rest = set_arrivals ys h x slot is in omega (arith, rest)

changed_arrivals : (f : Slot → Slot) (h : ℕ) (slots : List Slot) (slot : Slot) → slice_get slots h ≡ Some slot
    → arrivals (changed f h slots) + arrival slot ≡ arrivals slots + arrival (f slot)
unfolding changed
changed_arrivals f h slots slot is =
    ap (λ o. arrivals (changed_by f h slots o) + arrival slot) is ∙ set_arrivals slots h (f slot) slot is

same_arrivals : (f : Slot → Slot) (h : ℕ) (slots : List Slot) → ((slot : Slot) → arrival (f slot) ≡ arrival slot) → arrivals (changed f h slots) ≡ arrivals slots
unfolding changed
same_arrivals f h slots keeps = by (slice_get slots h) refl
  where
    by : (o : Option Slot) → slice_get slots h ≡ o → arrivals (changed_by f h slots o) ≡ arrivals slots
    by None is = refl
    by (Some slot) is =
        let one = set_arrivals slots h (f slot) slot is in
        let kept = keeps slot in
        omega (arith, one, kept)

each_arrivals : (slots : List Slot) → arrivals (on_each unreserved slots) ≡ arrivals slots
each_arrivals [] = refl
each_arrivals (slot ∷ slots) = ap (λ n. arrival slot + n) (each_arrivals slots)

back_arrival : (ret : Ret) (slot : Slot) → arrival (on_hart (given_back ret) slot) ≡ 0
back_arrival (Code value) slot = refl
back_arrival Void slot = refl

fewer_arrivals : (h : ℕ) (ret : Ret) (slots : List Slot) → arrival_ahead (slice_get slots h) ≡ 2
    → arrivals (changed closed h (changed (on_hart (given_back ret)) h (on_each unreserved slots))) + 1 ≡ arrivals slots
fewer_arrivals h ret slots jumped = by (slice_get slots h) refl jumped
  where
    one : (b : Bool) → ◌≡◌ {A = ℕ} (if b then 2 else 0) 2 → ◌≡◌ {A = ℕ} (if b then 1 else 0) 1
    one true is = refl
    one false is = absurd (cc is)

    by : (o : Option Slot) → slice_get slots h ≡ o → arrival_ahead o ≡ 2
        → arrivals (changed closed h (changed (on_hart (given_back ret)) h (on_each unreserved slots))) + 1 ≡ arrivals slots
    by None is two = absurd (cc two)
    by (Some slot) is two =
        let plain = on_each unreserved slots in
        let at : slice_get plain h ≡ Some (on_hart unreserved slot) = slice_get-map (on_hart unreserved) slots h ∙ ap (option_map (on_hart unreserved)) is in
        let first = changed_arrivals (on_hart (given_back ret)) h plain (on_hart unreserved slot) at in
        let none = back_arrival ret (on_hart unreserved slot) in
        let all = each_arrivals slots in
        let last = same_arrivals closed h (changed (on_hart (given_back ret)) h plain) (λ x. refl) in
        let arrived : arrival slot ≡ 1 = one slot.hart.arrived two in
        omega (arith, first, none, all, last, arrived)

rescued_arrivals : (s : State) (h : ℕ) (p : PointRef) (f : FaultAt) (t : State) → arrival_ahead (slice_get s.slots h) ≡ 2
    → arrivals (rescued_from s h p f t).slots + 1 ≡ arrivals s.slots
unfolding rescued_from
rescued_arrivals s h p f t jumped = fewer_arrivals h (code_of s.points p.entry f.name) s.slots jumped

rescued_steps : (s : State) (h : ℕ) (p : PointRef) (f : FaultAt) (t : State) → (rescued_from s h p f t).steps ≡ t.steps
unfolding rescued_from
rescued_steps s h p f t = refl

pub rescue_nearer : (s : State) (h : ℕ) (p : PointRef) (f : FaultAt) (t : State) → arrival_ahead (slice_get s.slots h) ≡ 2 → s.steps ≤ t.steps
    → turns_ahead (rescued_from s h p f t) < turns_ahead s
rescue_nearer s h p f t jumped later =
    let u = rescued_from s h p f t in
    let k = length s.slots + 1 in
    let budget : u.budget ≡ s.budget = ap (λ (r : Rest). r.budget) (rescued_keeps s h p f t) in
    let fewer = rescued_arrivals s h p f t jumped in
    let less : s.budget - t.steps ≤ s.budget - s.steps = omega (arith, later) in
    let wide = mul-le-mul_left k less in
    let now : turns_ahead u ≡ k * (s.budget - t.steps) + arrivals u.slots =
    ap (λ n. (n + 1) * (u.budget - u.steps) + arrivals u.slots) (rescued_count s h p f t)
    ∙ ap (λ n. k * (n - u.steps) + arrivals u.slots) budget
    ∙ ap (λ n. k * (s.budget - n) + arrivals u.slots) (rescued_steps s h p f t) in
    omega (arith, wide, fewer, now)
