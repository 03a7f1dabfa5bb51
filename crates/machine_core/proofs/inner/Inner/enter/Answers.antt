use Rattle.std.proofs.Common.{◌≡◌, ◌<◌, ◌&&◌, Bool, true, false, List, nat_lt, if◌then◌else◌, ℕ, None, Some, refl, length, ap, sym, ◌∙◌, subst, arith}
use Rattle.std.proofs.lemmas.Bool.Decides.{nat_tests}
use Rattle.guest_words.specs.declared.limits.TheConstants.{FRAMES}
use Rattle.guest_words.specs.declared.hart.Hart.{Hart}
use Rattle.guest_words.specs.declared.point.Point.{Point}
use Rattle.guest_words.specs.declared.point.PointRef.{PointRef}
use Rattle.guest_words.specs.Act.{Arrival, act_of}
use Rattle.guest_words.specs.Endings.{is_budget_spent}
use Rattle.guest_words.specs.HartAct.{arrival_of}
use Rattle.guest_words.specs.Points.{active_at}
use Rattle.guest_words.specs.State.{State, enter, frame_count, frames_at}
use Rattle.edge_ports.specs.Seen.{Seen}
use Rattle.run_history.specs.Ahead.{ahead}
use Rattle.run_history.proofs.Arrivals.{act_arrives}
use Rattle.hart_step.specs.Live.{Live}
use Rattle.open_calls.specs.Nest.{Nest, Stack, mark_in, opened}
use Rattle.machine_core.specs.Inner.{Inner, IsGoing, inner_of, whole_in}
use Rattle.machine_core.specs.OpenSteps.{EntersAt}
use Rattle.machine_core.proofs.Growing.{unnoted_mark}
use Rattle.machine_core.proofs.Opening.{entered_records, enters, enters_hold, enters_nearer}
use Rattle.machine_core.proofs.inner.Inner.enter.Given as given
use Rattle.machine_core.proofs.inner.Inner.enter.Goals as goal

-- an arrival is seen only where a further frame can open
few_frames : (points : List Point) (frames : ℕ) (hart : Hart) (p : PointRef) → arrival_of points frames hart ≡ Some p → frames < FRAMES
few_frames points frames hart p is = by hart.arrived (nat_lt frames FRAMES) refl is
  where
    by : (a b : Bool) → nat_lt frames FRAMES ≡ b → (if a && b then active_at points hart.pc else None) ≡ Some p → frames < FRAMES
    by true true few is = grind (arith, nat_tests, few)
    by true false few is = cc
    by false b few is = cc

arrival_few : (s : State) (h : ℕ) (p : PointRef) → act_of s h ≡ Arrival p → frames_at s h < FRAMES
arrival_few s h p is =
    let at = act_arrives s h p is in
    subst (λ o. frame_count o < FRAMES) (sym at.is) (few_frames s.points (length at.slot.frames) at.slot.hart p at.at)

pub open-requires-clause-few : goal.open-requires-clause-few
open-requires-clause-few g c =
    let s = c.self.inside.engine.state in
    let going = subst IsGoing (sym c.self.view_is) c.requires.going in
    let arrives : act_of s c.self.inside.calls.hart ≡ Arrival c.args.point = subst (λ (x : Inner). act_of x.live.state x.hart ≡ Arrival c.args.point) (sym c.self.view_is) c.requires.arrives in
    let few = arrival_few s c.self.inside.calls.hart c.args.point arrives in
    let level = going.framed in
    let same = ap (λ (s : Stack). length s.nest.outers) c.next_list.ensures.same ∙ ap (λ (n : Nest). length n.outers) c.make_room.ensures.nest in
    omega (arith, few, level, same)

abbrev w : (g : given.Over) (c : goal.After-open g) → Inner
w g c = inner_of c.self.inside.engine c.self.inside.calls c.self.inside.log c.self.inside.abandoned

abbrev v : (g : given.Over) (c : goal.After-open g) → Inner
v g c = inner_of c.enter.new.self c.open.new.self c.make_room.new.log c.self.inside.abandoned

going : (g : given.Over) (c : goal.After-open g) → IsGoing (w g c)
going g c = subst IsGoing (sym c.self.view_is) c.requires.going

fresh : (g : given.Over) (c : goal.After-open g) → is_budget_spent (w g c).live.state ≡ false
fresh g c = ap (λ (x : Inner). is_budget_spent x.live.state) c.self.view_is ∙ c.requires.left

arrives : (g : given.Over) (c : goal.After-open g) → act_of (w g c).live.state (w g c).hart ≡ Arrival c.args.point
arrives g c = ap (λ (x : Inner). act_of x.live.state x.hart) c.self.view_is ∙ c.requires.arrives

live : (g : given.Over) (c : goal.After-open g) → (v g c).live ≡ record (w g c).live { state = enter (w g c).live.state (w g c).hart c.args.point }
live g c = c.in_ok-enter.ensures.ok ∙ (λ i. record c.self.inside.engine { state = enter c.self.inside.engine.state (c.hart-hart.ensures.value i) c.args.point })

nest : (g : given.Over) (c : goal.After-open g) → (v g c).nest ≡ opened c.args.point c.in_ok-kept.kept c.length-mark.result (w g c).nest
nest g c =
    c.open.ensures.nest
    ∙ ap (opened c.args.point c.in_ok-kept.kept c.length-mark.result) (ap (λ (s : Stack). s.nest) c.next_list.ensures.same ∙ c.make_room.ensures.nest)

hart : (g : given.Over) (c : goal.After-open g) → (v g c).hart ≡ (w g c).hart
hart g c = c.open.ensures.hart ∙ ap (λ (s : Stack). s.hart) c.next_list.ensures.same ∙ c.make_room.ensures.hart

pub invariant_of-self-2 : goal.invariant_of-self-2
invariant_of-self-2 g c =
    let e = c.in_ok-kept.ensures in
    enters_hold g.K.Origin.state g.K.Origin.devices (w g c) (v g c) c.self.inside.log c.make_room.new.log c.self.invariant (going g c) (fresh g c) c.args.point c.in_ok-kept.kept c.length-mark.result (arrives g c)
    (live g c) (nest g c) (hart g c) refl
    (record { harts = e.harts; queue = e.queue; next_tid = e.next_tid }) e.returns (c.length-mark.ensures.value ∙ ap length c.make_room.ensures.same) c.make_room.ensures.same

pub returns-clause-ok : goal.returns-clause-ok
returns-clause-ok g c =
    subst (λ (x : Inner). (d : Seen) → EntersAt x.hart c.args.point (whole_in x d) (whole_in (v g c) d)) c.self.view_is
    (enters g.K.Origin.state g.K.Origin.devices (w g c) (v g c) c.self.inside.log c.make_room.new.log c.self.invariant (going g c) (fresh g c) c.args.point c.in_ok-kept.kept c.length-mark.result (arrives g c)
    (live g c) (nest g c) (hart g c) refl)

pub returns-clause-records : goal.returns-clause-records
returns-clause-records g c =
    ap (λ (l : Live). l.state.records) (live g c) ∙ entered_records (w g c).live.state (w g c).hart c.args.point
    ∙ ap (λ (x : Inner). x.live.state.records) c.self.view_is

pub returns-clause-notes : goal.returns-clause-notes
returns-clause-notes g c = c.make_room.ensures.same ∙ ap (λ (x : Inner). x.notes) c.self.view_is

pub returns-clause-none : goal.returns-clause-none
returns-clause-none g c =
    let depth = ap (λ (n : Nest). length n.outers) (nest g c) in
    let mark = ap mark_in (nest g c) in
    let all = c.length-mark.ensures.value in
    unnoted_mark (v g c).nest (v g c).notes (omega (arith, depth)) (omega (arith, mark, all))

pub returns-clause-nearer : goal.returns-clause-nearer
returns-clause-nearer g c =
    subst (λ (x : Inner). ahead (v g c).live.state x.hart < ahead x.live.state x.hart) c.self.view_is
    (enters_nearer g.K.Origin.state g.K.Origin.devices (w g c) (v g c) c.self.inside.log c.make_room.new.log c.self.invariant (going g c) (fresh g c) c.args.point c.in_ok-kept.kept c.length-mark.result (arrives g c)
    (live g c) (nest g c) (hart g c) refl)

pub returns-clause-going : goal.returns-clause-going
returns-clause-going g c =
    let e = c.in_ok-kept.ensures in
    (enters_hold g.K.Origin.state g.K.Origin.devices (w g c) (v g c) c.self.inside.log c.make_room.new.log c.self.invariant (going g c) (fresh g c) c.args.point c.in_ok-kept.kept c.length-mark.result (arrives g c)
    (live g c) (nest g c) (hart g c) refl
    (record { harts = e.harts; queue = e.queue; next_tid = e.next_tid }) e.returns (c.length-mark.ensures.value ∙ ap length c.make_room.ensures.same) c.make_room.ensures.same).called (let depth = ap (λ (n : Nest). length n.outers) (nest g c) in omega (arith, depth))
