use Rattle.std.proofs.Common.{◌≡◌, ◌+◌, ◌<◌, ◌≤◌, ◌++◌, ℕ, true, false, length, max, inl, inr, OnOk, OnErr, refl, ap, sym, ◌∙◌, subst, arith}
use Rattle.guest_words.specs.Endings.{is_budget_spent}
use Rattle.guest_words.specs.State.{State, frames_at}
use Rattle.edge_ports.specs.DevicesMatch.{DevicesMatch}
use Rattle.edge_ports.specs.Seen.{Seen, seen as told, spare}
use Rattle.run_history.specs.After.{ran}
use Rattle.run_history.specs.LastEntry.{with_acts}
use Rattle.run_history.specs.Legal.{can_run}
use Rattle.run_history.proofs.RunSteps.{ran-none}
use Rattle.hart_step.specs.Noted.{notes_for}
use Rattle.hart_step.specs.Stops.{IsPlainRow, Stops, is_held}
use Rattle.open_calls.specs.Nest.{Stack}
use Rattle.machine_core.specs.Inner.{Holds, Inner, IsGoing, inner_of}
use Rattle.machine_core.specs.Kept.{HasDevices}
use Rattle.machine_core.specs.OpenSteps.{StaysOpen}
use Rattle.machine_core.specs.Under.{Goes, IsWanting}
use Rattle.machine_core.proofs.Asking.{acts_goes, acts_hold, acts_records}
use Rattle.machine_core.proofs.Holding.{Puts}
use Rattle.machine_core.proofs.Making.{holds_log, made, not_held, on_err, same_inner, unmoved}
use Rattle.machine_core.proofs.inner.Inner.act.Given as given
use Rattle.machine_core.proofs.inner.Inner.act.Goals as goal

pub returns-then-is_err-clause-err : goal.returns-then-is_err-clause-err
returns-then-is_err-clause-err g c =
    let e = told g.S.Source.end g.T.Sink.end g.P.Port.end c.args.devices.now in
    let same = same_inner c.self.inside.engine c.self.inside.engine c.self.inside.calls c.make_room.new.calls c.self.inside.log c.make_room.new.log c.self.inside.abandoned c.make_room.ensures.nest c.make_room.ensures.hart c.make_room.ensures.same refl in
    subst (λ (x : Inner). OnErr c.fail_or_want.result (IsWanting x e c.fail_or_want.new.self e)) (same ∙ c.self.view_is)
    (on_err c.fail_or_want.result _ (IsWanting (inner_of c.self.inside.engine c.make_room.new.calls c.make_room.new.log c.self.inside.abandoned) e c.fail_or_want.new.self e) (λ all. all e) c.fail_or_want.ensures.err)

-- acts in a row were made

abbrev w : (g : given.Over) (c : goal.After-put_run g) → Inner
w g c = inner_of c.self.inside.engine c.self.inside.calls c.self.inside.log c.self.inside.abandoned

abbrev v : (g : given.Over) (c : goal.After-put_run g) → Inner
v g c = inner_of c.run-count.new.self c.put_run.new.self c.run-count.new.log c.self.inside.abandoned

own : (g : given.Over) (c : goal.After-put_run g) → c.hart-hart.result ≡ c.self.inside.calls.hart
own g c = c.hart-hart.ensures.value ∙ c.make_room.ensures.hart

puts_it : (g : given.Over) (c : goal.After-put_run g) → Puts (with_acts c.self.inside.calls.hart c.run-count.result.count) (w g c) (v g c) c.self.inside.log c.run-count.new.log
puts_it g c =
    let notes = c.run-count.ensures.notes in
    made c.self.inside.engine c.run-count.new.self c.self.inside.calls c.make_room.new.calls c.close_to.new.self c.put_run.new.self c.self.inside.log c.run-count.new.log c.self.inside.abandoned
    c.hart-hart.result c.close_to.new.self.hart c.frame_count.result (λ k es. with_acts k c.run-count.result.count es) notes.more
    c.make_room.ensures.nest c.make_room.ensures.hart (own g c) (ap (λ (x : Stack). x.hart) c.close_to.ensures.same ∙ c.make_room.ensures.hart) c.frame_count.ensures.value c.close_to.ensures.same
    c.put_run.ensures.nest c.put_run.ensures.hart (notes.behind ∙ ap (λ ns. ns ++ notes.more) c.make_room.ensures.same) (λ some. notes.lead refl) notes.spare

going : (g : given.Over) (c : goal.After-put_run g) → IsGoing (w g c)
going g c = c.self.invariant.called (subst (λ (x : Inner). 0 < length x.nest.outers) (sym c.self.view_is) c.requires.called)

fresh : (g : given.Over) (c : goal.After-put_run g) → is_budget_spent (w g c).live.state ≡ false
fresh g c = ap (λ (x : Inner). is_budget_spent x.live.state) c.self.view_is ∙ c.requires.left

goes : (g : given.Over) (c : goal.After-put_run g) → can_run (w g c).live.state (w g c).hart c.run-count.result.count ≡ true
goes g c = ap (λ h. can_run c.self.inside.engine.state h c.run-count.result.count) (sym (own g c)) ∙ c.run-count.ensures.legal

to : (g : given.Over) (c : goal.After-put_run g) → (v g c).live.state ≡ ran (w g c).live.state (w g c).hart c.run-count.result.count
to g c = c.run-count.ensures.after ∙ ap (λ h. ran c.self.inside.engine.state h c.run-count.result.count) (own g c)

stays : (g : given.Over) (c : goal.After-put_run g) → StaysOpen (w g c).live.state (w g c).hart c.run-count.result.count
stays g c = λ fewer less. (subst (λ h. IsPlainRow true c.self.inside.engine.state h c.run-count.result.count) (own g c) c.run-count.ensures.row fewer less).0

few : (g : given.Over) (c : goal.After-put_run g) → length (v g c).notes ≤ length (w g c).notes + max (notes_for (w g c).live.state (w g c).hart) c.run-count.result.count
few g c =
    let more = c.run-count.ensures.few in
    let same = ap length c.make_room.ensures.same in
    omega (arith, more, same)

pub invariant_of-self-then-count-gt0 : goal.invariant_of-self-then-count-gt0
invariant_of-self-then-count-gt0 g c =
    acts_hold g.K.Origin.state g.K.Origin.devices (w g c) (v g c) c.self.inside.log c.run-count.new.log c.self.invariant (going g c) (fresh g c)
    c.run-count.result.count c.if-count-gt0.true (goes g c) (to g c) (puts_it g c)

pub returns-then-count-gt0-clause-ok : goal.returns-then-count-gt0-clause-ok
returns-then-count-gt0-clause-ok g c =
    let e = told g.S.Source.end g.T.Sink.end g.P.Port.end c.args.devices.now in
    subst (λ (x : Inner). Goes g.K.Origin.state x e (v g c) e) c.self.view_is
    (acts_goes g.K.Origin.state g.K.Origin.devices (w g c) (v g c) c.self.inside.log c.run-count.new.log c.self.invariant (going g c) (fresh g c)
    c.run-count.result.count c.if-count-gt0.true (goes g c) (to g c) (puts_it g c) (stays g c) (few g c) e)

-- the devices match by the records alone
by_records : (told : Seen) (x y : Inner) (e : Seen) (n : ℕ) → y.live.state.records ≡ x.live.state.records → HasDevices told x e n → HasDevices told y e n
by_records told x y e n same k = record { matches = subst (λ rs. DevicesMatch told e 0 rs) (sym same) k.matches; closes = k.closes }

pub returns-then-count-gt0-clause-devices : goal.returns-then-count-gt0-clause-devices
returns-then-count-gt0-clause-devices g c =
    let e = told g.S.Source.end g.T.Sink.end g.P.Port.end c.args.devices.now in
    by_records g.K.Origin.devices (w g c) (v g c) e (spare c.args.devices.now)
    (acts_records g.K.Origin.state g.K.Origin.devices (w g c) (v g c) c.self.inside.log c.run-count.new.log c.self.invariant (going g c) (fresh g c)
    c.run-count.result.count c.if-count-gt0.true (goes g c) (to g c) (puts_it g c))
    (subst (λ (x : Inner). HasDevices g.K.Origin.devices x e (spare c.args.devices.now)) (sym c.self.view_is) c.requires.devices)

-- a ready hart with its budget left goes on
pub unreachable-requires : goal.unreachable-requires
unreachable-requires g c =
    let own = c.hart-hart.ensures.value ∙ c.make_room.ensures.hart in
    let none : c.run-count.result.count ≡ 0 = let few = c.if-count-gt0.false in omega (arith, few) in
    let going = c.self.invariant.called (subst (λ (x : Inner). 0 < length x.nest.outers) (sym c.self.view_is) c.requires.called) in
    let fresh : is_budget_spent c.self.inside.engine.state ≡ false = ap (λ (x : Inner). is_budget_spent x.live.state) c.self.view_is ∙ c.requires.left in
    let to = c.run-count.ensures.after ∙ ap (ran c.self.inside.engine.state c.hart-hart.result) none ∙ ran-none c.self.inside.engine.state c.hart-hart.result in
    let stops = subst (λ n. Stops true c.self.inside.engine.state c.run-count.new.self.state c.hart-hart.result n) c.in-None.is (c.run-count.ensures.stops (omega (arith, none))) in
    elim stops [
      | inl held ↦ not_held c.self.inside.engine.state c.self.inside.calls.hart going.under.ready fresh ((λ i. is_held (sym to i) (sym own i)) ∙ held)
      | inr fewer ↦ let same = ap (λ (s : State). frames_at s c.hart-hart.result) to in absurd (omega (arith, fewer, same))
    ]

-- no act was made

abbrev before : (g : given.Over) (c : goal.In-Some g) → Inner
before g c = inner_of c.self.inside.engine c.self.inside.calls c.self.inside.log c.self.inside.abandoned

abbrev after : (g : given.Over) (c : goal.In-Some g) → Inner
after g c = inner_of c.run-count.new.self c.make_room.new.calls c.run-count.new.log c.self.inside.abandoned

same : (g : given.Over) (c : goal.In-Some g) → (after g c ≡ before g c) × (c.run-count.new.log.notes ≡ c.self.inside.log.notes)
same g c =
    unmoved true c.self.inside.engine c.run-count.new.self c.self.inside.calls c.make_room.new.calls c.self.inside.log c.make_room.new.log c.run-count.new.log c.self.inside.abandoned c.hart-hart.result c.run-count.result.count
    c.make_room.ensures.nest c.make_room.ensures.hart c.make_room.ensures.same (let none = c.if-count-gt0.false in omega (arith, none)) c.run-count.ensures.after c.run-count.ensures.notes c.run-count.ensures.few

pub invariant_of-self-in-Some : goal.invariant_of-self-in-Some
invariant_of-self-in-Some g c =
    subst (λ (x : Inner). Holds g.K.Origin.state g.K.Origin.devices x c.run-count.new.log) (sym (same g c).0)
    (holds_log g.K.Origin.state g.K.Origin.devices (before g c) c.self.inside.log c.run-count.new.log c.self.invariant (same g c).1)

abbrev before-arg : (g : given.Over) (c : goal.After-turn-arg-in-Some-1 g) → Inner
before-arg g c = inner_of c.self.inside.engine c.self.inside.calls c.self.inside.log c.self.inside.abandoned

abbrev after-arg : (g : given.Over) (c : goal.After-turn-arg-in-Some-1 g) → Inner
after-arg g c = inner_of c.run-count.new.self c.make_room.new.calls c.run-count.new.log c.self.inside.abandoned

same-arg : (g : given.Over) (c : goal.After-turn-arg-in-Some-1 g) → (after-arg g c ≡ before-arg g c) × (c.run-count.new.log.notes ≡ c.self.inside.log.notes)
same-arg g c =
    unmoved true c.self.inside.engine c.run-count.new.self c.self.inside.calls c.make_room.new.calls c.self.inside.log c.make_room.new.log c.run-count.new.log c.self.inside.abandoned c.hart-hart.result c.run-count.result.count
    c.make_room.ensures.nest c.make_room.ensures.hart c.make_room.ensures.same (let none = c.if-count-gt0.false in omega (arith, none)) c.run-count.ensures.after c.run-count.ensures.notes c.run-count.ensures.few

pub turn-requires-clause-devices : goal.turn-requires-clause-devices
turn-requires-clause-devices g c =
    let e = told g.S.Source.end g.T.Sink.end g.P.Port.end c.args.devices.now in
    subst (λ (x : Inner). HasDevices g.K.Origin.devices x e (spare c.args.devices.now)) (sym c.self.view_is ∙ sym (same-arg g c).0) c.requires.devices

abbrev before-turn : (g : given.Over) (c : goal.After-turn g) → Inner
before-turn g c = inner_of c.self.inside.engine c.self.inside.calls c.self.inside.log c.self.inside.abandoned

abbrev after-turn : (g : given.Over) (c : goal.After-turn g) → Inner
after-turn g c = inner_of c.run-count.new.self c.make_room.new.calls c.run-count.new.log c.self.inside.abandoned

same-turn : (g : given.Over) (c : goal.After-turn g) → (after-turn g c ≡ before-turn g c) × (c.run-count.new.log.notes ≡ c.self.inside.log.notes)
same-turn g c =
    unmoved true c.self.inside.engine c.run-count.new.self c.self.inside.calls c.make_room.new.calls c.self.inside.log c.make_room.new.log c.run-count.new.log c.self.inside.abandoned c.hart-hart.result c.run-count.result.count
    c.make_room.ensures.nest c.make_room.ensures.hart c.make_room.ensures.same (let none = c.if-count-gt0.false in omega (arith, none)) c.run-count.ensures.after c.run-count.ensures.notes c.run-count.ensures.few

pub returns-clause-ok : goal.returns-clause-ok
returns-clause-ok g c =
    let e = told g.S.Source.end g.T.Sink.end g.P.Port.end c.args.devices.now in
    let f = told g.S.Source.end g.T.Sink.end g.P.Port.end c.turn.new.devices in
    subst (λ (x : Inner). OnOk c.turn.result (Goes g.K.Origin.state x e c.turn.new.self f)) ((same-turn g c).0 ∙ c.self.view_is) c.turn.ensures.ok

pub returns-clause-err : goal.returns-clause-err
returns-clause-err g c =
    let e = told g.S.Source.end g.T.Sink.end g.P.Port.end c.args.devices.now in
    let f = told g.S.Source.end g.T.Sink.end g.P.Port.end c.turn.new.devices in
    subst (λ (x : Inner). OnErr c.turn.result (IsWanting x e c.turn.new.self f)) ((same-turn g c).0 ∙ c.self.view_is) c.turn.ensures.err

pub fail_or_want-requires-clause-going : goal.fail_or_want-requires-clause-going
fail_or_want-requires-clause-going g c =
    let same = same_inner c.self.inside.engine c.self.inside.engine c.self.inside.calls c.make_room.new.calls c.self.inside.log c.make_room.new.log c.self.inside.abandoned c.make_room.ensures.nest c.make_room.ensures.hart c.make_room.ensures.same refl in
    subst IsGoing (sym same) (c.self.invariant.called (subst (λ (x : Inner). 0 < length x.nest.outers) (sym c.self.view_is) c.requires.called))

pub turn-requires-clause-going : goal.turn-requires-clause-going
turn-requires-clause-going g c =
    subst IsGoing (sym (same-arg g c).0) (c.self.invariant.called (subst (λ (x : Inner). 0 < length x.nest.outers) (sym c.self.view_is) c.requires.called))
