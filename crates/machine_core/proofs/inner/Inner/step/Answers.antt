use Rattle.std.proofs.Common.{◌≡◌, ◌∷◌, ◌++◌, [], true, false, Some, IfOk, OnErr, refl, ap, sym, ◌∙◌, subst, arith}
use Rattle.guest_words.specs.Act.{act_of}
use Rattle.guest_words.specs.State.{State, frames_at}
use Rattle.edge_ports.specs.Seen.{seen as told, spare}
use Rattle.run_history.specs.declared.entry.Entry.{Ran}
use Rattle.run_history.specs.After.{ran}
use Rattle.run_history.specs.Legal.{can_run, is_ready_at}
use Rattle.run_history.proofs.Quietness.{quiet_frames, quiet_ran}
use Rattle.hart_step.specs.Live.{space_of}
use Rattle.hart_step.specs.Stops.{IsPlainRow, Stops, is_held}
use Rattle.machine_core.specs.declared.stepped.Stepped.TheVariants.{Moved}
use Rattle.machine_core.specs.Inner.{Holds, Inner, IsGoing, inner_of, machine_in}
use Rattle.machine_core.specs.Kept.{HasDevices}
use Rattle.machine_core.specs.QuietSteps.{Moves, Steps, stepped_of}
use Rattle.machine_core.specs.Turns.{CanTurn}
use Rattle.machine_core.proofs.Making.{holds_log, unmoved, unnoted}
use Rattle.machine_core.proofs.Steps.{by_records}
use Rattle.machine_core.proofs.Turning.{calm, free_ready, moves_row, row_first, stands_ok, stands_still, stops_free, stepped_ordinary, stops_join, turn_going, turn_holds, turn_records, turn_runs}
use Rattle.machine_core.proofs.inner.Inner.step.Goals as goal

pub invariant_of-self-then-count-gt0 : goal.invariant_of-self-then-count-gt0
invariant_of-self-then-count-gt0 g c =
    let s = c.self.inside.engine.state in
    let h = c.self.inside.calls.hart in
    let w = inner_of c.self.inside.engine c.self.inside.calls c.self.inside.log c.self.inside.abandoned in
    let v = inner_of c.run-count.new.self c.append.new.self c.run-count.new.log c.self.inside.abandoned in
    let n = c.run-count.result.count in
    let own = c.hart-hart.ensures.value in
    let can = subst CanTurn (sym c.self.view_is) c.requires.can in
    let goes : can_run s h n ≡ true = ap (λ k. can_run s k n) (sym own) ∙ c.run-count.ensures.legal in
    let first = row_first s h n c.if-count-gt0.true goes in
    let to : v.live.state ≡ ran s h n = c.run-count.ensures.after ∙ ap (λ k. ran s k n) own in
    let left = unnoted c.make_room.new.log.notes c.run-count.new.log.notes (space_of c.self.inside.engine) (space_of c.run-count.new.self) c.run-count.ensures.notes in
    let nest : v.nest ≡ record w.nest { entries = w.nest.entries ++ Ran h n ∷ [] } =
    c.append.ensures.nest ∙ (λ i. record { outers = (c.make_room.ensures.nest i).outers; entries = (c.make_room.ensures.nest i).entries ++ Ran (own i) n ∷ [] }) in
    turn_holds g.K.Origin.state g.K.Origin.devices w c.self.inside.log c.self.invariant can v c.run-count.new.log first.1 first.0 n c.if-count-gt0.true goes to left.1 nest refl (left.0 ∙ c.make_room.ensures.same)

pub returns-then-count-gt0-clause-value : goal.returns-then-count-gt0-clause-value
returns-then-count-gt0-clause-value g c =
    let s = c.self.inside.engine.state in
    let h = c.self.inside.calls.hart in
    let goes : can_run s h c.run-count.result.count ≡ true = ap (λ k. can_run s k c.run-count.result.count) (sym c.hart-hart.ensures.value) ∙ c.run-count.ensures.legal in
    let first = row_first s h c.run-count.result.count c.if-count-gt0.true goes in
    subst (λ (x : Inner). stepped_of x.live.state x.hart ≡ Some Moved) c.self.view_is (stepped_ordinary s h first.0 first.1 first.2)

pub returns-then-count-gt0-clause-steps : goal.returns-then-count-gt0-clause-steps
returns-then-count-gt0-clause-steps g c =
    let s = c.self.inside.engine.state in
    let h = c.self.inside.calls.hart in
    let w = inner_of c.self.inside.engine c.self.inside.calls c.self.inside.log c.self.inside.abandoned in
    let v = inner_of c.run-count.new.self c.append.new.self c.run-count.new.log c.self.inside.abandoned in
    let n = c.run-count.result.count in
    let own = c.hart-hart.ensures.value in
    let can = subst CanTurn (sym c.self.view_is) c.requires.can in
    let goes : can_run s h n ≡ true = ap (λ k. can_run s k n) (sym own) ∙ c.run-count.ensures.legal in
    let first = row_first s h n c.if-count-gt0.true goes in
    let to : v.live.state ≡ ran s h n = c.run-count.ensures.after ∙ ap (λ k. ran s k n) own in
    let left = unnoted c.make_room.new.log.notes c.run-count.new.log.notes (space_of c.self.inside.engine) (space_of c.run-count.new.self) c.run-count.ensures.notes in
    let nest : v.nest ≡ record w.nest { entries = w.nest.entries ++ Ran h n ∷ [] } =
    c.append.ensures.nest ∙ (λ i. record { outers = (c.make_room.ensures.nest i).outers; entries = (c.make_room.ensures.nest i).entries ++ Ran (own i) n ∷ [] }) in
    let d = told g.S.Source.end g.T.Sink.end g.P.Port.end c.args.devices.now in
    let quiet = calm g.K.Origin.state g.K.Origin.devices w c.self.inside.log c.self.invariant can in
    let before = quiet_frames s h quiet in
    let behind : frames_at v.live.state h ≡ 0 = ap (λ (t : State). frames_at t h) to ∙ quiet_frames (ran s h n) h (quiet_ran s h n quiet) in
    let plain = subst (λ k. IsPlainRow false s k n) own c.run-count.ensures.row in
    subst (λ (x : Inner). Moves x.hart c.args.quantum (machine_in x d) (act_of x.live.state x.hart) (machine_in v d)) c.self.view_is
    (moves_row h c.args.quantum (machine_in w d) (act_of s h) (machine_in v d) first.2
    (turn_runs g.K.Origin.state g.K.Origin.devices w c.self.inside.log c.self.invariant can v c.run-count.new.log first.1 first.0 n c.if-count-gt0.true goes to left.1 nest refl c.args.quantum c.run-count.ensures.within (λ k some less. (plain k less).1)
    (λ less. stops_join s v.live.state h c.run-count.result.next (subst (λ k. Stops false s v.live.state k c.run-count.result.next) own (c.run-count.ensures.stops less)) (behind ∙ sym before)) d))

pub returns-then-count-gt0-clause-devices : goal.returns-then-count-gt0-clause-devices
returns-then-count-gt0-clause-devices g c =
    let s = c.self.inside.engine.state in
    let h = c.self.inside.calls.hart in
    let w = inner_of c.self.inside.engine c.self.inside.calls c.self.inside.log c.self.inside.abandoned in
    let v = inner_of c.run-count.new.self c.append.new.self c.run-count.new.log c.self.inside.abandoned in
    let n = c.run-count.result.count in
    let own = c.hart-hart.ensures.value in
    let can = subst CanTurn (sym c.self.view_is) c.requires.can in
    let goes : can_run s h n ≡ true = ap (λ k. can_run s k n) (sym own) ∙ c.run-count.ensures.legal in
    let first = row_first s h n c.if-count-gt0.true goes in
    let to : v.live.state ≡ ran s h n = c.run-count.ensures.after ∙ ap (λ k. ran s k n) own in
    let left = unnoted c.make_room.new.log.notes c.run-count.new.log.notes (space_of c.self.inside.engine) (space_of c.run-count.new.self) c.run-count.ensures.notes in
    let nest : v.nest ≡ record w.nest { entries = w.nest.entries ++ Ran h n ∷ [] } =
    c.append.ensures.nest ∙ (λ i. record { outers = (c.make_room.ensures.nest i).outers; entries = (c.make_room.ensures.nest i).entries ++ Ran (own i) n ∷ [] }) in
    let d = told g.S.Source.end g.T.Sink.end g.P.Port.end c.args.devices.now in
    by_records g.K.Origin.devices w v d (spare c.args.devices.now) (turn_records g.K.Origin.state g.K.Origin.devices w c.self.inside.log c.self.invariant can v c.run-count.new.log first.1 first.0 n c.if-count-gt0.true goes to left.1 nest refl)
    (subst (λ (x : Inner). HasDevices g.K.Origin.devices x d (spare c.args.devices.now)) (sym c.self.view_is) c.requires.devices)

pub invariant_of-self-else-count-gt0 : goal.invariant_of-self-else-count-gt0
invariant_of-self-else-count-gt0 g c =
    let same = unmoved false c.self.inside.engine c.run-count.new.self c.self.inside.calls c.make_room.new.calls c.self.inside.log c.make_room.new.log c.run-count.new.log c.self.inside.abandoned c.hart-hart.result c.run-count.result.count
    c.make_room.ensures.nest c.make_room.ensures.hart c.make_room.ensures.same (let few = c.if-count-gt0.false in omega (arith, few)) c.run-count.ensures.after c.run-count.ensures.notes c.run-count.ensures.few in
    let w = inner_of c.self.inside.engine c.self.inside.calls c.self.inside.log c.self.inside.abandoned in
    subst (λ (x : Inner). Holds g.K.Origin.state g.K.Origin.devices x c.run-count.new.log) (sym same.0)
    (holds_log g.K.Origin.state g.K.Origin.devices w c.self.inside.log c.run-count.new.log c.self.invariant same.1)

pub act_alone-requires-clause-can : goal.act_alone-requires-clause-can
act_alone-requires-clause-can g c =
    let same = unmoved false c.self.inside.engine c.run-count.new.self c.self.inside.calls c.make_room.new.calls c.self.inside.log c.make_room.new.log c.run-count.new.log c.self.inside.abandoned c.hart-hart.result c.run-count.result.count
    c.make_room.ensures.nest c.make_room.ensures.hart c.make_room.ensures.same (let few = c.if-count-gt0.false in omega (arith, few)) c.run-count.ensures.after c.run-count.ensures.notes c.run-count.ensures.few in
    subst CanTurn (sym c.self.view_is ∙ sym same.0) c.requires.can

pub stand-requires-clause-can : goal.stand-requires-clause-can
stand-requires-clause-can g c =
    let same = unmoved false c.self.inside.engine c.run-count.new.self c.self.inside.calls c.make_room.new.calls c.self.inside.log c.make_room.new.log c.run-count.new.log c.self.inside.abandoned c.hart-hart.result c.run-count.result.count
    c.make_room.ensures.nest c.make_room.ensures.hart c.make_room.ensures.same (let few = c.if-count-gt0.false in omega (arith, few)) c.run-count.ensures.after c.run-count.ensures.notes c.run-count.ensures.few in
    subst CanTurn (sym c.self.view_is ∙ sym same.0) c.requires.can

pub act_alone-requires-clause-devices : goal.act_alone-requires-clause-devices
act_alone-requires-clause-devices g c =
    let same = unmoved false c.self.inside.engine c.run-count.new.self c.self.inside.calls c.make_room.new.calls c.self.inside.log c.make_room.new.log c.run-count.new.log c.self.inside.abandoned c.hart-hart.result c.run-count.result.count
    c.make_room.ensures.nest c.make_room.ensures.hart c.make_room.ensures.same (let few = c.if-count-gt0.false in omega (arith, few)) c.run-count.ensures.after c.run-count.ensures.notes c.run-count.ensures.few in
    subst (λ (x : Inner). HasDevices g.K.Origin.devices x (told g.S.Source.end g.T.Sink.end g.P.Port.end c.args.devices.now) (spare c.args.devices.now)) (sym c.self.view_is ∙ sym same.0) c.requires.devices

pub stand-requires-clause-held : goal.stand-requires-clause-held
stand-requires-clause-held g c =
    let same = unmoved false c.self.inside.engine c.run-count.new.self c.self.inside.calls c.make_room.new.calls c.self.inside.log c.make_room.new.log c.run-count.new.log c.self.inside.abandoned c.hart-hart.result c.run-count.result.count
    c.make_room.ensures.nest c.make_room.ensures.hart c.make_room.ensures.same (let few = c.if-count-gt0.false in omega (arith, few)) c.run-count.ensures.after c.run-count.ensures.notes c.run-count.ensures.few in
    let held = stands_still c.self.inside.engine.state c.run-count.new.self.state c.hart-hart.result c.run-count.result.next c.in-None.is (ap (λ (x : Inner). x.live.state) same.0)
    (c.run-count.ensures.stops (let few = c.if-count-gt0.false in let some = c.requires.quantum in omega (arith, few, some))) in
    ap (is_held c.run-count.new.self.state) (c.make_room.ensures.hart ∙ sym c.hart-hart.ensures.value) ∙ held

pub returns-in-Some-clause-value : goal.returns-in-Some-clause-value
returns-in-Some-clause-value g c =
    let same = unmoved false c.self.inside.engine c.run-count.new.self c.self.inside.calls c.make_room.new.calls c.self.inside.log c.make_room.new.log c.run-count.new.log c.self.inside.abandoned c.hart-hart.result c.run-count.result.count
    c.make_room.ensures.nest c.make_room.ensures.hart c.make_room.ensures.same (let few = c.if-count-gt0.false in omega (arith, few)) c.run-count.ensures.after c.run-count.ensures.notes c.run-count.ensures.few in
    subst (λ (x : Inner). IfOk c.act_alone.result (λ stepped. stepped_of x.live.state x.hart ≡ Some stepped)) (same.0 ∙ c.self.view_is) c.act_alone.ensures.value

pub returns-in-Some-clause-steps : goal.returns-in-Some-clause-steps
returns-in-Some-clause-steps g c =
    let same = unmoved false c.self.inside.engine c.run-count.new.self c.self.inside.calls c.make_room.new.calls c.self.inside.log c.make_room.new.log c.run-count.new.log c.self.inside.abandoned c.hart-hart.result c.run-count.result.count
    c.make_room.ensures.nest c.make_room.ensures.hart c.make_room.ensures.same (let few = c.if-count-gt0.false in omega (arith, few)) c.run-count.ensures.after c.run-count.ensures.notes c.run-count.ensures.few in
    let d = told g.S.Source.end g.T.Sink.end g.P.Port.end c.args.devices.now in
    let e = told g.S.Source.end g.T.Sink.end g.P.Port.end c.act_alone.new.devices in
    subst (λ (x : Inner). IfOk c.act_alone.result (λ stepped. Steps x.hart c.args.quantum (machine_in x d) stepped (machine_in c.act_alone.new.self e))) (same.0 ∙ c.self.view_is) c.act_alone.ensures.steps

pub returns-in-Some-clause-err : goal.returns-in-Some-clause-err
returns-in-Some-clause-err g c =
    let same = unmoved false c.self.inside.engine c.run-count.new.self c.self.inside.calls c.make_room.new.calls c.self.inside.log c.make_room.new.log c.run-count.new.log c.self.inside.abandoned c.hart-hart.result c.run-count.result.count
    c.make_room.ensures.nest c.make_room.ensures.hart c.make_room.ensures.same (let few = c.if-count-gt0.false in omega (arith, few)) c.run-count.ensures.after c.run-count.ensures.notes c.run-count.ensures.few in
    subst (λ (x : Inner). OnErr c.act_alone.result (c.act_alone.new.self ≡ x)) (same.0 ∙ c.self.view_is) c.act_alone.ensures.err

pub returns-in-None-clause-value : goal.returns-in-None-clause-value
returns-in-None-clause-value g c =
    let same = unmoved false c.self.inside.engine c.run-count.new.self c.self.inside.calls c.make_room.new.calls c.self.inside.log c.make_room.new.log c.run-count.new.log c.self.inside.abandoned c.hart-hart.result c.run-count.result.count
    c.make_room.ensures.nest c.make_room.ensures.hart c.make_room.ensures.same (let few = c.if-count-gt0.false in omega (arith, few)) c.run-count.ensures.after c.run-count.ensures.notes c.run-count.ensures.few in
    subst (λ (x : Inner). IfOk c.stand.result (λ stepped. stepped_of x.live.state x.hart ≡ Some stepped)) (same.0 ∙ c.self.view_is) c.stand.ensures.value

pub returns-in-None-clause-err : goal.returns-in-None-clause-err
returns-in-None-clause-err g c =
    let same = unmoved false c.self.inside.engine c.run-count.new.self c.self.inside.calls c.make_room.new.calls c.self.inside.log c.make_room.new.log c.run-count.new.log c.self.inside.abandoned c.hart-hart.result c.run-count.result.count
    c.make_room.ensures.nest c.make_room.ensures.hart c.make_room.ensures.same (let few = c.if-count-gt0.false in omega (arith, few)) c.run-count.ensures.after c.run-count.ensures.notes c.run-count.ensures.few in
    subst (λ (x : Inner). OnErr c.stand.result (c.stand.new.self ≡ x)) (same.0 ∙ c.self.view_is) c.stand.ensures.err

pub returns-in-None-clause-devices : goal.returns-in-None-clause-devices
returns-in-None-clause-devices g c =
    let same = unmoved false c.self.inside.engine c.run-count.new.self c.self.inside.calls c.make_room.new.calls c.self.inside.log c.make_room.new.log c.run-count.new.log c.self.inside.abandoned c.hart-hart.result c.run-count.result.count
    c.make_room.ensures.nest c.make_room.ensures.hart c.make_room.ensures.same (let few = c.if-count-gt0.false in omega (arith, few)) c.run-count.ensures.after c.run-count.ensures.notes c.run-count.ensures.few in
    let d = told g.S.Source.end g.T.Sink.end g.P.Port.end c.args.devices.now in
    by_records g.K.Origin.devices c.args.self.now c.stand.new.self d (spare c.args.devices.now)
    (c.stand.ensures.records ∙ ap (λ (x : Inner). x.live.state.records) (same.0 ∙ c.self.view_is)) c.requires.devices

pub act_alone-requires-clause-going : goal.act_alone-requires-clause-going
act_alone-requires-clause-going g c =
    let same = unmoved false c.self.inside.engine c.run-count.new.self c.self.inside.calls c.make_room.new.calls c.self.inside.log c.make_room.new.log c.run-count.new.log c.self.inside.abandoned c.hart-hart.result c.run-count.result.count
    c.make_room.ensures.nest c.make_room.ensures.hart c.make_room.ensures.same (let few = c.if-count-gt0.false in omega (arith, few)) c.run-count.ensures.after c.run-count.ensures.notes c.run-count.ensures.few in
    let w = inner_of c.self.inside.engine c.self.inside.calls c.self.inside.log c.self.inside.abandoned in
    let can = subst CanTurn (sym c.self.view_is) c.requires.can in
    let free = stops_free c.self.inside.engine.state c.run-count.new.self.state c.hart-hart.result c.run-count.result.next c.in-Some.act c.in-Some.is
    (c.run-count.ensures.stops (let few = c.if-count-gt0.false in let some = c.requires.quantum in omega (arith, few, some))) in
    let ready : is_ready_at w.live.state w.hart ≡ true = (λ i. is_ready_at (sym same.0 i).live.state (sym c.hart-hart.ensures.value i)) ∙ free_ready c.run-count.new.self.state c.hart-hart.result free in
    subst IsGoing (sym same.0) (turn_going g.K.Origin.state g.K.Origin.devices w c.self.inside.log c.self.invariant can ready)

pub returns-in-None-clause-steps : goal.returns-in-None-clause-steps
returns-in-None-clause-steps g c =
    let same = unmoved false c.self.inside.engine c.run-count.new.self c.self.inside.calls c.make_room.new.calls c.self.inside.log c.make_room.new.log c.run-count.new.log c.self.inside.abandoned c.hart-hart.result c.run-count.result.count
    c.make_room.ensures.nest c.make_room.ensures.hart c.make_room.ensures.same (let few = c.if-count-gt0.false in omega (arith, few)) c.run-count.ensures.after c.run-count.ensures.notes c.run-count.ensures.few in
    let d = told g.S.Source.end g.T.Sink.end g.P.Port.end c.args.devices.now in
    subst (λ (x : Inner). IfOk c.stand.result (λ stepped. Steps x.hart c.args.quantum (machine_in x d) stepped (machine_in c.stand.new.self d))) (same.0 ∙ c.self.view_is)
    (stands_ok c.make_room.new.calls.hart c.args.quantum (machine_in (inner_of c.run-count.new.self c.make_room.new.calls c.run-count.new.log c.self.inside.abandoned)) (machine_in c.stand.new.self) c.stand.result d c.stand.ensures.steps)
