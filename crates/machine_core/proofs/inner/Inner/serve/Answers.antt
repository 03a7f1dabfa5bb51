use Rattle.std.proofs.Common.{◌≡◌, ◌≤◌, ◌<◌, ◌∷◌, ◌++◌, [], true, false, length, ap, sym, ◌∙◌, subst, arith}
use Rattle.guest_words.specs.Act.{Request, act_of, fits}
use Rattle.guest_words.specs.Endings.{is_budget_spent}
use Rattle.edge_ports.specs.Seen.{Seen, seen as told, spare}
use Rattle.run_history.specs.declared.entry.Entry.{Called}
use Rattle.run_history.proofs.Requests.{fits_short, request_servable}
use Rattle.run_history.specs.After.{called}
use Rattle.run_history.specs.Ahead.{ahead}
use Rattle.machine_core.specs.Inner.{Inner, IsGoing, IsUnderSame, inner_of, whole_in}
use Rattle.machine_core.specs.Kept.{HasDevices}
use Rattle.machine_core.specs.QuietSteps.{CallsOn}
use Rattle.machine_core.proofs.Asking.{asks, asks_devices, asks_hold, asks_nearer, holds_open}
use Rattle.machine_core.proofs.Calls.{can_serve}
use Rattle.machine_core.proofs.Holding.{Puts, puts_fewer, puts_none, puts_under}
use Rattle.machine_core.proofs.Making.{made, some_calls}
use Rattle.machine_core.proofs.inner.Inner.serve.Given as given
use Rattle.machine_core.proofs.inner.Inner.serve.Goals as goal

abbrev d : (g : given.Over) (c : goal.After-call_device-arg-3-1 g) → Seen
d g c = told g.S.Source.end g.T.Sink.end g.P.Port.end c.args.devices.now

pub call_device-requires-clause-can : goal.call_device-requires-clause-can
call_device-requires-clause-can g c =
    let s = c.self.inside.engine.state in
    let k = c.args.ask in
    let asks : act_of s c.self.inside.calls.hart ≡ Request k.way k.port k.asked k.place = subst (λ (w : Inner). act_of w.live.state w.hart ≡ Request k.way k.port k.asked k.place) (sym c.self.view_is) c.requires.asks in
    can_serve k.way k.port k.asked k.place s (d g c)
    (holds_open g.K.Origin.state g.K.Origin.devices (d g c) (inner_of c.self.inside.engine c.self.inside.calls c.self.inside.log c.self.inside.abandoned) c.self.inside.log (spare c.args.devices.now) c.self.invariant
    (subst (λ (w : Inner). HasDevices g.K.Origin.devices w (d g c) (spare c.args.devices.now)) (sym c.self.view_is) c.requires.devices))
    (request_servable s c.self.inside.calls.hart k.way k.port k.asked k.place asks)

abbrev fit : (g : given.Over) (c : goal.After-answer-arg-2-1 g) → fits c.self.inside.engine.state (Request c.args.ask.way c.args.ask.port c.args.ask.asked c.args.ask.place) c.in_ok-call.call ≡ true
fit g c = c.in_ok-call.ensures.fits

short : (g : given.Over) (c : goal.After-answer-arg-2-1 g) → length c.in_ok-call.call.bytes ≤ c.args.ask.asked
short g c = fits_short c.self.inside.engine.state c.args.ask.way c.args.ask.port c.args.ask.asked c.args.ask.place c.in_ok-call.call (fit g c)

pub answer-requires-clause-room : goal.answer-requires-clause-room
answer-requires-clause-room g c = λ noted.
    let few = short g c in
    let some = c.notes_of.ensures.some noted in
    let room = c.in_ok-make_room.ensures.spare in
    omega (arith, few, some, room)

abbrev w : (g : given.Over) (c : goal.After-append g) → Inner
w g c = inner_of c.self.inside.engine c.self.inside.calls c.self.inside.log c.self.inside.abandoned

abbrev v : (g : given.Over) (c : goal.After-append g) → Inner
v g c = inner_of c.answer.new.self c.append.new.self c.answer.new.log c.self.inside.abandoned

puts_it : (g : given.Over) (c : goal.After-append g) → Puts (λ es. es ++ Called c.self.inside.calls.hart c.in_ok-call.call ∷ []) (w g c) (v g c) c.self.inside.log c.answer.new.log
puts_it g c =
    let notes = c.answer.ensures.notes in
    made c.self.inside.engine c.answer.new.self c.self.inside.calls c.make_room.new.calls c.close_to.new.self c.append.new.self c.self.inside.log c.answer.new.log c.self.inside.abandoned
    c.hart-hart.result c.hart-hart.result c.frame_count.result (λ k es. es ++ Called k c.in_ok-call.call ∷ []) notes.more
    c.make_room.ensures.nest c.make_room.ensures.hart c.hart-hart.ensures.value c.hart-hart.ensures.value c.frame_count.ensures.value c.close_to.ensures.same
    c.append.ensures.nest c.append.ensures.hart (notes.behind ∙ ap (λ ns. ns ++ notes.more) c.make_room.ensures.same)
    (λ some. notes.lead (some_calls c.depth-noted.result c.self.inside.calls.nest c.depth-noted.ensures.value some)) notes.spare

going : (g : given.Over) (c : goal.After-append g) → IsGoing (w g c)
going g c = subst IsGoing (sym c.self.view_is) c.requires.going

fresh : (g : given.Over) (c : goal.After-append g) → is_budget_spent (w g c).live.state ≡ false
fresh g c = ap (λ (x : Inner). is_budget_spent x.live.state) c.self.view_is ∙ c.requires.left

fits_it : (g : given.Over) (c : goal.After-append g) → fits (w g c).live.state (act_of (w g c).live.state (w g c).hart) c.in_ok-call.call ≡ true
fits_it g c =
    let k = c.args.ask in
    let asks : act_of (w g c).live.state (w g c).hart ≡ Request k.way k.port k.asked k.place = ap (λ (x : Inner). act_of x.live.state x.hart) c.self.view_is ∙ c.requires.asks in
    ap (λ a. fits (w g c).live.state a c.in_ok-call.call) asks ∙ c.in_ok-call.ensures.fits

to : (g : given.Over) (c : goal.After-append g) → (v g c).live.state ≡ called (w g c).live.state (w g c).hart c.in_ok-call.call
to g c = c.answer.ensures.after ∙ ap (λ h. called c.self.inside.engine.state h c.in_ok-call.call) c.hart-hart.ensures.value

pub invariant_of-self-2 : goal.invariant_of-self-2
invariant_of-self-2 g c =
    asks_hold g.K.Origin.state g.K.Origin.devices (w g c) (v g c) c.self.inside.log c.answer.new.log c.self.invariant (going g c) (fresh g c) c.in_ok-call.call (fits_it g c) (to g c) (puts_it g c)

pub returns-clause-ok : goal.returns-clause-ok
returns-clause-ok g c =
    let e = told g.S.Source.end g.T.Sink.end g.P.Port.end c.call_device.new.devices in
    subst (λ (x : Inner). CallsOn x.hart (whole_in x (told g.S.Source.end g.T.Sink.end g.P.Port.end c.args.devices.now)) (whole_in (v g c) e)) c.self.view_is
    (asks g.K.Origin.state g.K.Origin.devices (w g c) (v g c) c.self.inside.log c.answer.new.log c.self.invariant (going g c) (fresh g c) c.in_ok-call.call (fits_it g c) (to g c) (puts_it g c)
    (told g.S.Source.end g.T.Sink.end g.P.Port.end c.args.devices.now) e c.in_ok-call.ensures.serves)

pub returns-clause-under : goal.returns-clause-under
returns-clause-under g c =
    subst (λ (x : Inner). IsUnderSame x (v g c)) c.self.view_is (puts_under (λ es. es ++ Called c.self.inside.calls.hart c.in_ok-call.call ∷ []) (w g c) (v g c) c.self.inside.log c.answer.new.log (puts_it g c))

pub returns-clause-devices : goal.returns-clause-devices
returns-clause-devices g c =
    let old = told g.S.Source.end g.T.Sink.end g.P.Port.end c.args.devices.now in
    let e = told g.S.Source.end g.T.Sink.end g.P.Port.end c.call_device.new.devices in
    asks_devices g.K.Origin.state g.K.Origin.devices (w g c) (v g c) c.self.inside.log c.answer.new.log c.self.invariant (going g c) (fresh g c) c.in_ok-call.call (fits_it g c) (to g c) (puts_it g c)
    old e (spare c.args.devices.now) (spare c.call_device.new.devices)
    (subst (λ (x : Inner). HasDevices g.K.Origin.devices x old (spare c.args.devices.now)) (sym c.self.view_is) c.requires.devices) c.in_ok-call.ensures.serves c.call_device.ensures.spare

pub returns-clause-nearer : goal.returns-clause-nearer
returns-clause-nearer g c =
    subst (λ (x : Inner). ahead (v g c).live.state x.hart < ahead x.live.state x.hart) c.self.view_is
    (asks_nearer g.K.Origin.state g.K.Origin.devices (w g c) (v g c) c.self.inside.log c.answer.new.log c.self.invariant (going g c) (fresh g c) c.in_ok-call.call (fits_it g c) (to g c) (puts_it g c))

pub returns-clause-fewer : goal.returns-clause-fewer
returns-clause-fewer g c =
    subst (λ (x : Inner). length (v g c).nest.outers ≤ length x.nest.outers) c.self.view_is
    (puts_fewer (λ es. es ++ Called c.self.inside.calls.hart c.in_ok-call.call ∷ []) (w g c) (v g c) c.self.inside.log c.answer.new.log (puts_it g c))

pub returns-clause-few : goal.returns-clause-few
returns-clause-few g c =
    let k = c.args.ask in
    let more = c.answer.ensures.few in
    let short = fits_short c.self.inside.engine.state k.way k.port k.asked k.place c.in_ok-call.call c.in_ok-call.ensures.fits in
    let same = ap length c.make_room.ensures.same in
    let old = ap (λ (x : Inner). length x.notes) c.self.view_is in
    omega (arith, more, short, same, old)

pub returns-clause-none : goal.returns-clause-none
returns-clause-none g c = λ none.
    puts_none (λ es. es ++ Called c.self.inside.calls.hart c.in_ok-call.call ∷ []) (w g c) (v g c) c.self.inside.log c.answer.new.log (puts_it g c) (ap (λ (x : Inner). x.nest.outers) c.self.view_is ∙ none)
