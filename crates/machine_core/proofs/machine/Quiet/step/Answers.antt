use Rattle.std.proofs.Common.{◌<◌, ◌≤◌, IfOk, ap, sym, ◌∙◌, subst}
use Rattle.guest_words.specs.Act.{act_of}
use Rattle.guest_words.specs.State.{State}
use Rattle.edge_ports.specs.Seen.{seen as told}
use Rattle.run_history.specs.Ahead.{ahead}
use Rattle.machine_core.specs.Inner.{Inner, machine_in}
use Rattle.machine_core.specs.Machine.{Machine}
use Rattle.machine_core.specs.QuietSteps.{Steps}
use Rattle.machine_core.proofs.Steps.{moved_nearer}
use Rattle.machine_core.proofs.Told.{can_turn}
use Rattle.machine_core.proofs.machine.Quiet.step.Goals as goal

pub step-requires-clause-can : goal.step-requires-clause-can
step-requires-clause-can g c =
    let d = told g.S.Source.end g.T.Sink.end g.P.Port.end c.as_mut-core.result.now.devices in
    let core = c.as_mut-core.ensures.value in
    can_turn g.K.Origin.state c.as_mut-core.result.now.inner c.turn_to.new.self c.args.self.now d c.args.hart c.turn_to.ensures.same
    (ap (λ x. machine_in x.inner (told g.S.Source.end g.T.Sink.end g.P.Port.end x.devices)) core ∙ c.self.view_is) (ap (λ x. x.inner.nest.outers) core ∙ c.self.invariant.none)
    (c.turn_to.ensures.told d) c.requires.going c.requires.kept c.requires.hart

pub returns-clause-nearer : goal.returns-clause-nearer
returns-clause-nearer g c = λ moved.
    let core = c.as_mut-core.ensures.value in
    let d = told g.S.Source.end g.T.Sink.end g.P.Port.end c.as_mut-core.result.now.devices in
    let e = told g.S.Source.end g.T.Sink.end g.P.Port.end c.step.new.devices in
    let w = c.turn_to.new.self in
    let facts = c.turn_to.ensures.told d in
    let same = c.turn_to.ensures.same in
    let within = subst (λ (x : Inner). x.live.state.steps ≤ x.live.state.budget) (sym same) facts.within in
    let steps = subst (λ r. IfOk r (λ x. Steps w.hart c.args.quantum (machine_in w d) x (machine_in c.step.new.self e))) moved c.step.ensures.steps in
    let less = moved_nearer w.hart c.args.quantum (machine_in w d) (machine_in c.step.new.self e) (act_of w.live.state w.hart) within steps in
    let state = ap (λ x. x.inner.live.state) core ∙ ap (λ (m : Machine). m.state) c.self.view_is in
    subst (λ (s : State). ahead c.step.new.self.live.state c.args.hart < ahead s c.args.hart) state
    (subst (λ (x : Inner). ahead c.step.new.self.live.state x.hart < ahead x.live.state x.hart) same less)
