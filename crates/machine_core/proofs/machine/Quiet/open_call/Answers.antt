use Rattle.std.proofs.Common.{◌≡◌, OnOk, ap, ◌∙◌, subst}
use Rattle.edge_ports.specs.Seen.{seen as told}
use Rattle.machine_core.specs.Inner.{Inner, machine_in}
use Rattle.machine_core.specs.Turns.{Begun}
use Rattle.machine_core.proofs.Begins.{has_begun}
use Rattle.machine_core.proofs.machine.Quiet.open_call.Goals as goal

pub returns-in-Ok-clause-begins : goal.returns-in-Ok-clause-begins
returns-in-Ok-clause-begins g c = λ point stood.
    let w = c.as_mut-2.result.now.inner in
    let v = c.begin.new.self in
    let d = told g.S.Source.end g.T.Sink.end g.P.Port.end c.as_mut-2.result.now.devices in
    let begun = subst (λ r. OnOk r (Begun w v)) c.in-Ok.is c.begin.ensures.ok in
    let turned : w ≡ record c.as_mut.result.now.inner { hart = c.args.hart } = ap (λ x. x.inner) c.as_mut-2.ensures.value ∙ c.turn_to.ensures.same in
    let devices = ap (λ x. told g.S.Source.end g.T.Sink.end g.P.Port.end x.devices) c.as_mut-2.ensures.value in
    let core = c.as_mut.ensures.value in
    has_begun w v c.args.self d c.args.hart point begun
    ((λ i. machine_in (turned i) (devices i)) ∙ ap (λ x. machine_in x.inner (told g.S.Source.end g.T.Sink.end g.P.Port.end x.devices)) core ∙ c.self.view_is)
    (ap (λ (x : Inner). x.hart) turned) (ap (λ (x : Inner). x.nest.outers) turned ∙ ap (λ x. x.inner.nest.outers) core ∙ c.self.invariant.none) stood
