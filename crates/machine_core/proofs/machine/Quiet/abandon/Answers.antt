use Rattle.std.proofs.Common.{true, ap, ◌∙◌}
use Rattle.edge_ports.specs.Seen.{seen as told}
use Rattle.open_calls.specs.Nest.{flat_from}
use Rattle.machine_core.specs.Inner.{machine_in}
use Rattle.machine_core.specs.OpenSteps.{abandoned_of}
use Rattle.machine_core.proofs.machine.Quiet.abandon.Goals as goal

pub returns : goal.returns
returns g c =
    let now = c.as_mut.result.now in
    let d = told g.S.Source.end g.T.Sink.end g.P.Port.end now.devices in
    let none = ap (λ x. x.inner.nest.outers) c.as_mut.ensures.value ∙ c.self.invariant.none in
    record {
      value = c.abandon.ensures.value d
          ∙ (λ i. record { history = flat_from now.inner.hart (none i) now.inner.nest.entries; state = now.inner.live.state; devices = d; abandoned = true })
          ∙ ap abandoned_of (ap (λ x. machine_in x.inner (told g.S.Source.end g.T.Sink.end g.P.Port.end x.devices)) c.as_mut.ensures.value ∙ c.self.view_is);
    }
