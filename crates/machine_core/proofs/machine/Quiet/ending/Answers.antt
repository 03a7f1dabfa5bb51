use Rattle.std.proofs.Common.{◌≡◌, [], subst}
use Rattle.edge_ports.specs.Seen.{Seen, seen as told}
use Rattle.machine_core.specs.Inner.{machine_in}
use Rattle.machine_core.specs.Machine.{IsAsTold, Machine}
use Rattle.machine_core.proofs.machine.Quiet.ending.Goals as goal

pub returns-clause-told : goal.returns-clause-told
returns-clause-told g c =
    let d = told g.S.Source.end g.T.Sink.end g.P.Port.end c.self.inside.core.value.devices in
    let facts = subst (λ x. x.inner.nest.outers ≡ [] → (d : Seen) → IsAsTold g.K.Origin.state (machine_in x.inner d)) c.deref-core.ensures c.ending.ensures.told in
    subst (λ (m : Machine). IsAsTold g.K.Origin.state m) c.self.view_is (facts c.self.invariant.none d)
