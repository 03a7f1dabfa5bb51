use Rattle.std.proofs.Common.{[], ◌≡◌, subst}
use Rattle.edge_ports.specs.Seen.{Seen}
use Rattle.machine_core.specs.Inner.{Inner, inner_of, machine_in}
use Rattle.machine_core.specs.Machine.{IsAsTold}
use Rattle.machine_core.proofs.Told.{as_told}
use Rattle.machine_core.proofs.inner.Inner.ending.Goals as goal

pub returns-clause-told : goal.returns-clause-told
returns-clause-told g c =
    let w = inner_of c.self.inside.engine c.self.inside.calls c.self.inside.log c.self.inside.abandoned in
    subst (λ (x : Inner). x.nest.outers ≡ [] → (d : Seen) → IsAsTold g.K.Origin.state (machine_in x d)) c.self.view_is
    (as_told g.K.Origin.state g.K.Origin.devices w c.self.inside.log c.self.invariant)
