use Rattle.std.proofs.Common.{◌≡◌, true, refl, ap, subst}
use Rattle.edge_ports.specs.Seen.{Seen}
use Rattle.open_calls.specs.Nest.{Stack}
use Rattle.machine_core.specs.Inner.{Inner, inner_of, machine_in, opened_in}
use Rattle.machine_core.specs.Machine.{whole}
use Rattle.machine_core.specs.OpenSteps.{abandoned_of}
use Rattle.machine_core.proofs.Ends.{left, left_hold, left_none}
use Rattle.machine_core.proofs.inner.Inner.abandon.Goals as goal

pub invariant_of-self : goal.invariant_of-self
invariant_of-self g c =
    let w = inner_of c.self.inside.engine c.self.inside.calls c.self.inside.log c.self.inside.abandoned in
    let v = inner_of c.self.inside.engine c.close_to.new.self c.self.inside.log true in
    left_hold g.K.Origin.state g.K.Origin.devices w v c.self.inside.log c.self.inside.log c.self.invariant refl (ap (λ (x : Stack). x.nest) c.close_to.ensures.same) refl refl

pub returns-clause-value : goal.returns-clause-value
returns-clause-value g c =
    let w = inner_of c.self.inside.engine c.self.inside.calls c.self.inside.log c.self.inside.abandoned in
    let v = inner_of c.self.inside.engine c.close_to.new.self c.self.inside.log true in
    subst (λ (x : Inner). (d : Seen) → machine_in v d ≡ abandoned_of (whole (opened_in x d))) c.self.view_is
    (left g.K.Origin.state g.K.Origin.devices w v c.self.inside.log c.self.inside.log c.self.invariant refl (ap (λ (x : Stack). x.nest) c.close_to.ensures.same) refl)

pub returns-clause-none : goal.returns-clause-none
returns-clause-none g c =
    let w = inner_of c.self.inside.engine c.self.inside.calls c.self.inside.log c.self.inside.abandoned in
    let v = inner_of c.self.inside.engine c.close_to.new.self c.self.inside.log true in
    left_none g.K.Origin.state g.K.Origin.devices w v c.self.inside.log c.self.inside.log c.self.invariant refl (ap (λ (x : Stack). x.nest) c.close_to.ensures.same) refl
