use Rattle.std.proofs.Common.{◌≡◌, [], ap, ◌∙◌}
use Rattle.machine_core.specs.Inner.{Inner, inner_of}
use Rattle.machine_core.proofs.Ends.{rests}
use Rattle.machine_core.proofs.inner.Inner.rest.Goals as goal

pub invariant_of-self : goal.invariant_of-self
invariant_of-self g c =
    let w = inner_of c.self.inside.engine c.self.inside.calls c.self.inside.log c.self.inside.abandoned in
    let v = inner_of c.self.inside.engine c.self.inside.calls c.clear.new.self c.self.inside.abandoned in
    let none : w.nest.outers ≡ [] = ap (λ (x : Inner). x.nest.outers) c.self.view_is ∙ c.requires.none in
    rests g.K.Origin.state g.K.Origin.devices w v c.self.inside.log c.clear.new.self c.self.invariant none (λ i. record w { notes = c.clear.ensures.none i }) c.clear.ensures.none

pub returns : goal.returns
returns g c =
    let w = inner_of c.self.inside.engine c.self.inside.calls c.self.inside.log c.self.inside.abandoned in
    record { same = (λ i. record w { notes = c.clear.ensures.none i }) ∙ ap (λ (x : Inner). record x { notes = [] }) c.self.view_is }
