use Rattle.std.proofs.Common.{◌<◌, length, refl, sym, subst}
use Rattle.hart_step.specs.Live.{space_of}
use Rattle.hart_step.specs.Returns.{CanReturn}
use Rattle.open_calls.specs.Leading.{LeadsBack}
use Rattle.open_calls.proofs.Leading.{leads_back}
use Rattle.machine_core.specs.Inner.{Inner, inner_of}
use Rattle.machine_core.proofs.inner.Inner.notes.Goals as goal

pub returns-clause-back : goal.returns-clause-back
returns-clause-back g c =
    let w = inner_of c.self.inside.engine c.self.inside.calls c.self.inside.log c.self.inside.abandoned in
    subst (λ (x : Inner). LeadsBack g.K.Origin.state x.hart c.args.call x.notes x.nest x.live.state) c.self.view_is
    (leads_back CanReturn g.K.Origin.state w.hart c.args.call w.nest w.notes w.live.state (space_of w.live) c.self.invariant.stacked
    (record { space = refl; low = refl; brk = refl }) (subst (λ (x : Inner). c.args.call < length x.nest.outers) (sym c.self.view_is) c.requires.open))
