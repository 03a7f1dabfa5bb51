use Rattle.std.proofs.Common.{ap, ◌∙◌}
use Rattle.run_history.specs.Counts.{records_of_all}
use Rattle.machine_core.specs.Inner.{Inner, inner_of}
use Rattle.machine_core.proofs.Told.{records_told}
use Rattle.machine_core.proofs.inner.Inner.into_parts.Goals as goal

pub returns-clause-records : goal.returns-clause-records
returns-clause-records g c =
    let w = inner_of c.self.inside.engine c.self.inside.calls c.self.inside.log c.self.inside.abandoned in
    ap records_of_all c.flatten.ensures.entries ∙ records_told g.K.Origin.state g.K.Origin.devices w c.self.inside.log c.self.invariant
    ∙ ap (λ (x : Inner). x.live.state.records) c.self.view_is
