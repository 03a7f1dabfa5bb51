use Rattle.hart_step.specs.Registers.{IsTextOf}
use Rattle.machine_core.specs.Inner.{inner_of}
use Rattle.machine_core.proofs.Stretching.{ok_map, text_then}
use Rattle.machine_core.proofs.inner.Inner.text.Goals as goal

pub returns : goal.returns
returns g c =
    let w = inner_of c.self.inside.engine c.self.inside.calls c.self.inside.log c.self.inside.abandoned in
    record {
      ok = ok_map c.text.result (λ text. IsTextOf text w.live.state.memory) (λ text. IsTextOf text g.K.Origin.state.memory)
          (λ text tells. text_then g.K.Origin.state g.K.Origin.devices w c.self.inside.log c.self.invariant text tells) c.text.ensures.ok;
    }
