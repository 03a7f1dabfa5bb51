use Rattle.std.proofs.Common.{◌<◌, length, sym, subst}
use Rattle.machine_core.specs.Inner.{IsGoing}
use Rattle.machine_core.proofs.Steps.{ready_within}
use Rattle.machine_core.proofs.inner.Inner.fault.Goals as goal

pub next_act-requires : goal.next_act-requires
next_act-requires g c =
    let going = subst IsGoing (sym c.self.view_is) c.requires.going in
    record {
      within = subst (λ h. h < length c.self.inside.engine.state.slots) (sym c.hart-hart.ensures.value)
          (ready_within c.self.inside.engine.state.slots c.self.inside.calls.hart going.under.ready);
    }
