use Rattle.std.proofs.Common.{arith, ap, sym, ◌∙◌}
use Rattle.std.specs.Option.{option_copied}
use Rattle.machine_core.specs.Inner.{inner_of}
use Rattle.machine_core.proofs.Stretching.{slots_stay}
use Rattle.machine_core.proofs.Turning.{no_slot}
use Rattle.machine_core.proofs.inner.Inner.hart_in.Goals as goal

pub unreachable-requires : goal.unreachable-requires
unreachable-requires g c =
    let w = inner_of c.self.inside.engine c.self.inside.calls c.self.inside.log c.self.inside.abandoned in
    let slots = slots_stay g.K.Origin.state g.K.Origin.devices w c.self.inside.log c.self.invariant in
    let few = c.requires.slot in
    no_slot w.live.state.slots c.args.slot (omega (arith, slots, few)) (ap option_copied (sym c.in-None.is) ∙ c.hart.ensures.value)
