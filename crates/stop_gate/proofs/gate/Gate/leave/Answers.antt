use Rattle.std.proofs.Common.{rules, ap, Bool}
use Rattle.stop_gate.specs.declared.view.Place.{Place}
use Rattle.stop_gate.specs.Places.{is_counted, is_stopping, is_alone, has_turn}
use Rattle.stop_gate.proofs.PlaceFacts.{weight}
use Rattle.stop_gate.proofs.GateSteps.{leaves}
use Rattle.stop_gate.proofs.gate.Gate.leave.Goals as goal

pub fetch_sub-requires : goal.fetch_sub-requires
fetch_sub-requires g c =
    let was = λ (p : Place → Bool). ap (λ a. weight (p a)) c.pass.invariant.0 in
    (search rules, search rules, leaves g.C.Held _ _ _ _ (was is_counted) (was is_stopping) (was is_alone) (was has_turn))
