use Rattle.std.proofs.Common.{rules}
use Rattle.stop_gate.proofs.GateSteps.{lowers}
use Rattle.stop_gate.proofs.gate.Gate.lower.Goals as goal

pub fetch_and-requires : goal.fetch_and-requires
fetch_and-requires g c = let at = c.pass.invariant.0 in
    (search rules, search rules, lowers g.C.Held _ _ _ _ at)
