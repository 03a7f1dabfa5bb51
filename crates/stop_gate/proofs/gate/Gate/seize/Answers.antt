use Rattle.std.proofs.Common.{rules}
use Rattle.stop_gate.proofs.GateSteps.{seizes}
use Rattle.stop_gate.proofs.gate.Gate.seize.Goals as goal

pub load-inside-requires : goal.load-inside-requires
load-inside-requires g c = let at = c.pass.invariant.0 in
    (search rules, search rules, seizes g.C.Held _ _ _ _ at)
