use Rattle.std.proofs.Common.{rules}
use Rattle.stop_gate.proofs.GateSteps.{enters}
use Rattle.stop_gate.proofs.gate.Gate.try_enter.Goals as goal

pub fetch_add-word-requires : goal.fetch_add-word-requires
fetch_add-word-requires g c = let at = c.pass.invariant.0 in
    (search rules, search rules, enters g.C.Held _ _ _ _ at)
