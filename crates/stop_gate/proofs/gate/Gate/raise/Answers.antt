use Rattle.std.proofs.Common.{rules}
use Rattle.stop_gate.proofs.GateSteps.{raises}
use Rattle.stop_gate.proofs.gate.Gate.raise.Goals as goal

pub fetch_or-word-requires : goal.fetch_or-word-requires
fetch_or-word-requires g c = let at = c.pass.invariant.0 in
    (search rules, search rules, raises g.C.Held _ _ _ _ at)
