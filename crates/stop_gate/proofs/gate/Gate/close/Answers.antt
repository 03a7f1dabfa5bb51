use Rattle.std.proofs.Common.{arith}
use Rattle.stop_gate.proofs.Endings.{ends_away, ends_home}
use Rattle.stop_gate.proofs.gate.Gate.close.Goals as goal

pub returns-then-word-eq1 : goal.returns-then-word-eq1
returns-then-word-eq1 g c =
    let ends = ends_away g.C.Held _ _ c.self.view_is _ _ c.pass.view_is _ _ _ c.close_with-closed.ensures.values.2 c.word-word.ensures c.if-word-eq1.true in
    record { ended = ends.ended; value = ends.value }

pub returns-else-word-eq1 : goal.returns-else-word-eq1
returns-else-word-eq1 g c =
    let ends = ends_home g.C.Held _ _ c.self.view_is _ _ c.pass.view_is _ _ _ c.close_with-closed.ensures.values.2 _ c.word-word.ensures c.take-value.ensures.value (omega (arith, c.if-word-eq1.false)) in
    record { ended = ends.ended; value = ends.value }
