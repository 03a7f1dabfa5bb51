use Rattle.std.proofs.Common.{subst, sym, ◌<◌, rules}
use Rattle.stop_gate.proofs.Keeps.{splits}
use Rattle.stop_gate.proofs.gate.Gate.another.Goals as goal

pub split_seat-seat-requires : goal.split_seat-seat-requires
split_seat-seat-requires g c = (search rules, search rules, splits g.C.Held _ _ _ c.pass.invariant.0 (subst (λ p. 0 < p.view.spare) (sym c.pass.view_is) c.requires.spare))
