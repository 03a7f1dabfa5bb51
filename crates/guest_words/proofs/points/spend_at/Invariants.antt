use Rattle.std.proofs.Common.{◌≡◌, ◌++◌, map, take, drop}
use Rattle.guest_words.specs.Points.{spent_at}
use Rattle.guest_words.proofs.points.spend_at.Given as goal

abbrev pub invariant-loop-point : goal.invariant-loop-point
invariant-loop-point l =
    l.point-items
    ≡ map (spent_at l.entry) (take l.point-index l.initial.point-items)
    ++ drop l.point-index l.initial.point-items
