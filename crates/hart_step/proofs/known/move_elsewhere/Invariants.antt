use Rattle.std.proofs.Common.{◌≡◌, ◌++◌, map, take, drop}
use Rattle.hart_step.specs.Table.{elsewhere}
use Rattle.hart_step.proofs.known.move_elsewhere.Given as goal

abbrev pub invariant-loop-known : goal.invariant-loop-known
invariant-loop-known l =
    l.known-items ≡ map elsewhere (take l.known-index l.initial.known-items) ++ drop l.known-index l.initial.known-items
