use Rattle.hart_workers.specs.Workers.{HasSeenOver}
use Rattle.hart_workers.proofs.settle.take_out.Given as goal

abbrev pub invariant-loop : goal.invariant-loop
invariant-loop g l = HasSeenOver l.gate l.pass
