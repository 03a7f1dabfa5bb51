use Rattle.stop_gate.specs.Passes.{IsOf}
use Rattle.hart_workers.proofs.worker.Worker.stand_in.Given as goal

abbrev pub invariant-loop-hart : goal.invariant-loop-hart
invariant-loop-hart g l = IsOf l.gate l.pass
