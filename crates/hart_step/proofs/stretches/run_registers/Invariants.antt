use Rattle.std.proofs.Common.{◌≡◌, Some}
use Rattle.hart_step.specs.InPlace.{HasZero}
use Rattle.hart_step.specs.Registers.{registers}
use Rattle.hart_step.proofs.stretches.run_registers.Given as goal

abbrev pub invariant-loop-count : goal.invariant-loop-count
invariant-loop-count l = record {
  so_far : registers l.text l.points l.fn.base l.count ≡ Some l.hart;
  zero : HasZero l.hart;
}
