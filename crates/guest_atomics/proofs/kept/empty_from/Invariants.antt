use Rattle.std.proofs.Common.{◌≡◌, ◌≤◌, ◌-◌, length, replicate}
use lib.Seq.{paste}
use Rattle.guest_words.specs.Start.{empty_hart}
use Rattle.guest_atomics.proofs.kept.empty_from.Given as goal

abbrev pub invariant-loop-slot : goal.invariant-loop-slot
invariant-loop-slot l = record {
  value : l.harts ≡ paste l.fn.harts l.from (replicate (l.slot - l.from) empty_hart) (l.slot - l.from);
  within : l.slot ≤ length l.fn.harts;
}
