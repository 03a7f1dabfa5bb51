use Rattle.std.proofs.Common.{◌≡◌, ◌≤◌, length, take}
use Rattle.guest_words.specs.CallChanges.{unwoken}
use Rattle.futex_table.proofs.InPlace.{left_of}
use Rattle.futex_table.proofs.waking.keep_unwoken.Given as goal

abbrev pub invariant-loop-index : goal.invariant-loop-index
invariant-loop-index l = record {
  size : length l.waiters ≡ 64;
  behind : l.kept ≤ l.index;
  value : left_of l.place l.left l.waiters l.kept l.count l.index ≡ unwoken l.place l.most (take l.count l.initial.waiters);
}
