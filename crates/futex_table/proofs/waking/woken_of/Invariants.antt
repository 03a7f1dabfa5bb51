use Rattle.std.proofs.Common.{◌≡◌, ◌≤◌, ◌+◌, ◌-◌, ℕ, drop, length}
use Rattle.guest_words.specs.CallChanges.{woken}
use Rattle.futex_table.specs.Slots.{has_slot}
use Rattle.futex_table.proofs.Flags.{is_marked}
use Rattle.futex_table.proofs.waking.woken_of.Given as goal

abbrev pub invariant-loop-waiter : goal.invariant-loop-waiter
invariant-loop-waiter l = record {
  size : length l.slots ≡ 64;
  fewer : l.left ≤ l.most;
  marks : (slot : ℕ) → is_marked l.slots slot (woken l.place l.left (drop l.waiter-index l.waiters)) ≡ has_slot slot (woken l.place l.most l.waiters);
  count : (l.most - l.left) + length (woken l.place l.left (drop l.waiter-index l.waiters)) ≡ length (woken l.place l.most l.waiters);
}
