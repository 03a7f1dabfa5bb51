use Rattle.std.proofs.Common.{◌≡◌, ◌≢◌, ℕ, ◌-◌, ◌<◌, ◌≤◌, get_or}
use Rattle.elf_symbols.proofs.strings.last_end.Given as goal

abbrev pub invariant-loop-i : goal.invariant-loop-i
invariant-loop-i l = record {
  within : l.end ≤ l.i;
  none_after : (k : ℕ) → l.end ≤ k → k < l.i → get_or l.strings k 0 ≢ 0;
  last : 0 < l.end → get_or l.strings (l.end - 1) 0 ≡ 0;
}
