use Rattle.std.proofs.Common.{◌≡◌, ℕ, ◌+◌, ◌*◌, ◌<◌, length, slice_index_or, None}
use Rattle.guest_words.specs.HartAct.{inst_at}
use Rattle.hart_step.proofs.text.insts_from.Given as goal

abbrev pub invariant-loop-k : goal.invariant-loop-k
invariant-loop-k l = record {
  count : length l.insts.items ≡ l.k;
  insts : (j : ℕ) → j < l.k → slice_index_or l.insts.items j None ≡ inst_at l.memory.space (l.from + 4 * j);
}
