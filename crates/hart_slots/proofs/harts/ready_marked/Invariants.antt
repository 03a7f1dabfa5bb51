use Rattle.std.proofs.Common.{◌≡◌, ◌<◌, ◌≤◌, ℕ, false, length, slice_get, option_map}
use Rattle.std.specs.List.{slice_index_or}
use Rattle.hart_slots.specs.Parts.{ready_where}
use Rattle.hart_slots.proofs.harts.ready_marked.Given as goal

abbrev pub invariant-loop-h : goal.invariant-loop-h
invariant-loop-h l = record {
  count : length l.harts ≡ l.count;
  same : l.count ≡ length l.fn.harts;
  passed : (k : ℕ) → k < l.h → slice_get l.harts k ≡ option_map (ready_where (slice_index_or l.flags k false)) (slice_get l.fn.harts k);
  ahead : (k : ℕ) → l.h ≤ k → slice_get l.harts k ≡ slice_get l.fn.harts k;
}
