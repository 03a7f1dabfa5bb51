use Rattle.std.proofs.Common.{◌≡◌, ◌+◌, ◌-◌, ◌*◌, ◌<◌, ◌≤◌, length}
use Rattle.guest_pages.specs.Buffers.{AreAdjacent}
use Rattle.guest_pages.proofs.area.count_adjacent.Given as goal

-- so many lie side by side, and where the stride has come to its end one more doesn't
abbrev pub invariant-loop-stride : goal.invariant-loop-stride
invariant-loop-stride l = record {
  some : 0 < l.count;
  within : l.count ≤ length l.pages;
  short : l.stride ≤ l.count;
  adjacent : AreAdjacent l.pages l.count;
  all : l.stride ≡ 0 → l.count < length l.pages → AreAdjacent l.pages (l.count + 1) → ⊥;
}

abbrev pub decreases-loop-stride : goal.decreases-loop-stride
decreases-loop-stride l = 2 * (length l.pages - l.count) + l.stride
