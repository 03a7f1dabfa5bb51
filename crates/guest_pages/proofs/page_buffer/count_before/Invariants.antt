use Rattle.std.proofs.Common.{◌-◌, ◌≤◌, ◌<◌, ℕ, length, get_or}
use Rattle.guest_pages.specs.declared.page_buffer.PageBuffer.{PageBuffer}
use Rattle.guest_pages.proofs.page_buffer.count_before.Given as goal

-- what is below the middle begins before the address, and what is above it doesn't
abbrev pub invariant-loop-low : goal.invariant-loop-low
invariant-loop-low l = record {
  ordered : l.low ≤ l.high;
  within : l.high ≤ length l.buffers;
  before : (k : ℕ) (d : PageBuffer) → k < l.low → (get_or l.buffers k d).from < l.address;
  after : (k : ℕ) (d : PageBuffer) → l.high ≤ k → k < length l.buffers → l.address ≤ (get_or l.buffers k d).from;
}

abbrev pub decreases-loop-low : goal.decreases-loop-low
decreases-loop-low l = l.high - l.low
