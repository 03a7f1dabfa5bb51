use Rattle.std.proofs.Common.{◌≡◌, ℕ, ◌<◌, length, get_or}
use Rattle.guest_pages.specs.declared.page_buffer.PageBuffer.{PageBuffer}
use Rattle.guest_pages.specs.Buffers.{IsAlike}
use Rattle.guest_pages.proofs.copies.copied.Given as goal

-- the first buffers are copied
abbrev pub invariant-loop-buffer : goal.invariant-loop-buffer
invariant-loop-buffer l = record {
  long : length l.copies.items ≡ l.buffer-index;
  each : (k : ℕ) (d : PageBuffer) → k < l.buffer-index → IsAlike (get_or l.buffers k d) (get_or l.copies.items k d);
}
