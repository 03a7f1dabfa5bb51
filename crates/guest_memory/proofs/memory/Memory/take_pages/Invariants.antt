use Rattle.std.proofs.Common.{◌≡◌, ◌+◌, ◌-◌, ◌*◌, ◌≤◌, length, true}
use Rattle.guest_words.specs.Space.{without}
use Rattle.guest_memory.specs.Noting.{Notes}
use Rattle.guest_memory.proofs.memory.Memory.take_pages.Given as goal

-- so many pages are left of the range, those behind them are taken, and the notes taken so far lead
-- back
abbrev pub invariant-loop-page : goal.invariant-loop-page
invariant-loop-page l = record {
  few_left : l.left ≤ l.count;
  gone : l.self ≡ record l.fn.self { space = without l.fn.self.space (l.from + 4096 * l.left) (4096 * (l.count - l.left)); spare = l.self.spare };
  notes : Notes true l.fn.log.notes l.log.notes l.fn.self l.self;
  few : length l.log.notes ≤ length l.fn.log.notes + (l.count - l.left);
  room : l.fn.log.spare ≤ l.log.spare + (l.count - l.left);
}

abbrev pub decreases-loop-page : goal.decreases-loop-page
decreases-loop-page l = l.left
