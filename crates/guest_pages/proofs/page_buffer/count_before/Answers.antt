use Rattle.std.proofs.Common.{arith, ◌+◌, ◌-◌, ◌/◌}
use Rattle.guest_pages.proofs.Lookup.{middle_before, middle_after}
use Rattle.guest_pages.proofs.page_buffer.count_before.Goals as goal

pub loop-low-preserved-then-buffers-middle : goal.loop-low-preserved-then-buffers-middle
loop-low-preserved-then-buffers-middle c = record {
  ordered = omega arith;
  within = c.loop-low.invariant.within;
  before = middle_before c.args.buffers.now c.args.address (c.loop-low.low + (c.loop-low.high - c.loop-low.low) / 2) c.index-buffers-middle.result c.requires.sorted
      (let w = c.loop-low.invariant.within in omega arith) c.if-buffers-middle.true;
  after = c.loop-low.invariant.after;
}

pub loop-low-preserved : goal.loop-low-preserved
loop-low-preserved c = record {
  ordered = omega arith;
  within = let w = c.loop-low.invariant.within in omega arith;
  before = c.loop-low.invariant.before;
  after = middle_after c.args.buffers.now c.args.address (c.loop-low.low + (c.loop-low.high - c.loop-low.low) / 2) c.index-buffers-middle.result c.requires.sorted
      (let w = c.loop-low.invariant.within in omega arith) c.if-buffers-middle.false;
}
