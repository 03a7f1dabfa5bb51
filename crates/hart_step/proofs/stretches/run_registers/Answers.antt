use Rattle.hart_step.proofs.RegisterActs.{registers-more, registers-none}
use Rattle.hart_step.proofs.stretches.run_registers.Goals as goal

pub loop-count-init : goal.loop-count-init
loop-count-init c = record { so_far = registers-none c.args.text.now c.args.points.now c.args.base; zero = c.requires.zero }

pub loop-count-preserved : goal.loop-count-preserved
loop-count-preserved c = record {
  so_far = registers-more c.args.text.now c.args.points.now c.args.base c.loop-count.hart _ c.loop-count.count c.loop-count.invariant.so_far (c.go_on.ensures.after c.if-not-go_on.false);
  zero = c.go_on.ensures.zero;
}
