use Rattle.std.proofs.Common.{subst, sym, arith}
use Rattle.futex_table.specs.Slots.{HasOwnSlots}
use Rattle.futex_table.proofs.OwnSlots.{HasOwnSlots-unwoken}
use Rattle.futex_table.proofs.queue.Queue.wake.Goals as goal

pub invariant_of-self : goal.invariant_of-self
invariant_of-self c = record {
  size = c.keep_unwoken-self-inside.ensures.size;
  within = omega arith;
  own =
      subst HasOwnSlots (sym c.keep_unwoken-self-inside.ensures.value)
      (HasOwnSlots-unwoken c.args.place c.args.most _ c.self.invariant.own);
}
