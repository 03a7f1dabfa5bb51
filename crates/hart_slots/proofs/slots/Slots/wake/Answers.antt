use Rattle.std.proofs.Common.{ap, ◌∙◌}
use Rattle.guest_words.specs.CallChanges.{readied}
use Rattle.hart_slots.proofs.Waking.{joined-readied}
use Rattle.hart_slots.proofs.slots.Slots.wake.Goals as goal

pub returns : goal.returns
returns c = record {
  value = λ waiters marks.
      joined-readied c.args.woken.now.slots waiters c.self.inside.harts c.ready_marked.new.harts c.self.inside.frames.items c.ready_marked.ensures.each marks
      ∙ ap (readied waiters) c.self.view_is;
}
