use Rattle.std.proofs.Common.{◌∙◌}
use Rattle.guest_words.specs.State.{closed}
use Rattle.hart_slots.proofs.OneChange.{changed-absent, closed-kept}
use Rattle.hart_slots.proofs.slots.Slots.close.Goals as goal

pub returns-in-Some : goal.returns-in-Some
returns-in-Some c = record {
  value =
      c.keep_frames.ensures.value
      ∙ closed-kept c.args.h _ c.args.self.now _ c.frames.result.now c.in-Some.ensures.value c.frames.ensures.value c.closed_after-count.ensures.value;
}

pub returns-in_default : goal.returns-in_default
returns-in_default c = record { value = changed-absent closed c.args.h c.args.self.now c.in_default.ensures.value }
