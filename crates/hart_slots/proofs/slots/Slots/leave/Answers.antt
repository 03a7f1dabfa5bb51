use Rattle.std.proofs.Common.{◌∙◌, ap, take}
use Rattle.guest_words.specs.State.{changed}
use Rattle.guest_words.specs.CallChanges.{departed}
use Rattle.hart_slots.specs.Parts.{on_frames}
use Rattle.hart_slots.proofs.OneChange.{changed-absent, departed-twice}
use Rattle.hart_slots.proofs.slots.Slots.leave.Goals as goal

pub returns-in-Some : goal.returns-in-Some
returns-in-Some c = record {
  value =
      c.keep_frames.ensures.value ∙ ap (changed (on_frames (take 0)) c.args.h) c.put.ensures.value
      ∙ departed-twice c.args.code c.args.h c.args.self.now c.in-Some.field-0.now c.in-Some.ensures.value;
}

pub returns-in_default : goal.returns-in_default
returns-in_default c = record { value = changed-absent (departed c.args.code) c.args.h c.args.self.now c.in_default.ensures.value }
