use Rattle.std.proofs.Common.{◌∙◌, ap, take, []}
use Rattle.guest_words.specs.declared.hart.Hart.{Hart}
use Rattle.guest_words.specs.State.{changed}
use Rattle.guest_words.specs.CallChanges.{child_of, child_slot}
use Rattle.hart_slots.specs.Parts.{on_frames}
use Rattle.hart_slots.proofs.OneChange.{child-absent, child-added}
use Rattle.hart_slots.proofs.slots.Slots.add.Goals as goal

pub returns-in-Some : goal.returns-in-Some
returns-in-Some c = record {
  value =
      c.keep_frames.ensures.value ∙ ap (changed (on_frames (take 0)) c.args.slot) c.put.ensures.value
      ∙ child-added (child_slot c.args.flags c.args.stack c.args.tls c.args.child c.args.tid) c.child_of.result c.args.h c.args.slot c.args.self.now c.in-Some.field-0.now c.in-Some.ensures.value
      (λ slot same. ap (λ (x : Hart). record { hart = x; frames = [] }) (c.child_of.ensures.value ∙ ap (child_of c.args.flags c.args.stack c.args.tls c.args.child c.args.tid) same));
}

pub returns-in_default : goal.returns-in_default
returns-in_default c = record {
  value = child-absent (child_slot c.args.flags c.args.stack c.args.tls c.args.child c.args.tid) c.args.h c.args.slot c.args.self.now c.in_default.ensures.value;
}
