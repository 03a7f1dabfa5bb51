use Rattle.std.proofs.Common.{◌∙◌, ap}
use Rattle.std.proofs.lemmas.Int.{to_z-of_z}
use mir.Syntax.{w64}
use Rattle.guest_words.specs.State.{on_hart}
use Rattle.guest_words.specs.CallChanges.{answered}
use Rattle.hart_slots.proofs.OneChange.{changed-absent, changed-put}
use Rattle.hart_slots.proofs.slots.Slots.answer.Goals as goal

pub returns-in-Some : goal.returns-in-Some
returns-in-Some c = record {
  value = c.put.ensures.value ∙ changed-put (answered c.args.value) c.args.h c.args.self.now c.in-Some.field-0.now _ c.in-Some.ensures.value
      (c.answered.ensures.value ∙ ap (λ v. answered v c.in-Some.field-0.now) (to_z-of_z w64 c.args.value c.ranges.value));
}

pub returns-in_default : goal.returns-in_default
returns-in_default c = record { value = changed-absent (on_hart (answered c.args.value)) c.args.h c.args.self.now c.in_default.ensures.value }
