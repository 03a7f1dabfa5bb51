use Rattle.std.proofs.Common.{◌∙◌, ap}
use Rattle.guest_words.specs.declared.hart.Hart.{Hart}
use Rattle.guest_words.specs.declared.hart.HartState.TheVariants.{Waiting}
use Rattle.guest_words.specs.State.{on_hart}
use Rattle.guest_words.specs.CallChanges.{asleep}
use Rattle.hart_slots.proofs.OneChange.{changed-absent, changed-put}
use Rattle.hart_slots.proofs.slots.Slots.wait.Goals as goal

pub returns-in-Some : goal.returns-in-Some
returns-in-Some c = record {
  value = c.put.ensures.value ∙ changed-put (asleep c.args.place) c.args.h c.args.self.now c.in-Some.field-0.now _ c.in-Some.ensures.value
      (ap (λ (h : Hart). record h { state = Waiting c.args.place }) c.answered.ensures.value);
}

pub returns-in_default : goal.returns-in_default
returns-in_default c = record { value = changed-absent (on_hart (asleep c.args.place)) c.args.h c.args.self.now c.in_default.ensures.value }
