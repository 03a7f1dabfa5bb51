use Rattle.std.proofs.Common.{ℕ, ◌∙◌, ◌-◌, ◌∷◌, ap, replicate}
use Rattle.guest_words.specs.declared.hart.Hart.{Hart}
use Rattle.guest_words.specs.Start.{empty_hart, first_hart}
use Rattle.hart_slots.specs.Rejoined.{joined}
use Rattle.hart_slots.proofs.Starting.{joined-start}
use Rattle.hart_slots.proofs.slots.Slots.start.Goals as goal

pub returns : goal.returns
returns c = record {
  ok =
      ap (λ hs. joined hs c.in_ok-no_frames.field-0.items)
      (c.in_ok-start.ensures.ok ∙ ap (λ (n : ℕ). c.first.result ∷ replicate (n - 1) empty_hart) c.from.ensures
      ∙ ap (λ (hart : Hart). hart ∷ replicate (c.args.harts - 1) empty_hart) c.first.ensures.value)
      ∙ ap (joined (first_hart c.args.entry ∷ replicate (c.args.harts - 1) empty_hart)) c.in_ok-no_frames.ensures.ok
      ∙ joined-start c.args.entry c.args.harts c.requires.some;
}
