use Rattle.std.proofs.Common.{◌≡◌, ◌≤◌, ◌∙◌, ap, sym, length, subst, take}
use Rattle.guest_words.specs.State.{changed}
use Rattle.hart_slots.specs.Parts.{on_frames}
use Rattle.hart_slots.specs.Rejoined.{joined, rejoined, reopened}
use Rattle.hart_slots.proofs.Joins.{length-joined, rejoined-joined}
use Rattle.hart_slots.proofs.OneChange.{reopened-kept}
use Rattle.hart_slots.proofs.slots.Slots.put_back.Goals as goal

pub put_back-requires : goal.put_back-requires
put_back-requires c = record {
  count = c.requires.count ∙ sym (ap length c.self.view_is) ∙ length-joined c.self.inside.harts c.self.inside.frames.items c.self.invariant.0 ∙ sym c.self.invariant.0;
}

pub invariant_of-self : goal.invariant_of-self
invariant_of-self c =
    let same : length c.put_back.new.self ≡ length c.self.inside.frames.items =
    ap length c.put_back.ensures.value ∙ c.requires.count ∙ sym (ap length c.self.view_is) ∙ length-joined c.self.inside.harts c.self.inside.frames.items c.self.invariant.0 in
    (same, subst (λ n. n ≤ 64) (c.self.invariant.0 ∙ sym same) c.self.invariant.1)

pub returns : goal.returns
returns c = record {
  value =
      let slots = joined c.put_back.new.self c.self.inside.frames.items in
      c.keep_frames.ensures.value ∙ ap (λ n. changed (on_frames (take n)) c.args.h slots) c.saturating_sub.ensures
      ∙ reopened-kept c.args.h slots c.frames-count.result.now c.frames-count.ensures.value
      ∙ ap (λ harts. changed reopened c.args.h (joined harts c.self.inside.frames.items)) c.put_back.ensures.value
      ∙ ap (changed reopened c.args.h) (sym (rejoined-joined c.args.kept c.self.inside.harts c.self.inside.frames.items c.self.invariant.0) ∙ ap (rejoined c.args.kept) c.self.view_is);
}
