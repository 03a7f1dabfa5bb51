use Rattle.std.proofs.Common.{List, [], ◌∷◌, ◌++◌, ◌∙◌, ap, sym}
use Rattle.guest_words.specs.declared.hart.Frame.{Frame}
use Rattle.guest_words.specs.State.{changed}
use Rattle.hart_slots.specs.Parts.{on_frames}
use Rattle.hart_slots.specs.Rejoined.{joined}
use Rattle.hart_slots.proofs.Joins.{joined-frames}
use Rattle.hart_slots.proofs.slots.Slots.push_frame.Goals as goal

pub invariant_of-self : goal.invariant_of-self
invariant_of-self c = (c.self.invariant.0 ∙ sym c.push_at.ensures.count, c.self.invariant.1)

pub returns-clause-ok : goal.returns-clause-ok
returns-clause-ok c =
    let f = λ (frames : List Frame). frames ++ c.args.frame ∷ [] in
    ap (joined c.self.inside.harts) (c.in_ok-push_at.ensures.ok []) ∙ joined-frames f c.args.h c.self.inside.harts c.self.inside.frames.items []
    ∙ ap (changed (on_frames f) c.args.h) c.self.view_is
