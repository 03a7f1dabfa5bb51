use Rattle.std.proofs.Common.{◌+◌, ◌-◌, ◌∙◌, List, [], ◌++◌, ◌∷◌, ap, sym, append_assoc, replicate}
use Rattle.guest_words.specs.declared.hart.Frame.{Frame}
use Rattle.hart_slots.proofs.OneMore.{one_more}
use Rattle.hart_slots.proofs.slots.no_frames.Goals as goal

pub loop-preserved : goal.loop-preserved
loop-preserved c =
    let none : List Frame = [] in
    let rest = replicate (c.args.count - (c.loop.counter + 1)) none in
    ap (λ xs. xs ++ rest) c.in_ok-push.ensures.items
    ∙ append_assoc c.loop.frames.items _ rest
    ∙ ap (λ (frames : List Frame). c.loop.frames.items ++ frames ∷ rest) c.new.ensures.none
    ∙ sym (ap (λ xs. c.loop.frames.items ++ xs) (one_more c.args.count c.loop.counter none c.loop-test.true))
    ∙ c.loop.invariant
