use Rattle.std.proofs.Common.{rules, ◌≡◌, ◌≤◌, take, length, ℕ, ◌+◌, ◌-◌, true, false, List, [], ◌∷◌, ◌++◌, sym, ◌∙◌}
use Rattle.std.proofs.Math.Seq.{take-length}
use Rattle.guest_words.specs.Harts.{is_over, close_frames}
use Rattle.point_frames.proofs.ClosedFrames.{close_frames-innermost_over, close_frames-innermost_stays, close_frames-empty, take-part}
use Rattle.point_frames.proofs.closing.+closed_after.Goals as goal

pub returns-in-len1-up-clause-value : goal.returns-in-len1-up-clause-value
returns-in-len1-up-clause-value t c =
    close_frames-innermost_over c.args.hart.now c.args.frames.now _ c.in-len1-up.len_at_least (sym c.is_over.ensures.value ∙ c.if-is_over.true)
    ∙ c.closed_after.ensures.value ∙ take-part c.args.frames.now c.closed_after.result _ c.closed_after.ensures.within

pub returns-in_default-clause-value : goal.returns-in_default-clause-value
returns-in_default-clause-value t c = close_frames-empty c.args.hart.now c.args.frames.now c.in_default.len_below

pub returns-in_default-2-clause-value : goal.returns-in_default-2-clause-value
returns-in_default-2-clause-value t c =
    close_frames-innermost_stays c.args.hart.now c.args.frames.now _ c.in-len1-up.len_at_least (sym c.is_over.ensures.value ∙ c.if-is_over.false)
    ∙ sym (take-length c.args.frames.now)
