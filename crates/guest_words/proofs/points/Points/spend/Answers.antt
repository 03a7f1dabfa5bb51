use Rattle.std.proofs.Common.{subst, sym}
use Rattle.guest_words.specs.Points.{IsPointList}
use Rattle.guest_words.proofs.PointLists.{IsPointList-spent}
use Rattle.guest_words.proofs.points.Points.spend.Goals as goal

pub invariant_of-self : goal.invariant_of-self
invariant_of-self c =
    subst IsPointList (sym c.spend_at.ensures.value)
    (IsPointList-spent c.self.inside.items.items c.args.entry c.self.invariant)
