use Rattle.guest_words.specs.Points.{spent_at}
use Rattle.guest_words.proofs.Mapping.{map-next}
use Rattle.guest_words.proofs.points.spend_at.Goals as goal

pub loop-point-preserved : goal.loop-point-preserved
loop-point-preserved c =
    map-next (spent_at c.args.entry) c.deref_mut-point-items.result.now c.loop-point.point-items
    c.loop-point.point-index _ c.spend_one.new.point c.loop-point-test.true c.loop-point.auto.point-items
    c.loop-point.invariant c.spend_one.ensures.value
