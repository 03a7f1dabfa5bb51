use Rattle.guest_words.specs.Harts.{unreserved}
use Rattle.guest_atomics.proofs.EachHart.{map-next}
use Rattle.guest_atomics.proofs.harts.end_all.Goals as goal

pub loop-hart-preserved : goal.loop-hart-preserved
loop-hart-preserved c =
    map-next unreserved c.deref_mut-hart-items.result.now c.loop-hart.hart-items c.loop-hart.hart-index _ c.release.new.hart c.loop-hart-test.true c.loop-hart.auto.hart-items c.loop-hart.invariant c.release.ensures.value
