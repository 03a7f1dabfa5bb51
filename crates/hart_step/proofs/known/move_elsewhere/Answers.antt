use Rattle.guest_words.proofs.Mapping.{map-next}
use Rattle.hart_step.specs.Table.{elsewhere}
use Rattle.hart_step.proofs.known.move_elsewhere.Goals as goal

pub loop-known-preserved : goal.loop-known-preserved
loop-known-preserved c =
    map-next elsewhere c.deref_mut-known-items.result.now c.loop-known.known-items c.loop-known.known-index _ c.move_to_four.new.known c.loop-known-test.true c.loop-known.auto.known-items
    c.loop-known.invariant c.move_to_four.ensures.value
