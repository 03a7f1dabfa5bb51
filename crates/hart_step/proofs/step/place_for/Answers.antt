use Rattle.hart_step.proofs.Placed.{placed_known}
use Rattle.hart_step.proofs.step.place_for.Goals as goal

pub returns-then-table-place-clause-placed : goal.returns-then-table-place-clause-placed
returns-then-table-place-clause-placed c =
    placed_known c.args.memory.now.space c.args.points.now c.args.frames c.args.hart.now c.args.table.now c.place_of-place.result _ c.requires.table c.place_of-place.ensures.within c.place_of-place.ensures.value
    c.if-table-place.true
