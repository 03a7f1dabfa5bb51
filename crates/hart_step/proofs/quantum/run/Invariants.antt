use Rattle.std.specs.Prelude.{◌≡◌, ◌+◌, ◌≤◌, true, length}
use Rattle.guest_memory.specs.Noting.{Notes}
use Rattle.hart_step.specs.InARow.{after_acts, all_go, lone, stays_open}
use Rattle.hart_step.specs.InPlace.{HasZero}
use Rattle.hart_step.specs.Table.{IsTable}
use Rattle.hart_step.proofs.quantum.run.Given as goal

abbrev pub invariant-loop-count : goal.invariant-loop-count
invariant-loop-count l =
    IsTable l.memory.space l.points l.table
    × HasZero l.hart
    × (all_go l.points l.frames l.count (lone l.fn.hart l.fn.memory) ≡ true)
    × (lone l.hart l.memory ≡ after_acts l.points l.frames l.count (lone l.fn.hart l.fn.memory))
    × (stays_open l.points l.frames l.top l.count (lone l.fn.hart l.fn.memory) ≡ true)
    × Notes l.noted l.fn.log.notes l.log.notes l.fn.memory l.memory
    × (l.fn.log.spare ≤ l.log.spare + l.count)
    × (length l.log.notes ≤ length l.fn.log.notes + l.count)
