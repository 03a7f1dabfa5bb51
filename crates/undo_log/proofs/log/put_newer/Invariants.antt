use Rattle.std.proofs.Common.{◌≡◌, ◌≤◌, drop, take, vec_capacity}
use Rattle.undo_log.specs.Undo.{undone, gone_in}
use Rattle.undo_log.proofs.log.put_newer.Given as goal

-- what is left to put back gives the same in the end, and there is room for its pages
abbrev pub invariant-loop-notes : goal.invariant-loop-notes
invariant-loop-notes g l = record {
  same : undone g.U.Restore.put_back (drop l.left l.notes.items) l.into ≡ undone g.U.Restore.put_back (drop l.left l.fn.notes.items) l.fn.into;
  older : take l.left l.notes.items ≡ take l.left l.fn.notes.items;
  capacity : vec_capacity l.notes ≡ vec_capacity l.fn.notes;
  room : gone_in (drop l.left l.notes.items) ≤ g.U.Restore.spare l.into;
}

abbrev pub decreases-loop-notes : goal.decreases-loop-notes
decreases-loop-notes g l = goal.left-loop-notes g l
