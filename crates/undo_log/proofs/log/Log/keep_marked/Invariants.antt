use Rattle.std.proofs.Common.{◌≡◌, ◌+◌, ◌≤◌, ◌++◌, length, take, drop}
use Rattle.std.specs.Prelude.{vec_capacity}
use Rattle.undo_log.specs.Thin.{marked}
use Rattle.undo_log.proofs.log.Log.keep_marked.Given as goal

-- what is kept, and what of the rest is marked, gives the same in the end
abbrev pub invariant-loop-i : goal.invariant-loop-i
invariant-loop-i l = record {
  behind : l.kept ≤ l.from + l.i;
  long : length l.self-inside.notes.items ≡ length l.fn.self.notes;
  room : vec_capacity l.self-inside.notes ≡ vec_capacity l.initial.self-inside.notes;
  same : take l.kept l.self-inside.notes.items ++ marked (drop l.i l.marks) (drop (l.from + l.i) l.self-inside.notes.items)
      ≡ take l.from l.fn.self.notes ++ marked l.marks (drop l.from l.fn.self.notes);
}
