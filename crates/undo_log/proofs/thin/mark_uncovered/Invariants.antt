use Rattle.std.proofs.Common.{◌≡◌, ◌≤◌, [], ◌++◌, List, length, drop}
use Rattle.std.specs.Prelude.{vec_len, vec_capacity}
use Rattle.undo_log.specs.declared.note.Note.{Note}
use Rattle.undo_log.specs.Seen.{Knows}
use Rattle.undo_log.specs.Thin.{are_uncovered}
use Rattle.undo_log.proofs.thin.mark_uncovered.Given as goal

-- the marks so far, and those of the rest behind the notes that were seen, are all marks
abbrev pub invariant-loop-note : goal.invariant-loop-note
invariant-loop-note l = record {
  before : List Note;
  knows : Knows l.seen before;
  same : l.marks.items ++ are_uncovered before (drop l.note-index l.notes) ≡ are_uncovered [] l.notes;
  long : vec_len l.marks ≡ l.note-index;
  room : length l.notes ≤ vec_capacity l.marks;
}
