use Rattle.std.proofs.Common.{◌+◌, ◌∷◌, ◌++◌, drop, ap, ◌∙◌, arith}
use Rattle.undo_log.specs.Thin.{are_uncovered}
use Rattle.undo_log.proofs.Thinning.{mark_next}
use Rattle.undo_log.proofs.thin.mark_uncovered.Goals as goal

pub loop-note-preserved : goal.loop-note-preserved
loop-note-preserved c =
    let had = c.loop-note.invariant in
    let note = c.note-item.result in
    let notes = c.args.notes.now in
    let i = c.loop-note.note-index in
    let says = c.in_ok-covers.ensures.value had.before had.knows in
    let pushed = c.push_reserved.ensures in
    let len = pushed.len in
    let capacity = pushed.capacity in
    let long = had.long in
    let room = had.room in
    record {
      before = note ∷ had.before;
      knows = says.1;
      same = ap (λ marks. marks ++ are_uncovered (note ∷ had.before) (drop (i + 1) notes)) pushed.items
          ∙ mark_next c.loop-note.marks.items had.before notes note i c.in_ok-covers.field-0 c.loop-note-test.true c.note-item.is says.0
          ∙ had.same;
      long = omega (arith, len, long);
      room = omega (arith, capacity, room);
    }
