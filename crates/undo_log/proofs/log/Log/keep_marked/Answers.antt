use Rattle.std.proofs.Common.{◌≡◌, ◌+◌, ◌<◌, ◌++◌, length, take, drop, ap, ◌∙◌, arith}
use Rattle.std.proofs.lemmas.List.Edits.{length-swap}
use Rattle.undo_log.specs.Thin.{marked}
use Rattle.undo_log.proofs.Thinning.{kept_behind, passed_over}
use Rattle.undo_log.proofs.log.Log.keep_marked.Goals as goal
use Rattle.undo_log.proofs.log.Log.keep_marked.Goals.{then-mark, else-mark}

pub loop-i-preserved : goal.loop-i-preserved
loop-i-preserved c =
    let had = c.loop-i.invariant in
    let behind = had.behind in
    let long = had.long in
    let i = c.loop-i.i in
    let marks = c.args.marks.now in
    let at = c.args.from + i in
    let marking = c.loop-i-test.true in
    let each = c.requires.each in
    let within : at < length c.loop-i.self-inside.notes.items = omega (arith, marking, each, long) in
    let next : c.args.from + (i + 1) ≡ at + 1 = omega arith in
    elim c.if-mark.branch [
      | then-mark w ↦
          let capacity = w.swap.ensures.capacity in
          let swapped = w.swap.ensures.by_index in
          let new = w.swap.new.self.items in
          let long_too = ap length w.swap.ensures.items ∙ length-swap c.loop-i.self-inside.notes.items c.loop-i.kept at in
          rw (w.kept-is, w.self-inside-is) record {
            behind = omega (arith, behind);
            long = long_too ∙ long;
            room = capacity ∙ had.room;
            same = ap (λ n. take (c.loop-i.kept + 1) new ++ marked (drop (i + 1) marks) (drop n new)) next
                ∙ kept_behind marks c.loop-i.self-inside.notes.items new c.loop-i.kept i at behind within marking w.if-mark.true long_too swapped
                ∙ had.same;
          }
      | else-mark w ↦
          let items = c.loop-i.self-inside.notes.items in
          rw (w.kept-is, w.self-inside-is) record {
            behind = omega (arith, behind);
            long = long;
            room = had.room;
            same = ap (λ n. take c.loop-i.kept items ++ marked (drop (i + 1) marks) (drop n items)) next
                ∙ ap (λ ns. take c.loop-i.kept items ++ ns) (passed_over marks items i at marking w.if-mark.false within)
                ∙ had.same;
          }
    ]
