use Rattle.std.proofs.Common.{sym, ◌∙◌, length-set, arith}
use Rattle.futex_table.proofs.InPlace.{left_of-wakes, left_of-keeps, left_of-all}
use Rattle.futex_table.proofs.waking.keep_unwoken.Goals as goal
use Rattle.futex_table.proofs.waking.keep_unwoken.Goals.{then-is_woken, else-is_woken}

pub loop-index-preserved : goal.loop-index-preserved
loop-index-preserved c =
    elim c.if-is_woken.branch [
      | then-is_woken w ↦
          rw (w.waiters-is, w.kept-is, w.left-is) (record {
            size = c.loop-index.invariant.size;
            behind = omega (arith, c.loop-index.invariant.behind);
            value =
                left_of-wakes c.args.place c.loop-index.left c.loop-index.kept c.args.count c.loop-index.index c.loop-index.waiters _ c.loop-index-test.true
                (omega (arith, c.requires.within, c.loop-index.invariant.size)) (c.is_woken.ensures.yes w.if-is_woken.true).0 (c.is_woken.ensures.yes w.if-is_woken.true).1
                ∙ c.loop-index.invariant.value;
          })
      | else-is_woken w ↦
          rw (w.waiters-is, w.kept-is, w.left-is) (record {
            size = length-set c.loop-index.waiters c.loop-index.kept _ ∙ c.loop-index.invariant.size;
            behind = omega (arith, c.loop-index.invariant.behind);
            value =
                left_of-keeps c.args.place c.loop-index.left c.loop-index.kept c.args.count c.loop-index.index c.loop-index.waiters _ c.loop-index.invariant.behind c.loop-index-test.true
                (omega (arith, c.requires.within, c.loop-index.invariant.size)) (c.is_woken.ensures.no w.if-is_woken.false)
                ∙ c.loop-index.invariant.value;
          })
    ]

pub returns-clause-value : goal.returns-clause-value
returns-clause-value c =
    sym (left_of-all c.args.place c.loop-index.left c.loop-index.kept c.args.count c.loop-index.index c.loop-index.waiters c.loop-index-test.false)
    ∙ c.loop-index.invariant.value
