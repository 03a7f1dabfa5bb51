use Rattle.std.proofs.Common.{◌+◌, ◌-◌, true, refl, length-set, sym, ap, ◌∙◌, length, arith}
use Rattle.guest_words.specs.declared.hart.Waiter.{Waiter}
use Rattle.futex_table.proofs.Flags.{marks-none, marks-wakes, marks-passes, marks-all, count-wakes, count-all, coming-passes}
use Rattle.futex_table.proofs.waking.woken_of.Goals as goal
use Rattle.futex_table.proofs.waking.woken_of.Goals.{then-is_woken, else-is_woken}

pub loop-waiter-init : goal.loop-waiter-init
loop-waiter-init c = record {
  size = refl;
  fewer = omega arith;
  marks = λ slot. marks-none 64 slot _;
  count = omega arith;
}

pub loop-waiter-preserved : goal.loop-waiter-preserved
loop-waiter-preserved c =
    elim c.if-is_woken.branch [
      | then-is_woken w ↦
          let nobody : Waiter = record { slot = 0; place = 0 } in
          let yes = c.is_woken.ensures.yes w.if-is_woken.true in
          rw (w.slots-is, w.left-is, w.from.ensures) (record {
            size = length-set c.loop-waiter.slots _ true ∙ c.loop-waiter.invariant.size;
            fewer = omega (arith, c.loop-waiter.invariant.fewer);
            marks = λ slot. marks-wakes c.loop-waiter.slots slot c.args.place c.loop-waiter.left c.loop-waiter.waiter-index c.args.waiters.now _ _ c.loop-waiter-test.true (omega (arith, c.requires.below c.loop-waiter.waiter-index nobody c.loop-waiter-test.true, c.loop-waiter.invariant.size)) yes.0 yes.1 (c.loop-waiter.invariant.marks slot);
            count = count-wakes c.args.place c.loop-waiter.left c.args.most c.loop-waiter.waiter-index _ c.args.waiters.now _ c.loop-waiter-test.true yes.0 yes.1 c.loop-waiter.invariant.fewer c.loop-waiter.invariant.count;
          })
      | else-is_woken w ↦ rw (w.slots-is, w.left-is) (record {
        size = c.loop-waiter.invariant.size;
        fewer = c.loop-waiter.invariant.fewer;
        marks = λ slot. marks-passes c.loop-waiter.slots slot c.args.place c.loop-waiter.left c.loop-waiter.waiter-index c.args.waiters.now _ _ c.loop-waiter-test.true (c.is_woken.ensures.no w.if-is_woken.false) (c.loop-waiter.invariant.marks slot);
        count =
            ap (λ xs. (c.args.most - c.loop-waiter.left) + length xs)
            (sym (coming-passes c.args.place c.loop-waiter.left c.loop-waiter.waiter-index c.args.waiters.now _ c.loop-waiter-test.true (c.is_woken.ensures.no w.if-is_woken.false)))
            ∙ c.loop-waiter.invariant.count;
      })
    ]

pub returns : goal.returns
returns c = record {
  slots = λ slot. marks-all c.loop-waiter.slots slot c.args.place c.loop-waiter.left c.args.waiters.now c.loop-waiter.waiter-index _ c.loop-waiter-test.false (c.loop-waiter.invariant.marks slot);
  count = count-all c.args.place c.loop-waiter.left c.args.most c.loop-waiter.waiter-index _ c.args.waiters.now c.loop-waiter-test.false c.loop-waiter.invariant.count;
}
