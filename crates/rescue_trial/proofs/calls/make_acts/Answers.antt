use Rattle.std.proofs.Common.{◌≡◌, ◌-◌, ◌<◌, true, sym, ap, ◌∙◌, subst, arith}
use Rattle.guest_words.specs.State.{State}
use Rattle.run_history.specs.After.{next, ran}
use Rattle.run_history.specs.Legal.{can_run}
use Rattle.run_history.proofs.RunSteps.{ran-none}
use Rattle.rescue_trial.specs.Begins.{begins}
use Rattle.rescue_trial.specs.Path.{calls_ran}
use Rattle.rescue_trial.proofs.Acts.{calls_ran-first, calls_ran-none, can_run-first, ran-first}
use Rattle.rescue_trial.proofs.calls.make_acts.Goals as goal

pub make_act-requires : goal.make_act-requires
make_act-requires c =
    let some : 0 < c.loop-left.left = omega (arith, c.loop-left-test.true) in
    record { goes = (can_run-first c.loop-left.plain c.args.actor c.loop-left.left some c.loop-left.invariant.0).0 }

pub loop-left-preserved : goal.loop-left-preserved
loop-left-preserved c =
    let s = c.loop-left.plain in
    let g = c.args.actor in
    let h = c.args.hart in
    let n = c.loop-left.left in
    let f = begins c.args.functions.now in
    let some : 0 < n = omega (arith, c.loop-left-test.true) in
    let so_far = c.loop-left.invariant in
    let made = c.in_ok-make_act.ensures in (
      subst (λ (t : State). can_run t g (n - 1) ≡ true) (sym made.after) (can_run-first s g n some so_far.0).1,
      ap (λ (t : State). ran t g (n - 1)) made.after ∙ sym (ran-first s g n some) ∙ so_far.1,
      ap (λ (t : State). calls_ran f h g (n - 1) t c.make_act.new.calls.items) made.after
          ∙ ap (calls_ran f h g (n - 1) (next s g)) made.calls
          ∙ sym (calls_ran-first f h g n s c.loop-left.calls.items some)
          ∙ so_far.2,
    )

pub returns-clause-after : goal.returns-clause-after
returns-clause-after c =
    let none : c.loop-left.left ≡ 0 = omega (arith, c.loop-left-test.false) in
    sym (ran-none c.loop-left.plain c.args.actor) ∙ ap (ran c.loop-left.plain c.args.actor) (sym none) ∙ c.loop-left.invariant.1

pub returns-clause-calls : goal.returns-clause-calls
returns-clause-calls c =
    let none : c.loop-left.left ≡ 0 = omega (arith, c.loop-left-test.false) in
    let f = begins c.args.functions.now in
    sym (calls_ran-none f c.args.hart c.args.actor c.loop-left.plain c.loop-left.calls.items)
    ∙ ap (λ k. calls_ran f c.args.hart c.args.actor k c.loop-left.plain c.loop-left.calls.items) (sym none)
    ∙ c.loop-left.invariant.2
