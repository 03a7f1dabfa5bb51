use Rattle.std.proofs.Common.{ap, sym, ◌∙◌, arith}
use Rattle.guest_words.specs.Act.{act_of_call, in_state}
use Rattle.run_history.specs.After.{moved}
use Rattle.hart_step.specs.Sees.{named}
use Rattle.hart_step.proofs.SlotActs.{act_of-at, if_ok, next-at, notes-at}
use Rattle.hart_step.proofs.engine.Engine.advance.Goals as goal

pub returns-in_default-clause-value : goal.returns-in_default-clause-value
returns-in_default-clause-value c =
    ap named (act_of-at c.args.self.now.state c.args.hart c.act-act.result c.act-act.ensures.value) ∙ c.make.ensures.value

pub returns-in_default-clause-after : goal.returns-in_default-clause-after
returns-in_default-clause-after c = λ ordinary. c.make.ensures.after ∙ next-at c.args.self.now.state c.args.hart c.act-act.result c.act-act.ensures.value

pub make-requires-clause-room : goal.make-requires-clause-room
make-requires-clause-room c = λ noted.
    let same = notes-at c.args.self.now.state c.args.hart c.act-act.result c.act-act.ensures.value in
    let room = c.requires.room noted in
    omega (arith, same, room)

pub returns-in_default-clause-few : goal.returns-in_default-clause-few
returns-in_default-clause-few c =
    let same = notes-at c.args.self.now.state c.args.hart c.act-act.result c.act-act.ensures.value in
    let few = c.make.ensures.few in
    omega (arith, same, few)

pub returns-in_default-clause-room : goal.returns-in_default-clause-room
returns-in_default-clause-room c =
    let same = notes-at c.args.self.now.state c.args.hart c.act-act.result c.act-act.ensures.value in
    let room = c.make.ensures.room in
    omega (arith, same, room)

pub returns-in-Call-clause-value : goal.returns-in-Call-clause-value
unfolding act_of_call
returns-in-Call-clause-value c =
    let s = c.args.self.now.state in
    if_ok c.serve_any.result _ _
    (λ is told. ap named (act_of-at s c.args.hart c.act-act.result c.act-act.ensures.value ∙ ap (in_state s c.args.hart) c.in-Call.is) ∙ told) c.serve_any.ensures.value

pub returns-in-Call-clause-after : goal.returns-in-Call-clause-after
unfolding act_of_call
returns-in-Call-clause-after c =
    let s = c.args.self.now.state in
    if_ok c.serve_any.result _ _
    (λ is told ordinary. told ∙ sym (ap (λ a. moved s (in_state s c.args.hart a)) c.in-Call.is) ∙ next-at s c.args.hart c.act-act.result c.act-act.ensures.value) c.serve_any.ensures.after
