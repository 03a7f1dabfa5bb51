use Rattle.std.proofs.Common.{ap, sym, ◌∙◌}
use Rattle.guest_words.specs.Act.{act_of_call, in_state, replied}
use Rattle.hart_step.specs.Sees.{named}
use Rattle.hart_step.proofs.SlotActs.{act_of-at, arrival-at}
use Rattle.hart_step.proofs.engine.Engine.next_act.Goals as goal

pub returns-in-Next : goal.returns-in-Next
returns-in-Next c =
    let s = c.args.self.now.state in
    let is = c.act.ensures.value in
    record { value = ap named (act_of-at s c.args.hart c.act.result is ∙ ap (in_state s c.args.hart) c.in-Next.is) }

pub returns-in-Fault : goal.returns-in-Fault
returns-in-Fault c =
    let s = c.args.self.now.state in
    let is = c.act.ensures.value in
    record { value = ap named (act_of-at s c.args.hart c.act.result is ∙ ap (in_state s c.args.hart) c.in-Fault.is) }

pub returns-in-Arrived : goal.returns-in-Arrived
returns-in-Arrived c =
    let s = c.args.self.now.state in
    let is = c.act.ensures.value in
    record { value = ap named (act_of-at s c.args.hart c.act.result is ∙ ap (in_state s c.args.hart) c.in-Arrived.is) }

pub returns-in-Call : goal.returns-in-Call
unfolding act_of_call
returns-in-Call c =
    let s = c.args.self.now.state in
    record {
      value = ap named (act_of-at s c.args.hart c.act.result c.act.ensures.value ∙ ap (in_state s c.args.hart) c.in-Call.is)
          ∙ ap (λ reply. named (replied s c.args.hart reply c.in-Call.request)) (sym c.reply.ensures.value) ∙ c.name.ensures.value;
    }

pub returns-in-Some : goal.returns-in-Some
returns-in-Some c = record { value = arrival-at c.args.self.now.state c.args.hart c.in-Some.point c.in-Some.ensures.some }
