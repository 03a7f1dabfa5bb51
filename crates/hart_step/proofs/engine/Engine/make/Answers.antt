use Rattle.std.proofs.Common.{Some, ap, sym, ◌∙◌}
use Rattle.guest_words.specs.Act.{act_of_call, in_state}
use Rattle.run_history.specs.After.{moved}
use Rattle.hart_step.specs.Sees.{named}
use Rattle.hart_step.proofs.SlotActs.{may-at}
use Rattle.hart_step.proofs.engine.Engine.make.Goals as goal

pub carry_out-requires-clause-may : goal.carry_out-requires-clause-may
carry_out-requires-clause-may c =
    may-at c.args.self.now.state c.args.hart c.in-Next.next c.in-Next.write (c.requires.act ∙ ap Some c.in-Next.is)

pub returns-in-Call-clause-value : goal.returns-in-Call-clause-value
unfolding act_of_call
returns-in-Call-clause-value c =
    ap (λ a. named (in_state c.args.self.now.state c.args.hart a)) c.in-Call.is ∙ c.serve.ensures.value

pub returns-in-Call-clause-after : goal.returns-in-Call-clause-after
unfolding act_of_call
returns-in-Call-clause-after c =
    let s = c.args.self.now.state in
    c.serve.ensures.after ∙ sym (ap (λ a. moved s (in_state s c.args.hart a)) c.in-Call.is)
