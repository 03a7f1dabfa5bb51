use Rattle.std.proofs.Common.{ap, sym, ◌∙◌, subst}
use Rattle.guest_words.specs.Act.{replied}
use Rattle.guest_words.specs.declared.call.Reply.{Reply}
use Rattle.hart_step.specs.Sees.{named}
use Rattle.hart_step.proofs.Replies.{brings, ordinary_reply, port_reaches, Brings}
use Rattle.hart_step.proofs.engine.Engine.name.Goals as goal

pub asked_of-requires : goal.asked_of-requires
asked_of-requires c =
    let s = c.args.self.now.state in
    let call = c.args.request.now in
    record { port = port_reaches s c.args.hart call c.in-Port.asked (subst (Brings s c.args.hart call) (sym c.requires.reply ∙ c.in-Port.is) (brings s c.args.hart call)) }

pub returns-in-Port : goal.returns-in-Port
returns-in-Port c =
    let s = c.args.self.now.state in
    record { value = ap (λ (r : Reply). named (replied s c.args.hart r c.args.request.now)) c.in-Port.is ∙ c.asked_of.ensures.value s c.args.hart }

pub returns-in_default : goal.returns-in_default
returns-in_default c =
    let s = c.args.self.now.state in
    let call = c.args.request.now in
    let has = subst (Brings s c.args.hart call) (sym c.requires.reply) (brings s c.args.hart call) in
    record { value = ordinary_reply s c.args.hart call c.args.reply has c.in_default.not-Port c.in_default.not-End c.in_default.not-Blocked }
