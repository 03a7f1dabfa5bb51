use Rattle.std.proofs.Common.{Option, ℕ, ◌∙◌, ap, subst}
use Rattle.guest_words.specs.Calls.{reply_of}
use Rattle.guest_words.specs.declared.call.Facts.{Facts}
use Rattle.hart_step.specs.SlotActs.{HasRoom}
use Rattle.hart_step.proofs.Replies.{fits_in, place-facts, reply_of-for}
use Rattle.hart_step.proofs.engine.Engine.reply.Goals as goal

pub returns : goal.returns
returns c =
    let s = c.args.self.now.state in
    let call = c.args.request.now in
    let value = c.answer.ensures.value ∙ ap (reply_of call) c.facts.ensures.value ∙ reply_of-for s c.args.hart call in
    record {
      value = value;
      room = fits_in s c.args.hart call c.answer.result value (subst (λ (o : Option ℕ). HasRoom s call o) (ap (λ (f : Facts). f.place) c.facts.ensures.value ∙ place-facts s c.args.hart call) c.facts.ensures.room);
    }
