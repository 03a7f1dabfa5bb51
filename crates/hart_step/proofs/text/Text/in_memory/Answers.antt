use Rattle.hart_step.proofs.Texts.{text_is}
use Rattle.hart_step.proofs.text.Text.in_memory.Goals as goal

pub invariant_of-result : goal.invariant_of-result
invariant_of-result c = (
  c.args.memory.now.space,
  text_is c.in_ok-words.words.items c.args.memory.now.space c.in_ok-words.ensures.tells c.in_ok-words.ensures.has,
)

pub returns : goal.returns
returns c = record { ok = text_is c.in_ok-words.words.items c.args.memory.now.space c.in_ok-words.ensures.tells c.in_ok-words.ensures.has }
