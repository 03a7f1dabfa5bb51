-- What is returned is the word of the instruction.
use Rattle.std.proofs.Common.{◌≡◌, ◌+◌, subst}
use Rattle.load_maker.specs.Encoding.{IsWordOf, word_of_inst}
use Rattle.load_maker.proofs.Words.{IsWordOf-word}
use Rattle.load_maker.proofs.encoder.encode.Goals as goal

pub returns-clause-value : goal.returns-clause-value
unfolding word_of_inst
returns-clause-value c = cc

pub returns-clause-read : goal.returns-clause-read
unfolding word_of_inst
returns-clause-read c = λ word is.
    let inst = c.args.inst.now in
    let same : word_of_inst inst ≡ c.form-format.result.1 + c.fields.result = cc in
    subst (IsWordOf inst) same (IsWordOf-word word inst is)
