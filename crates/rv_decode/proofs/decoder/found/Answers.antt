-- The row that was found is read in its format.
use Rattle.std.proofs.Common.{◌∙◌, sym, subst, ap, Some}
use Rattle.guest_words.specs.Instructions.{NamesRegisters}
use Rattle.guest_words.proofs.Registers.{NamesRegisters-read}
use Rattle.rv_decode.proofs.RowLemmas.{instruction_of-some, instruction_of-none}
use Rattle.rv_decode.proofs.decoder.found.Goals as goal

pub returns-in_err-op-clause-value : goal.returns-in_err-op-clause-value
returns-in_err-op-clause-value c =
    c.from_residual.ensures
    ∙ sym (instruction_of-none c.args.word c.args.format c.args.op c.requires (c.in_err-op.was))

pub returns-clause-value : goal.returns-clause-value
returns-clause-value c =
    ap Some c.read.ensures
    ∙ sym (instruction_of-some c.args.word c.args.format c.args.op _ c.requires (c.in_ok-op.was))

pub returns-clause-within : goal.returns-clause-within
returns-clause-within c =
    subst NamesRegisters (sym c.read.ensures) (NamesRegisters-read c.args.format c.in_ok-op.field-0 c.args.word)
