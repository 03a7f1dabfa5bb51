-- Each row that was found by some fields is the row of the word's own fields.
use Rattle.std.proofs.Common.{refl, sym, ◌∙◌, Some, arith}
use Rattle.guest_words.specs.declared.format.Format.TheVariants.{Upper, Jump, Immediate}
use Rattle.guest_words.specs.declared.inst.Op.TheVariants.{Lui, Auipc, Jal, Addiw}
use Rattle.rv_decode.specs.Rows.{FitsRow, fields_of, row_at}
use Rattle.rv_decode.proofs.RowLemmas.{FitsRow-word, instruction_of-other}
use Rattle.rv_decode.proofs.decoder.decode.Goals as goal

pub found-requires : goal.found-requires
unfolding FitsRow row_at
found-requires c =
    FitsRow-word (record (fields_of c.args.word) { opcode = 0x37 }) c.args.word Upper (Some Lui)
    (sym c.in-55.is ∙ c.bits-opcode.ensures) refl refl refl refl refl refl refl

pub found-requires-in-23 : goal.found-requires-in-23
unfolding FitsRow row_at
found-requires-in-23 c =
    FitsRow-word (record (fields_of c.args.word) { opcode = 0x17 }) c.args.word Upper (Some Auipc)
    (sym c.in-23.is ∙ c.bits-opcode.ensures) refl refl refl refl refl refl refl

pub found-requires-in-111 : goal.found-requires-in-111
unfolding FitsRow row_at
found-requires-in-111 c =
    FitsRow-word (record (fields_of c.args.word) { opcode = 0x6f }) c.args.word Jump (Some Jal)
    (sym c.in-111.is ∙ c.bits-opcode.ensures) refl refl refl refl refl refl refl

pub found-requires-in-103 : goal.found-requires-in-103
found-requires-in-103 c = FitsRow-word _ c.args.word _ _
    (sym c.in-103.is ∙ c.bits-opcode.ensures) c.bits-f3.ensures refl refl refl refl refl
    (c.jalr.ensures (fields_of c.args.word))

pub found-requires-in-99 : goal.found-requires-in-99
found-requires-in-99 c = FitsRow-word _ c.args.word _ _
    (sym c.in-99.is ∙ c.bits-opcode.ensures) c.bits-f3.ensures refl refl refl refl refl
    (c.branch-f3.ensures (fields_of c.args.word))

pub found-requires-in-3 : goal.found-requires-in-3
found-requires-in-3 c = FitsRow-word _ c.args.word _ _
    (sym c.in-3.is ∙ c.bits-opcode.ensures) c.bits-f3.ensures refl refl refl refl refl
    (c.load.ensures (fields_of c.args.word))

pub found-requires-in-35 : goal.found-requires-in-35
found-requires-in-35 c = FitsRow-word _ c.args.word _ _
    (sym c.in-35.is ∙ c.bits-opcode.ensures) c.bits-f3.ensures refl refl refl refl refl
    (c.store.ensures (fields_of c.args.word))

pub found-requires-in-1 : goal.found-requires-in-1
found-requires-in-1 c = FitsRow-word _ c.args.word _ _
    (sym c.in-19.is ∙ c.bits-opcode.ensures) c.bits-f3.ensures refl c.bits-f6.ensures refl refl refl
    (c.shift.ensures (fields_of c.args.word))

pub found-requires-in_default-f3 : goal.found-requires-in_default-f3
found-requires-in_default-f3 c = FitsRow-word _ c.args.word _ _
    (sym c.in-19.is ∙ c.bits-opcode.ensures) c.bits-f3.ensures refl refl refl refl refl
    (c.immediate.ensures (fields_of c.args.word))

pub found-requires-in-0 : goal.found-requires-in-0
unfolding FitsRow row_at
found-requires-in-0 c =
    FitsRow-word (record (fields_of c.args.word) { opcode = 0x1b; f3 = 0 }) c.args.word Immediate (Some Addiw)
    (sym c.in-27.is ∙ c.bits-opcode.ensures) (sym c.in-0.is ∙ c.bits-f3.ensures) refl refl refl refl refl refl

pub found-requires-in_default-f3-2 : goal.found-requires-in_default-f3-2
found-requires-in_default-f3-2 c = FitsRow-word _ c.args.word _ _
    (sym c.in-27.is ∙ c.bits-opcode.ensures) c.bits-f3.ensures refl refl c.bits-f7.ensures refl refl
    (c.word_shift.ensures (fields_of c.args.word))

pub found-requires-in-51 : goal.found-requires-in-51
found-requires-in-51 c = FitsRow-word _ c.args.word _ _
    (sym c.in-51.is ∙ c.bits-opcode.ensures) c.bits-f3.ensures refl refl c.bits-f7.ensures refl refl
    (c.register.ensures (fields_of c.args.word))

pub found-requires-in-59 : goal.found-requires-in-59
found-requires-in-59 c = FitsRow-word _ c.args.word _ _
    (sym c.in-59.is ∙ c.bits-opcode.ensures) c.bits-f3.ensures refl refl c.bits-f7.ensures refl refl
    (c.word_register.ensures (fields_of c.args.word))

pub found-requires-in-15 : goal.found-requires-in-15
found-requires-in-15 c = FitsRow-word _ c.args.word _ _
    (sym c.in-15.is ∙ c.bits-opcode.ensures) c.bits-f3.ensures refl refl refl refl refl
    (c.fence.ensures (fields_of c.args.word))

pub found-requires-in-115 : goal.found-requires-in-115
found-requires-in-115 c = FitsRow-word _ c.args.word _ _
    (sym c.in-115.is ∙ c.bits-opcode.ensures) refl refl refl refl refl refl
    (c.system.ensures (fields_of c.args.word))

pub found-requires-in-47 : goal.found-requires-in-47
found-requires-in-47 c = FitsRow-word _ c.args.word _ _
    (sym c.in-47.is ∙ c.bits-opcode.ensures) c.bits-f3.ensures c.bits-f5.ensures refl refl c.bits-rs2.ensures refl
    (c.atomic.ensures (fields_of c.args.word))

pub returns-in_default-clause-value : goal.returns-in_default-clause-value
returns-in_default-clause-value c = sym (instruction_of-other c.args.word
    (λ e. omega arith)
    (λ e. omega arith)
    (λ e. omega arith)
    (λ e. omega arith)
    (λ e. omega arith)
    (λ e. omega arith)
    (λ e. omega arith)
    (λ e. omega arith)
    (λ e. omega arith)
    (λ e. omega arith)
    (λ e. omega arith)
    (λ e. omega arith)
    (λ e. omega arith)
    (λ e. omega arith))
