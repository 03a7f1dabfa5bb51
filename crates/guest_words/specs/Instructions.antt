-- The instructions of RV64IMA: their formats and their table (ISA manual, unprivileged, "Base
-- Instruction Formats", "Immediate Encoding Variants" and "RV32/64G Instruction Set Listings").
use Rattle.std.specs.Prelude.{ℕ, ◌+◌, ◌-◌, ◌*◌, ◌/◌, ◌%◌, ◌^◌, ◌<◌, ◌==◌, Bool, ℤ, pos, List, [], ◌∷◌, Option, find}
use Rattle.std.specs.Option.{option_map}
use Rattle.std.specs.List.{list_all}
use Rattle.guest_words.specs.Word.{sign_extended}
use Rattle.guest_words.specs.declared.format.Format.{Format}
use Rattle.guest_words.specs.declared.format.Format.TheVariants.{Upper, Jump, Immediate, Branch, Store, Shift, WordShift, Register, Bare}
use Rattle.guest_words.specs.declared.inst.Inst.{Inst}
use Rattle.guest_words.specs.declared.inst.Op.{Op}
use Rattle.guest_words.specs.declared.inst.Op.TheVariants.{Lui, Auipc, Jal, Jalr, Beq, Bne, Blt, Bge, Bltu, Bgeu, Lb, Lh, Lw, Ld, Lbu, Lhu, Lwu, Sb, Sh, Sw, Sd, Addi, Slti, Sltiu, Xori, Ori, Andi, Slli, Srli, Srai, Addiw, Slliw, Srliw, Sraiw, Add, Sll, Slt, Sltu, Xor, Srl, Or, And, Sub, Sra, Mul, Mulh, Mulhsu, Mulhu, Div, Divu, Rem, Remu, Addw, Sllw, Srlw, Subw, Sraw, Mulw, Divw, Divuw, Remw, Remuw, Fence, Ecall, Ebreak, LrW, ScW, AmoswapW, AmoaddW, AmoxorW, AmoandW, AmoorW, AmominW, AmomaxW, AmominuW, AmomaxuW, LrD, ScD, AmoswapD, AmoaddD, AmoxorD, AmoandD, AmoorD, AmominD, AmomaxD, AmominuD, AmomaxuD}

-- bits high to low of a word
abbrev pub bits : ℕ → ℕ → ℕ → ℕ
bits high low word = word / 2 ^ low % 2 ^ (high + 1 - low)

-- ---- the formats

-- the number that the immediate's bits make, sign-extended from the highest but for shifts
abbrev pub immediate_of : Format → ℕ → ℤ
immediate_of Immediate w = sign_extended 12 (bits 31 20 w)
immediate_of Store w = sign_extended 12 (bits 31 25 w * 2 ^ 5 + bits 11 7 w)
immediate_of Branch w = sign_extended 13
    (bits 31 31 w * 2 ^ 12 + bits 7 7 w * 2 ^ 11 + bits 30 25 w * 2 ^ 5 + bits 11 8 w * 2)
immediate_of Upper w = sign_extended 32 (bits 31 12 w * 2 ^ 12)
immediate_of Jump w = sign_extended 21
    (bits 31 31 w * 2 ^ 20 + bits 19 12 w * 2 ^ 12 + bits 20 20 w * 2 ^ 11 + bits 30 21 w * 2)
immediate_of Shift w = pos (bits 25 20 w)
immediate_of WordShift w = pos (bits 24 20 w)
immediate_of Register w = pos 0
immediate_of Bare w = pos 0

-- the registers that a format has, and 0 where it has none
abbrev pub rd_of : Format → ℕ → ℕ
rd_of Store w = 0
rd_of Branch w = 0
rd_of Bare w = 0
rd_of _ w = bits 11 7 w

abbrev pub rs1_of : Format → ℕ → ℕ
rs1_of Upper w = 0
rs1_of Jump w = 0
rs1_of Bare w = 0
rs1_of _ w = bits 19 15 w

abbrev pub rs2_of : Format → ℕ → ℕ
rs2_of Register w = bits 24 20 w
rs2_of Store w = bits 24 20 w
rs2_of Branch w = bits 24 20 w
rs2_of _ w = 0

-- the instruction that a word is in a format
abbrev pub read : Format → Op → ℕ → Inst
read format op w = record {
  op = op;
  rd = rd_of format w;
  rs1 = rs1_of format w;
  rs2 = rs2_of format w;
  imm = immediate_of format w;
}

-- ---- the rows

-- a field of a word, and the value that a row wants there
pub data Named : Type 0 where
  opcode : ℕ → Named
  f3 : ℕ → Named
  f5 : ℕ → Named
  f6 : ℕ → Named
  f7 : ℕ → Named
  rs2 : ℕ → Named
  whole : ℕ → Named

-- the word has that value in that field
abbrev pub has : ℕ → Named → Bool
has w (opcode v) = bits 6 0 w == v
has w (f3 v) = bits 14 12 w == v
has w (f5 v) = bits 31 27 w == v
has w (f6 v) = bits 31 26 w == v
has w (f7 v) = bits 31 25 w == v
has w (rs2 v) = bits 24 20 w == v
has w (whole v) = w == v

-- a row: an instruction, its format, and the fields that it names
pub record Row : Type 0 where
  pub op : Op
  pub format : Format
  pub named : List Named

abbrev pub row : Op → Format → List Named → Row
row op format named = record { op = op; format = format; named = named }

-- a word fits a row where it has all that the row names
abbrev pub fits : ℕ → Row → Bool
fits w r = list_all (has w) r.named

-- the table, one line a row
abbrev pub table : List Row
table =
    row Lui Upper (opcode 0x37 ∷ [])
    ∷ row Auipc Upper (opcode 0x17 ∷ [])
    ∷ row Jal Jump (opcode 0x6f ∷ [])
    ∷ row Jalr Immediate (opcode 0x67 ∷ f3 0 ∷ [])
    ∷ row Beq Branch (opcode 0x63 ∷ f3 0 ∷ [])
    ∷ row Bne Branch (opcode 0x63 ∷ f3 1 ∷ [])
    ∷ row Blt Branch (opcode 0x63 ∷ f3 4 ∷ [])
    ∷ row Bge Branch (opcode 0x63 ∷ f3 5 ∷ [])
    ∷ row Bltu Branch (opcode 0x63 ∷ f3 6 ∷ [])
    ∷ row Bgeu Branch (opcode 0x63 ∷ f3 7 ∷ [])
    ∷ row Lb Immediate (opcode 0x03 ∷ f3 0 ∷ [])
    ∷ row Lh Immediate (opcode 0x03 ∷ f3 1 ∷ [])
    ∷ row Lw Immediate (opcode 0x03 ∷ f3 2 ∷ [])
    ∷ row Ld Immediate (opcode 0x03 ∷ f3 3 ∷ [])
    ∷ row Lbu Immediate (opcode 0x03 ∷ f3 4 ∷ [])
    ∷ row Lhu Immediate (opcode 0x03 ∷ f3 5 ∷ [])
    ∷ row Lwu Immediate (opcode 0x03 ∷ f3 6 ∷ [])
    ∷ row Sb Store (opcode 0x23 ∷ f3 0 ∷ [])
    ∷ row Sh Store (opcode 0x23 ∷ f3 1 ∷ [])
    ∷ row Sw Store (opcode 0x23 ∷ f3 2 ∷ [])
    ∷ row Sd Store (opcode 0x23 ∷ f3 3 ∷ [])
    ∷ row Addi Immediate (opcode 0x13 ∷ f3 0 ∷ [])
    ∷ row Slti Immediate (opcode 0x13 ∷ f3 2 ∷ [])
    ∷ row Sltiu Immediate (opcode 0x13 ∷ f3 3 ∷ [])
    ∷ row Xori Immediate (opcode 0x13 ∷ f3 4 ∷ [])
    ∷ row Ori Immediate (opcode 0x13 ∷ f3 6 ∷ [])
    ∷ row Andi Immediate (opcode 0x13 ∷ f3 7 ∷ [])
    ∷ row Slli Shift (opcode 0x13 ∷ f3 1 ∷ f6 0x00 ∷ [])
    ∷ row Srli Shift (opcode 0x13 ∷ f3 5 ∷ f6 0x00 ∷ [])
    ∷ row Srai Shift (opcode 0x13 ∷ f3 5 ∷ f6 0x10 ∷ [])
    ∷ row Addiw Immediate (opcode 0x1b ∷ f3 0 ∷ [])
    ∷ row Slliw WordShift (opcode 0x1b ∷ f3 1 ∷ f7 0x00 ∷ [])
    ∷ row Srliw WordShift (opcode 0x1b ∷ f3 5 ∷ f7 0x00 ∷ [])
    ∷ row Sraiw WordShift (opcode 0x1b ∷ f3 5 ∷ f7 0x20 ∷ [])
    ∷ row Add Register (opcode 0x33 ∷ f3 0 ∷ f7 0x00 ∷ [])
    ∷ row Sll Register (opcode 0x33 ∷ f3 1 ∷ f7 0x00 ∷ [])
    ∷ row Slt Register (opcode 0x33 ∷ f3 2 ∷ f7 0x00 ∷ [])
    ∷ row Sltu Register (opcode 0x33 ∷ f3 3 ∷ f7 0x00 ∷ [])
    ∷ row Xor Register (opcode 0x33 ∷ f3 4 ∷ f7 0x00 ∷ [])
    ∷ row Srl Register (opcode 0x33 ∷ f3 5 ∷ f7 0x00 ∷ [])
    ∷ row Or Register (opcode 0x33 ∷ f3 6 ∷ f7 0x00 ∷ [])
    ∷ row And Register (opcode 0x33 ∷ f3 7 ∷ f7 0x00 ∷ [])
    ∷ row Sub Register (opcode 0x33 ∷ f3 0 ∷ f7 0x20 ∷ [])
    ∷ row Sra Register (opcode 0x33 ∷ f3 5 ∷ f7 0x20 ∷ [])
    ∷ row Mul Register (opcode 0x33 ∷ f3 0 ∷ f7 0x01 ∷ [])
    ∷ row Mulh Register (opcode 0x33 ∷ f3 1 ∷ f7 0x01 ∷ [])
    ∷ row Mulhsu Register (opcode 0x33 ∷ f3 2 ∷ f7 0x01 ∷ [])
    ∷ row Mulhu Register (opcode 0x33 ∷ f3 3 ∷ f7 0x01 ∷ [])
    ∷ row Div Register (opcode 0x33 ∷ f3 4 ∷ f7 0x01 ∷ [])
    ∷ row Divu Register (opcode 0x33 ∷ f3 5 ∷ f7 0x01 ∷ [])
    ∷ row Rem Register (opcode 0x33 ∷ f3 6 ∷ f7 0x01 ∷ [])
    ∷ row Remu Register (opcode 0x33 ∷ f3 7 ∷ f7 0x01 ∷ [])
    ∷ row Addw Register (opcode 0x3b ∷ f3 0 ∷ f7 0x00 ∷ [])
    ∷ row Sllw Register (opcode 0x3b ∷ f3 1 ∷ f7 0x00 ∷ [])
    ∷ row Srlw Register (opcode 0x3b ∷ f3 5 ∷ f7 0x00 ∷ [])
    ∷ row Subw Register (opcode 0x3b ∷ f3 0 ∷ f7 0x20 ∷ [])
    ∷ row Sraw Register (opcode 0x3b ∷ f3 5 ∷ f7 0x20 ∷ [])
    ∷ row Mulw Register (opcode 0x3b ∷ f3 0 ∷ f7 0x01 ∷ [])
    ∷ row Divw Register (opcode 0x3b ∷ f3 4 ∷ f7 0x01 ∷ [])
    ∷ row Divuw Register (opcode 0x3b ∷ f3 5 ∷ f7 0x01 ∷ [])
    ∷ row Remw Register (opcode 0x3b ∷ f3 6 ∷ f7 0x01 ∷ [])
    ∷ row Remuw Register (opcode 0x3b ∷ f3 7 ∷ f7 0x01 ∷ [])
    ∷ row Fence Bare (opcode 0x0f ∷ f3 0 ∷ [])
    ∷ row Ecall Bare (opcode 0x73 ∷ whole 0x00000073 ∷ [])
    ∷ row Ebreak Bare (opcode 0x73 ∷ whole 0x00100073 ∷ [])
    ∷ row LrW Register (opcode 0x2f ∷ f3 2 ∷ f5 0x02 ∷ rs2 0 ∷ [])
    ∷ row ScW Register (opcode 0x2f ∷ f3 2 ∷ f5 0x03 ∷ [])
    ∷ row AmoswapW Register (opcode 0x2f ∷ f3 2 ∷ f5 0x01 ∷ [])
    ∷ row AmoaddW Register (opcode 0x2f ∷ f3 2 ∷ f5 0x00 ∷ [])
    ∷ row AmoxorW Register (opcode 0x2f ∷ f3 2 ∷ f5 0x04 ∷ [])
    ∷ row AmoandW Register (opcode 0x2f ∷ f3 2 ∷ f5 0x0c ∷ [])
    ∷ row AmoorW Register (opcode 0x2f ∷ f3 2 ∷ f5 0x08 ∷ [])
    ∷ row AmominW Register (opcode 0x2f ∷ f3 2 ∷ f5 0x10 ∷ [])
    ∷ row AmomaxW Register (opcode 0x2f ∷ f3 2 ∷ f5 0x14 ∷ [])
    ∷ row AmominuW Register (opcode 0x2f ∷ f3 2 ∷ f5 0x18 ∷ [])
    ∷ row AmomaxuW Register (opcode 0x2f ∷ f3 2 ∷ f5 0x1c ∷ [])
    ∷ row LrD Register (opcode 0x2f ∷ f3 3 ∷ f5 0x02 ∷ rs2 0 ∷ [])
    ∷ row ScD Register (opcode 0x2f ∷ f3 3 ∷ f5 0x03 ∷ [])
    ∷ row AmoswapD Register (opcode 0x2f ∷ f3 3 ∷ f5 0x01 ∷ [])
    ∷ row AmoaddD Register (opcode 0x2f ∷ f3 3 ∷ f5 0x00 ∷ [])
    ∷ row AmoxorD Register (opcode 0x2f ∷ f3 3 ∷ f5 0x04 ∷ [])
    ∷ row AmoandD Register (opcode 0x2f ∷ f3 3 ∷ f5 0x0c ∷ [])
    ∷ row AmoorD Register (opcode 0x2f ∷ f3 3 ∷ f5 0x08 ∷ [])
    ∷ row AmominD Register (opcode 0x2f ∷ f3 3 ∷ f5 0x10 ∷ [])
    ∷ row AmomaxD Register (opcode 0x2f ∷ f3 3 ∷ f5 0x14 ∷ [])
    ∷ row AmominuD Register (opcode 0x2f ∷ f3 3 ∷ f5 0x18 ∷ [])
    ∷ row AmomaxuD Register (opcode 0x2f ∷ f3 3 ∷ f5 0x1c ∷ [])
    ∷ []

-- the row that a word fits
unfoldable pub row_of : ℕ → Option Row
row_of w = find (fits w) table

-- the instruction of the one row that a word fits, and none where no row fits
unfoldable pub instruction_of : ℕ → Option Inst
instruction_of w = option_map (λ r. read r.format r.op w) (row_of w)

-- the registers of an instruction are among the 32
pub record NamesRegisters (inst : Inst) : Type 0 where
  pub rd : inst.rd < 32
  pub rs1 : inst.rs1 < 32
  pub rs2 : inst.rs2 < 32
