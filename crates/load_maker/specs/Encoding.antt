-- The words of instructions (ISA manual, unprivileged, "Base Instruction Formats" and "Immediate
-- Encoding Variants"): the bits that the row names, with the registers and the immediate in their
-- places.
use Rattle.std.specs.Prelude.{◌≡◌, ℕ, ◌+◌, ◌*◌, ◌≤◌, ◌%◌, ◌^◌, ℤ, Bool, true, false, Some}
use Rattle.std.specs.Int.{w32, cast_unsigned}
use Rattle.guest_words.specs.Instructions.{bits, instruction_of}
use Rattle.guest_words.specs.declared.class.Class.{Class}
use Rattle.guest_words.specs.declared.class.Class.TheVariants.{LoadReserved, StoreConditional, Atomic}
use Rattle.guest_words.specs.declared.format.Format.{Format}
use Rattle.guest_words.specs.declared.format.Format.TheVariants.{Upper, Jump, Immediate, Branch, Store, Shift, WordShift, Register, Bare}
use Rattle.guest_words.specs.declared.inst.Inst.{Inst}
use Rattle.guest_words.specs.declared.inst.Op.{Op}
use Rattle.guest_words.specs.declared.inst.Op.TheVariants.{Lui, Auipc, Jal, Jalr, Beq, Bne, Blt, Bge, Bltu, Bgeu, Lb, Lh, Lw, Ld, Lbu, Lhu, Lwu, Sb, Sh, Sw, Sd, Addi, Slti, Sltiu, Xori, Ori, Andi, Slli, Srli, Srai, Addiw, Slliw, Srliw, Sraiw, Add, Sll, Slt, Sltu, Xor, Srl, Or, And, Sub, Sra, Mul, Mulh, Mulhsu, Mulhu, Div, Divu, Rem, Remu, Addw, Sllw, Srlw, Subw, Sraw, Mulw, Divw, Divuw, Remw, Remuw, Fence, Ecall, Ebreak, LrW, ScW, AmoswapW, AmoaddW, AmoxorW, AmoandW, AmoorW, AmominW, AmomaxW, AmominuW, AmomaxuW, LrD, ScD, AmoswapD, AmoaddD, AmoxorD, AmoandD, AmoorD, AmominD, AmomaxD, AmominuD, AmomaxuD}

-- a word that is an instruction, and the least of them: what no row names and no field holds is 0
pub record IsWordOf (inst : Inst) (word : ℕ) : Type 0 where
  pub read : instruction_of word ≡ Some inst
  pub least : (other : ℕ) → instruction_of other ≡ Some inst → word ≤ other

-- the immediate as 32 bits, in two's complement
abbrev pub imm_bits : ℕ → ℕ → ℤ → ℕ
imm_bits high low imm = bits high low (cast_unsigned w32 imm)

-- the fields of a format in their places
abbrev pub rd_at : Inst → ℕ
rd_at inst = inst.rd % 32 * 2 ^ 7

abbrev pub rs1_at : Inst → ℕ
rs1_at inst = inst.rs1 % 32 * 2 ^ 15

abbrev pub rs2_at : Inst → ℕ
rs2_at inst = inst.rs2 % 32 * 2 ^ 20

abbrev pub fields_at : Format → Inst → ℕ
fields_at Upper inst = imm_bits 31 12 inst.imm * 2 ^ 12 + rd_at inst
fields_at Jump inst =
    imm_bits 20 20 inst.imm * 2 ^ 31
    + imm_bits 10 1 inst.imm * 2 ^ 21
    + imm_bits 11 11 inst.imm * 2 ^ 20
    + imm_bits 19 12 inst.imm * 2 ^ 12
    + rd_at inst
fields_at Immediate inst = imm_bits 11 0 inst.imm * 2 ^ 20 + rs1_at inst + rd_at inst
fields_at Branch inst =
    imm_bits 12 12 inst.imm * 2 ^ 31
    + imm_bits 10 5 inst.imm * 2 ^ 25
    + imm_bits 4 1 inst.imm * 2 ^ 8
    + imm_bits 11 11 inst.imm * 2 ^ 7
    + rs2_at inst
    + rs1_at inst
fields_at Store inst =
    imm_bits 11 5 inst.imm * 2 ^ 25
    + imm_bits 4 0 inst.imm * 2 ^ 7
    + rs2_at inst
    + rs1_at inst
fields_at Shift inst = imm_bits 5 0 inst.imm * 2 ^ 20 + rs1_at inst + rd_at inst
fields_at WordShift inst = imm_bits 4 0 inst.imm * 2 ^ 20 + rs1_at inst + rd_at inst
fields_at Register inst = rs2_at inst + rs1_at inst + rd_at inst
fields_at Bare inst = 0

-- the word with all bits set that a format has fields for
abbrev pub room_of : Format → ℕ
room_of Upper = 0xffffff80
room_of Jump = 0xffffff80
room_of Immediate = 0xffff8f80
room_of Branch = 0xffff8f80
room_of Store = 0xffff8f80
room_of Shift = 0x03ff8f80
room_of WordShift = 0x01ff8f80
room_of Register = 0x01ff8f80
room_of Bare = 0

-- an instruction of the base on words of 32 bits
abbrev pub is_word : Op → Bool
is_word Addiw = true
is_word Slliw = true
is_word Srliw = true
is_word Sraiw = true
is_word Addw = true
is_word Sllw = true
is_word Srlw = true
is_word Subw = true
is_word Sraw = true
is_word op = false

-- an instruction of the extension for multiplication (M)
abbrev pub is_multiply : Op → Bool
is_multiply Mul = true
is_multiply Mulh = true
is_multiply Mulhsu = true
is_multiply Mulhu = true
is_multiply Div = true
is_multiply Divu = true
is_multiply Rem = true
is_multiply Remu = true
is_multiply Mulw = true
is_multiply Divw = true
is_multiply Divuw = true
is_multiply Remw = true
is_multiply Remuw = true
is_multiply op = false

-- what an instruction of the extension for atomic accesses (A) does
abbrev pub is_atomic : Class → Bool
is_atomic (LoadReserved width) = true
is_atomic (StoreConditional width) = true
is_atomic (Atomic width) = true
is_atomic class = false

-- the format of an instruction, and the bits that its row of the table names
abbrev pub form_of : Op → Format × ℕ
form_of Lui = (Upper, 0x00000037)
form_of Auipc = (Upper, 0x00000017)
form_of Jal = (Jump, 0x0000006f)
form_of Jalr = (Immediate, 0x00000067)
form_of Beq = (Branch, 0x00000063)
form_of Bne = (Branch, 0x00001063)
form_of Blt = (Branch, 0x00004063)
form_of Bge = (Branch, 0x00005063)
form_of Bltu = (Branch, 0x00006063)
form_of Bgeu = (Branch, 0x00007063)
form_of Lb = (Immediate, 0x00000003)
form_of Lh = (Immediate, 0x00001003)
form_of Lw = (Immediate, 0x00002003)
form_of Ld = (Immediate, 0x00003003)
form_of Lbu = (Immediate, 0x00004003)
form_of Lhu = (Immediate, 0x00005003)
form_of Lwu = (Immediate, 0x00006003)
form_of Sb = (Store, 0x00000023)
form_of Sh = (Store, 0x00001023)
form_of Sw = (Store, 0x00002023)
form_of Sd = (Store, 0x00003023)
form_of Addi = (Immediate, 0x00000013)
form_of Slti = (Immediate, 0x00002013)
form_of Sltiu = (Immediate, 0x00003013)
form_of Xori = (Immediate, 0x00004013)
form_of Ori = (Immediate, 0x00006013)
form_of Andi = (Immediate, 0x00007013)
form_of Slli = (Shift, 0x00001013)
form_of Srli = (Shift, 0x00005013)
form_of Srai = (Shift, 0x40005013)
form_of Addiw = (Immediate, 0x0000001b)
form_of Slliw = (WordShift, 0x0000101b)
form_of Srliw = (WordShift, 0x0000501b)
form_of Sraiw = (WordShift, 0x4000501b)
form_of Add = (Register, 0x00000033)
form_of Sll = (Register, 0x00001033)
form_of Slt = (Register, 0x00002033)
form_of Sltu = (Register, 0x00003033)
form_of Xor = (Register, 0x00004033)
form_of Srl = (Register, 0x00005033)
form_of Or = (Register, 0x00006033)
form_of And = (Register, 0x00007033)
form_of Sub = (Register, 0x40000033)
form_of Sra = (Register, 0x40005033)
form_of Mul = (Register, 0x02000033)
form_of Mulh = (Register, 0x02001033)
form_of Mulhsu = (Register, 0x02002033)
form_of Mulhu = (Register, 0x02003033)
form_of Div = (Register, 0x02004033)
form_of Divu = (Register, 0x02005033)
form_of Rem = (Register, 0x02006033)
form_of Remu = (Register, 0x02007033)
form_of Addw = (Register, 0x0000003b)
form_of Sllw = (Register, 0x0000103b)
form_of Srlw = (Register, 0x0000503b)
form_of Subw = (Register, 0x4000003b)
form_of Sraw = (Register, 0x4000503b)
form_of Mulw = (Register, 0x0200003b)
form_of Divw = (Register, 0x0200403b)
form_of Divuw = (Register, 0x0200503b)
form_of Remw = (Register, 0x0200603b)
form_of Remuw = (Register, 0x0200703b)
form_of Fence = (Bare, 0x0000000f)
form_of Ecall = (Bare, 0x00000073)
form_of Ebreak = (Bare, 0x00100073)
form_of LrW = (Register, 0x1000202f)
form_of ScW = (Register, 0x1800202f)
form_of AmoswapW = (Register, 0x0800202f)
form_of AmoaddW = (Register, 0x0000202f)
form_of AmoxorW = (Register, 0x2000202f)
form_of AmoandW = (Register, 0x6000202f)
form_of AmoorW = (Register, 0x4000202f)
form_of AmominW = (Register, 0x8000202f)
form_of AmomaxW = (Register, 0xa000202f)
form_of AmominuW = (Register, 0xc000202f)
form_of AmomaxuW = (Register, 0xe000202f)
form_of LrD = (Register, 0x1000302f)
form_of ScD = (Register, 0x1800302f)
form_of AmoswapD = (Register, 0x0800302f)
form_of AmoaddD = (Register, 0x0000302f)
form_of AmoxorD = (Register, 0x2000302f)
form_of AmoandD = (Register, 0x6000302f)
form_of AmoorD = (Register, 0x4000302f)
form_of AmominD = (Register, 0x8000302f)
form_of AmomaxD = (Register, 0xa000302f)
form_of AmominuD = (Register, 0xc000302f)
form_of AmomaxuD = (Register, 0xe000302f)

-- the word of an instruction
unfoldable pub word_of_inst : Inst → ℕ
word_of_inst inst =
    let form = form_of inst.op in
    form.1 + fields_at form.0 inst
