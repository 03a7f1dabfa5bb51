-- Each format with its extreme immediates, as the GNU assembler for riscv64 makes the words, and
-- words that fit no row.
use Rattle.std.proofs.Common.{refl, [], ◌∷◌}
use Rattle.std.specs.Prelude.{pos}
use Rattle.guest_words.specs.Instructions.{instruction_of, row_of}
use Rattle.guest_words.specs.declared.inst.Op.TheVariants.{Add, Addi, AmoaddD, AmomaxuW, Auipc, Beq, Bge, Bgeu, Blt, Bltu, Bne, Ebreak, Ecall, Fence, Jal, Jalr, Lb, LrD, LrW, Lui, Lwu, Remuw, Sb, ScD, Sd, Slli, Slliw, Srai, Sraiw, Srli, Srliw, Sw}
use Rattle.guest_words.proofs.Listing.{Reads, ReadsNone, at, neg}

-- rd and bits 31 to 12 of the immediate
pub upper : Reads
    (at 0x80000fb7 Lui 31 0 0 (neg 2147483648)
    ∷ at 0x7ffff0b7 Lui 1 0 0 (pos 2147479552)
    ∷ at 0xfffff297 Auipc 5 0 0 (neg 4096)
    ∷ at 0x00000317 Auipc 6 0 0 (pos 0) ∷ [])
unfolding instruction_of row_of
upper = refl

-- the farthest jumps back and forth, and one byte pair of each part
pub jump : Reads
    (at 0x800000ef Jal 1 0 0 (neg 1048576)
    ∷ at 0x7ffff06f Jal 0 0 0 (pos 1048574)
    ∷ at 0x0020006f Jal 0 0 0 (pos 2)
    ∷ at 0x400002ef Jal 5 0 0 (pos 1024)
    ∷ at 0x0010036f Jal 6 0 0 (pos 2048)
    ∷ at 0x000013ef Jal 7 0 0 (pos 4096)
    ∷ at 0x00080fef Jal 31 0 0 (pos 524288) ∷ [])
unfolding instruction_of row_of
jump = refl

-- 12 bits, signed
pub immediate : Reads
    (at 0x800f80e7 Jalr 1 31 0 (neg 2048)
    ∷ at 0x7ff08067 Jalr 0 1 0 (pos 2047)
    ∷ at 0x800f0f93 Addi 31 30 0 (neg 2048)
    ∷ at 0x7ff10093 Addi 1 2 0 (pos 2047)
    ∷ at 0x80020183 Lb 3 4 0 (neg 2048)
    ∷ at 0x7ff36283 Lwu 5 6 0 (pos 2047) ∷ [])
unfolding instruction_of row_of
immediate = refl

-- the farthest branches back and forth, and each part alone
pub branch : Reads
    (at 0x81f00063 Beq 0 0 31 (neg 4096)
    ∷ at 0x7fe09fe3 Bne 0 1 30 (pos 4094)
    ∷ at 0x01d14163 Blt 0 2 29 (pos 2)
    ∷ at 0x01c1d863 Bge 0 3 28 (pos 16)
    ∷ at 0x03b26063 Bltu 0 4 27 (pos 32)
    ∷ at 0x41a2f063 Bgeu 0 5 26 (pos 1024)
    ∷ at 0x019300e3 Beq 0 6 25 (pos 2048) ∷ [])
unfolding instruction_of row_of
branch = refl

-- 12 bits in two parts, signed
pub store : Reads
    (at 0x80740023 Sb 0 8 7 (neg 2048)
    ∷ at 0x7e953fa3 Sd 0 10 9 (pos 2047)
    ∷ at 0xffff2fa3 Sw 0 30 31 (neg 1) ∷ [])
unfolding instruction_of row_of
store = refl

-- a shift of 0 to 63
pub shift : Reads
    (at 0x03f61593 Slli 11 12 0 (pos 63)
    ∷ at 0x00075693 Srli 13 14 0 (pos 0)
    ∷ at 0x43f85793 Srai 15 16 0 (pos 63) ∷ [])
unfolding instruction_of row_of
shift = refl

-- a shift of 0 to 31
pub word_shift : Reads
    (at 0x01f9189b Slliw 17 18 0 (pos 31)
    ∷ at 0x000a599b Srliw 19 20 0 (pos 0)
    ∷ at 0x41fb5a9b Sraiw 21 22 0 (pos 31) ∷ [])
unfolding instruction_of row_of
word_shift = refl

-- three registers
pub register : Reads
    (at 0x019c0bb3 Add 23 24 25 (pos 0)
    ∷ at 0x03ff7ebb Remuw 29 30 31 (pos 0) ∷ [])
unfolding instruction_of row_of
register = refl

-- three registers, and two bits that are free
pub atomic : Reads
    (at 0x100120af LrW 1 2 0 (pos 0)
    ∷ at 0x160231af LrD 3 4 0 (pos 0)
    ∷ at 0x1863b2af ScD 5 7 6 (pos 0)
    ∷ at 0xe695242f AmomaxuW 8 10 9 (pos 0)
    ∷ at 0x00c6b5af AmoaddD 11 13 12 (pos 0) ∷ [])
unfolding instruction_of row_of
atomic = refl

-- the words of no field
pub bare : Reads
    (at 0x0ff0000f Fence 0 0 0 (pos 0)
    ∷ at 0x0330000f Fence 0 0 0 (pos 0)
    ∷ at 0x0000000f Fence 0 0 0 (pos 0)
    ∷ at 0x00000073 Ecall 0 0 0 (pos 0)
    ∷ at 0x00100073 Ebreak 0 0 0 (pos 0) ∷ [])
unfolding instruction_of row_of
bare = refl

-- nothing, a compressed word, all bits set, and a word with more than 32 bits
pub other_lengths : ReadsNone (0x00000000 ∷ 0x00000001 ∷ 0xffffffff ∷ 0x0000003f ∷ [])
unfolding instruction_of row_of
other_lengths = refl

-- FENCE.I, CSRRS, MRET, WFI and loads, stores and sums of floating point
pub other_extensions : ReadsNone
    (0x0000100f ∷ 0xc0002573 ∷ 0x30200073 ∷ 0x10500073 ∷ 0x0005b507 ∷ 0x00a5b027 ∷ 0x02c5f553 ∷ [])
unfolding instruction_of row_of
other_extensions = refl

-- no such field in the row of ADD, MULW, SRAI, SRAIW, JALR, LD, SD, BEQ, LR, AMOADD or ECALL
pub reserved_fields : ReadsNone
    (0x04c58533 ∷ 0x02c5953b ∷ 0x44155513 ∷ 0x4215551b ∷ 0x00051067 ∷ 0x00057503 ∷ 0x00a54023
    ∷ 0x00a52063 ∷ 0x10a5252f ∷ 0x00a5452f ∷ 0x000000f3 ∷ [])
unfolding instruction_of row_of
reserved_fields = refl
