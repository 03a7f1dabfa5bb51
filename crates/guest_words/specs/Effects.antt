-- What each instruction does with values, one equation a row (ISA manual, unprivileged, "RV32I Base
-- Integer Instruction Set", "RV64I Base Integer Instruction Set", "M Extension" and "A Extension").
-- pc, a, b and i are the words of pc, rs1, rs2 and the immediate.
use Rattle.std.specs.Prelude.{ℕ, ◌+◌, ◌*◌, ◌/◌, ◌==◌, Bool, false, not, nat_lt, int_lt, min, max, bit_and, bit_or, bit_xor}
use Rattle.std.specs.Int.{int_min, int_max}
use Rattle.guest_words.specs.Word.{word_of, low_32, signed, signed_32, sx32, sign_extended}
use Rattle.guest_words.specs.Arithmetic.{sum, difference, product, high_signed, high_mixed, high_unsigned, quotient, remainder, quotient_unsigned, remainder_unsigned, quotient_32, remainder_32, quotient_unsigned_32, remainder_unsigned_32, shift_left, shift_right, shift_right_signed, shift_left_32, shift_right_32, shift_right_signed_32, one_if}
use Rattle.guest_words.specs.declared.class.Class.{Class}
use Rattle.guest_words.specs.declared.class.Class.TheVariants.{Register, Branch, Jump, Load, Store, Fence, Call, Break, LoadReserved, StoreConditional, Atomic}
use Rattle.guest_words.specs.declared.width.Width.TheVariants.{One, Two, Four, Eight}
use Rattle.guest_words.specs.declared.inst.Inst.{Inst}
use Rattle.guest_words.specs.declared.inst.Op.{Op}
use Rattle.guest_words.specs.declared.inst.Op.TheVariants.{Lui, Auipc, Jal, Jalr, Beq, Bne, Blt, Bge, Bltu, Bgeu, Lb, Lh, Lw, Ld, Lbu, Lhu, Lwu, Sb, Sh, Sw, Sd, Addi, Slti, Sltiu, Xori, Ori, Andi, Slli, Srli, Srai, Addiw, Slliw, Srliw, Sraiw, Add, Sll, Slt, Sltu, Xor, Srl, Or, And, Sub, Sra, Mul, Mulh, Mulhsu, Mulhu, Div, Divu, Rem, Remu, Addw, Sllw, Srlw, Subw, Sraw, Mulw, Divw, Divuw, Remw, Remuw, Fence, Ecall, Ebreak, LrW, ScW, AmoswapW, AmoaddW, AmoxorW, AmoandW, AmoorW, AmominW, AmomaxW, AmominuW, AmomaxuW, LrD, ScD, AmoswapD, AmoaddD, AmoxorD, AmoandD, AmoorD, AmominD, AmomaxD, AmominuD, AmomaxuD}

-- what a register row puts into rd
abbrev pub value_of : Op → ℕ → ℕ → ℕ → ℕ → ℕ
value_of Lui pc a b i = i
value_of Auipc pc a b i = sum pc i
value_of Addi pc a b i = sum a i
value_of Slti pc a b i = one_if (int_lt (signed a) (signed i))
value_of Sltiu pc a b i = one_if (nat_lt a i)
value_of Xori pc a b i = bit_xor a i
value_of Ori pc a b i = bit_or a i
value_of Andi pc a b i = bit_and a i
value_of Slli pc a b i = shift_left a i
value_of Srli pc a b i = shift_right a i
value_of Srai pc a b i = shift_right_signed a i
value_of Addiw pc a b i = sx32 (a + i)
value_of Slliw pc a b i = shift_left_32 a i
value_of Srliw pc a b i = shift_right_32 a i
value_of Sraiw pc a b i = shift_right_signed_32 a i
value_of Add pc a b i = sum a b
value_of Sll pc a b i = shift_left a b
value_of Slt pc a b i = one_if (int_lt (signed a) (signed b))
value_of Sltu pc a b i = one_if (nat_lt a b)
value_of Xor pc a b i = bit_xor a b
value_of Srl pc a b i = shift_right a b
value_of Or pc a b i = bit_or a b
value_of And pc a b i = bit_and a b
value_of Sub pc a b i = difference a b
value_of Sra pc a b i = shift_right_signed a b
value_of Mul pc a b i = product a b
value_of Mulh pc a b i = high_signed a b
value_of Mulhsu pc a b i = high_mixed a b
value_of Mulhu pc a b i = high_unsigned a b
value_of Div pc a b i = quotient a b
value_of Divu pc a b i = quotient_unsigned a b
value_of Rem pc a b i = remainder a b
value_of Remu pc a b i = remainder_unsigned a b
value_of Addw pc a b i = sx32 (a + b)
value_of Sllw pc a b i = shift_left_32 a b
value_of Srlw pc a b i = shift_right_32 a b
value_of Subw pc a b i = sx32 (difference a b)
value_of Sraw pc a b i = shift_right_signed_32 a b
value_of Mulw pc a b i = sx32 (a * b)
value_of Divw pc a b i = quotient_32 a b
value_of Divuw pc a b i = quotient_unsigned_32 a b
value_of Remw pc a b i = remainder_32 a b
value_of Remuw pc a b i = remainder_unsigned_32 a b
value_of _ pc a b i = 0

-- the same for an instruction, whose immediate is a whole number
abbrev pub result_of : Inst → ℕ → ℕ → ℕ → ℕ
result_of inst pc a b = value_of inst.op pc a b (word_of inst.imm)

-- the branch's condition holds
abbrev pub is_taken : Op → ℕ → ℕ → Bool
is_taken Beq a b = a == b
is_taken Bne a b = not (a == b)
is_taken Blt a b = int_lt (signed a) (signed b)
is_taken Bge a b = not (int_lt (signed a) (signed b))
is_taken Bltu a b = nat_lt a b
is_taken Bgeu a b = not (nat_lt a b)
is_taken _ a b = false

-- where a jump or a taken branch goes: JALR's target has bit 0 cleared
abbrev pub jump_place : Op → ℕ → ℕ → ℕ → ℕ
jump_place Jalr pc a i = sum a i / 2 * 2
jump_place _ pc a i = sum pc i

abbrev pub target_of : Inst → ℕ → ℕ → ℕ
target_of inst pc a = jump_place inst.op pc a (word_of inst.imm)

-- what a row that reads memory puts into rd, of the bytes as a little-endian number
abbrev pub loaded_of : Op → ℕ → ℕ
loaded_of Lb n = word_of (sign_extended 8 n)
loaded_of Lh n = word_of (sign_extended 16 n)
loaded_of Lw n = sx32 n
loaded_of Ld n = n
loaded_of Lbu n = n
loaded_of Lhu n = n
loaded_of Lwu n = n
loaded_of LrW n = sx32 n
loaded_of AmoswapW n = sx32 n
loaded_of AmoaddW n = sx32 n
loaded_of AmoxorW n = sx32 n
loaded_of AmoandW n = sx32 n
loaded_of AmoorW n = sx32 n
loaded_of AmominW n = sx32 n
loaded_of AmomaxW n = sx32 n
loaded_of AmominuW n = sx32 n
loaded_of AmomaxuW n = sx32 n
loaded_of _ n = n

-- what an atomic row stores, of the old value and of b
abbrev pub amo_of : Op → ℕ → ℕ → ℕ
amo_of AmoswapW old b = low_32 b
amo_of AmoaddW old b = low_32 (old + b)
amo_of AmoxorW old b = bit_xor (low_32 old) (low_32 b)
amo_of AmoandW old b = bit_and (low_32 old) (low_32 b)
amo_of AmoorW old b = bit_or (low_32 old) (low_32 b)
amo_of AmominW old b = low_32 (word_of (int_min (signed_32 old) (signed_32 b)))
amo_of AmomaxW old b = low_32 (word_of (int_max (signed_32 old) (signed_32 b)))
amo_of AmominuW old b = min (low_32 old) (low_32 b)
amo_of AmomaxuW old b = max (low_32 old) (low_32 b)
amo_of AmoswapD old b = b
amo_of AmoaddD old b = sum old b
amo_of AmoxorD old b = bit_xor old b
amo_of AmoandD old b = bit_and old b
amo_of AmoorD old b = bit_or old b
amo_of AmominD old b = word_of (int_min (signed old) (signed b))
amo_of AmomaxD old b = word_of (int_max (signed old) (signed b))
amo_of AmominuD old b = min old b
amo_of AmomaxuD old b = max old b
amo_of _ old b = 0

-- the class of each row
abbrev pub class_of : Op → Class
class_of Lui = Register
class_of Auipc = Register
class_of Jal = Jump
class_of Jalr = Jump
class_of Beq = Branch
class_of Bne = Branch
class_of Blt = Branch
class_of Bge = Branch
class_of Bltu = Branch
class_of Bgeu = Branch
class_of Lb = Load One
class_of Lh = Load Two
class_of Lw = Load Four
class_of Ld = Load Eight
class_of Lbu = Load One
class_of Lhu = Load Two
class_of Lwu = Load Four
class_of Sb = Store One
class_of Sh = Store Two
class_of Sw = Store Four
class_of Sd = Store Eight
class_of Addi = Register
class_of Slti = Register
class_of Sltiu = Register
class_of Xori = Register
class_of Ori = Register
class_of Andi = Register
class_of Slli = Register
class_of Srli = Register
class_of Srai = Register
class_of Addiw = Register
class_of Slliw = Register
class_of Srliw = Register
class_of Sraiw = Register
class_of Add = Register
class_of Sll = Register
class_of Slt = Register
class_of Sltu = Register
class_of Xor = Register
class_of Srl = Register
class_of Or = Register
class_of And = Register
class_of Sub = Register
class_of Sra = Register
class_of Mul = Register
class_of Mulh = Register
class_of Mulhsu = Register
class_of Mulhu = Register
class_of Div = Register
class_of Divu = Register
class_of Rem = Register
class_of Remu = Register
class_of Addw = Register
class_of Sllw = Register
class_of Srlw = Register
class_of Subw = Register
class_of Sraw = Register
class_of Mulw = Register
class_of Divw = Register
class_of Divuw = Register
class_of Remw = Register
class_of Remuw = Register
class_of Fence = Fence
class_of Ecall = Call
class_of Ebreak = Break
class_of LrW = LoadReserved Four
class_of ScW = StoreConditional Four
class_of AmoswapW = Atomic Four
class_of AmoaddW = Atomic Four
class_of AmoxorW = Atomic Four
class_of AmoandW = Atomic Four
class_of AmoorW = Atomic Four
class_of AmominW = Atomic Four
class_of AmomaxW = Atomic Four
class_of AmominuW = Atomic Four
class_of AmomaxuW = Atomic Four
class_of LrD = LoadReserved Eight
class_of ScD = StoreConditional Eight
class_of AmoswapD = Atomic Eight
class_of AmoaddD = Atomic Eight
class_of AmoxorD = Atomic Eight
class_of AmoandD = Atomic Eight
class_of AmoorD = Atomic Eight
class_of AmominD = Atomic Eight
class_of AmomaxD = Atomic Eight
class_of AmominuD = Atomic Eight
class_of AmomaxuD = Atomic Eight
