-- Results at the ends of the types: divisions and products as the ISA manual's chapter on M gives
-- them, shifts, jumps, loads and atomic operations.
use Rattle.std.proofs.Common.{◌≡◌, ℕ, refl, ◌-◌}
use Rattle.std.specs.Prelude.{true}
use Rattle.guest_words.specs.Arithmetic.{all_ones}
use Rattle.guest_words.specs.Effects.{value_of, is_taken, jump_place, loaded_of, amo_of}
use Rattle.guest_words.specs.declared.inst.Op.{Op}
use Rattle.guest_words.specs.declared.inst.Op.TheVariants.{Mul, Mulh, Mulhsu, Mulhu, Div, Divu, Rem, Remu, Divw, Divuw, Remw, Remuw, Addw, Sraw, Sra, Blt, Bgeu, Jalr, Jal, Lb, Lbu, Lw, Lwu, AmominW, AmominuW, AmoaddW, AmomaxD}

-- the value for rd of two registers
abbrev on : Op → ℕ → ℕ → ℕ
on op a b = value_of op 0 a b 0

-- the least number by -1 is itself, and leaves 0
pub least_by_minus_one : on Div 0x8000000000000000 all_ones ≡ 0x8000000000000000
least_by_minus_one = refl

pub least_by_minus_one_leaves : on Rem 0x8000000000000000 all_ones ≡ 0
least_by_minus_one_leaves = refl

-- 5 by 0 is -1, and leaves 5
pub by_zero : on Div 5 0 ≡ all_ones
by_zero = refl

pub by_zero_leaves : on Rem 5 0 ≡ 5
by_zero_leaves = refl

pub by_zero_unsigned : on Divu 5 0 ≡ all_ones
by_zero_unsigned = refl

pub by_zero_unsigned_leaves : on Remu 5 0 ≡ 5
by_zero_unsigned_leaves = refl

-- -7 by 2 is -3, and leaves -1
pub rounds_to_zero : on Div (all_ones - 6) 2 ≡ all_ones - 2
rounds_to_zero = refl

pub rounds_to_zero_leaves : on Rem (all_ones - 6) 2 ≡ all_ones
rounds_to_zero_leaves = refl

-- 7 by -2 is -3, and leaves 1
pub by_minus_two : on Div 7 (all_ones - 1) ≡ all_ones - 2
by_minus_two = refl

pub by_minus_two_leaves : on Rem 7 (all_ones - 1) ≡ 1
by_minus_two_leaves = refl

-- the same on 32 bits, whose results are sign-extended
pub least_32_by_minus_one : on Divw 0x80000000 0xffffffff ≡ 0xffffffff80000000
least_32_by_minus_one = refl

pub least_32_by_minus_one_leaves : on Remw 0x80000000 0xffffffff ≡ 0
least_32_by_minus_one_leaves = refl

pub by_zero_32 : on Divuw 7 0 ≡ all_ones
by_zero_32 = refl

pub by_zero_32_signed : on Divw 7 0x100000000 ≡ all_ones
by_zero_32_signed = refl

-- the high half of the divisor is not looked at
pub by_zero_32_leaves : on Remuw 0x80000000 0 ≡ 0xffffffff80000000
by_zero_32_leaves = refl

pub by_zero_32_signed_leaves : on Remw 0x180000000 0x100000000 ≡ 0xffffffff80000000
by_zero_32_signed_leaves = refl

-- all ones times all ones: 2 ^ 64 - 1 squared, -1 times 2 ^ 64 - 1, and -1 squared
pub high_unsigned_ends : on Mulhu all_ones all_ones ≡ 0xfffffffffffffffe
high_unsigned_ends = refl

pub high_mixed_ends : on Mulhsu all_ones all_ones ≡ all_ones
high_mixed_ends = refl

pub high_signed_ends : on Mulh all_ones all_ones ≡ 0
high_signed_ends = refl

-- 2 ^ 126 has 2 ^ 62 above
pub high_signed_least : on Mulh 0x8000000000000000 0x8000000000000000 ≡ 0x4000000000000000
high_signed_least = refl

-- -2 ^ 63 times 2 ^ 64 - 1, rounded down
pub high_mixed_least : on Mulhsu 0x8000000000000000 all_ones ≡ 0x8000000000000000
high_mixed_least = refl

pub low_of_ends : on Mul all_ones all_ones ≡ 1
low_of_ends = refl

-- 2 ^ 31 - 1 and 1 make the least number of 32 bits
pub sum_32_wraps : on Addw 0x7fffffff 1 ≡ 0xffffffff80000000
sum_32_wraps = refl

-- the sign stays, and only 6 or 5 bits of the amount count
pub shift_of_the_sign : on Sra 0x8000000000000000 0xff ≡ all_ones
shift_of_the_sign = refl

pub shift_of_the_sign_32 : on Sraw 0x80000000 0x3f ≡ all_ones
shift_of_the_sign_32 = refl

pub shift_32_of_long : on Sraw 0x180000000 0x20 ≡ 0xffffffff80000000
shift_32_of_long = refl

-- -1 is below 0 signed, and not unsigned
pub minus_one_below_zero : is_taken Blt all_ones 0 ≡ true
minus_one_below_zero = refl

pub all_ones_not_below : is_taken Bgeu all_ones 0 ≡ true
all_ones_not_below = refl

-- JALR drops bit 0 of the sum, and wraps
pub jalr_clears_a_bit : jump_place Jalr 0 all_ones 0x14 ≡ 0x12
jalr_clears_a_bit = refl

pub jal_wraps : jump_place Jal 0x10000 0 (all_ones - 1) ≡ 0xfffe
jal_wraps = refl

-- bytes are sign-extended or not
pub byte_signed : loaded_of Lb 0x80 ≡ 0xffffffffffffff80
byte_signed = refl

pub byte_unsigned : loaded_of Lbu 0x80 ≡ 0x80
byte_unsigned = refl

pub word_signed : loaded_of Lw 0x80000000 ≡ 0xffffffff80000000
word_signed = refl

pub word_unsigned : loaded_of Lwu 0x80000000 ≡ 0x80000000
word_unsigned = refl

-- -1 is the lesser signed, and the greater unsigned
pub least_signed : amo_of AmominW 0xffffffff 1 ≡ 0xffffffff
least_signed = refl

pub least_unsigned : amo_of AmominuW 0xffffffff 1 ≡ 1
least_unsigned = refl

pub greatest_signed : amo_of AmomaxD all_ones 1 ≡ 1
greatest_signed = refl

pub atomic_sum_wraps : amo_of AmoaddW 0xffffffff 0xffffffff00000002 ≡ 1
atomic_sum_wraps = refl
