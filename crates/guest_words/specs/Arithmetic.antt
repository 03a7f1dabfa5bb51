-- The number rules of RV64I and of the M extension: results over whole numbers, modulo 2 ^ 64 (ISA
-- manual, unprivileged, "Integer Computational Instructions", "Multiplication Operations" and
-- "Division Operations"). a and b are words, and n is a word whose low bits say how far to shift.
use Rattle.std.specs.Prelude.{ℕ, ◌+◌, ◌-◌, ◌*◌, ◌/◌, ◌%◌, ◌^◌, ◌==◌, pos, ◌-ℤ◌, ◌*ℤ◌, int_div, int_rem, Bool, if◌then◌else◌}
use Rattle.std.specs.Int.{int_shr}
use Rattle.guest_words.specs.Word.{wrap, word_of, low_32, signed, signed_32, sx32}

-- all 64 bits set: what dividing by 0 gives
abbrev pub all_ones : ℕ
all_ones = 2 ^ 64 - 1

-- ---- sums and products

abbrev pub sum : ℕ → ℕ → ℕ
sum a b = wrap (a + b)

abbrev pub difference : ℕ → ℕ → ℕ
difference a b = word_of (pos a -ℤ pos b)

abbrev pub product : ℕ → ℕ → ℕ
product a b = wrap (a * b)

-- the product divided by 2 ^ 64, rounded down: both signed, a signed and b not, neither signed
abbrev pub high_signed : ℕ → ℕ → ℕ
high_signed a b = word_of (int_shr (signed a *ℤ signed b) 64)

abbrev pub high_mixed : ℕ → ℕ → ℕ
high_mixed a b = word_of (int_shr (signed a *ℤ pos b) 64)

abbrev pub high_unsigned : ℕ → ℕ → ℕ
high_unsigned a b = a * b / 2 ^ 64

-- ---- quotients, rounded to zero, and remainders, with the sign of a

abbrev pub quotient : ℕ → ℕ → ℕ
quotient a b = if b == 0 then all_ones else word_of (int_div (signed a) (signed b))

abbrev pub remainder : ℕ → ℕ → ℕ
remainder a b = if b == 0 then a else word_of (int_rem (signed a) (signed b))

abbrev pub quotient_unsigned : ℕ → ℕ → ℕ
quotient_unsigned a b = if b == 0 then all_ones else a / b

abbrev pub remainder_unsigned : ℕ → ℕ → ℕ
remainder_unsigned a b = if b == 0 then a else a % b

-- the same on the low 32 bits, sign-extended
abbrev pub quotient_32 : ℕ → ℕ → ℕ
quotient_32 a b =
    if low_32 b == 0 then all_ones else sx32 (word_of (int_div (signed_32 a) (signed_32 b)))

abbrev pub remainder_32 : ℕ → ℕ → ℕ
remainder_32 a b =
    if low_32 b == 0 then sx32 a else sx32 (word_of (int_rem (signed_32 a) (signed_32 b)))

abbrev pub quotient_unsigned_32 : ℕ → ℕ → ℕ
quotient_unsigned_32 a b = if low_32 b == 0 then all_ones else sx32 (low_32 a / low_32 b)

abbrev pub remainder_unsigned_32 : ℕ → ℕ → ℕ
remainder_unsigned_32 a b = if low_32 b == 0 then sx32 a else sx32 (low_32 a % low_32 b)

-- ---- shifts, by the low 6 bits of n

abbrev pub shift_left : ℕ → ℕ → ℕ
shift_left a n = wrap (a * 2 ^ (n % 64))

abbrev pub shift_right : ℕ → ℕ → ℕ
shift_right a n = a / 2 ^ (n % 64)

-- the sign stays
abbrev pub shift_right_signed : ℕ → ℕ → ℕ
shift_right_signed a n = word_of (int_shr (signed a) (n % 64))

-- the same on the low 32 bits, by the low 5 bits of n, sign-extended
abbrev pub shift_left_32 : ℕ → ℕ → ℕ
shift_left_32 a n = sx32 (low_32 a * 2 ^ (n % 32))

abbrev pub shift_right_32 : ℕ → ℕ → ℕ
shift_right_32 a n = sx32 (low_32 a / 2 ^ (n % 32))

abbrev pub shift_right_signed_32 : ℕ → ℕ → ℕ
shift_right_signed_32 a n = word_of (int_shr (signed_32 a) (n % 32))

-- ---- tests

-- 1 where it holds, else 0
abbrev pub one_if : Bool → ℕ
one_if holds = if holds then 1 else 0
