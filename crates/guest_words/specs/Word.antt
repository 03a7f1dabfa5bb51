-- Register words: whole numbers below 2 ^ 64 (ISA manual, unprivileged, "RV64I Base Integer
-- Instruction Set": XLEN is 64, and the `W` instructions work on the low 32 bits).
use Rattle.std.specs.Prelude.{ℕ, suc, ◌-◌, ◌%◌, ◌^◌, ℤ, pos, negsuc, nat_lt, if◌then◌else◌}
use Rattle.std.specs.Int.{w32, w64, cast_signed}

-- n modulo 2 ^ 64
abbrev pub wrap : ℕ → ℕ
wrap n = n % 2 ^ 64

-- z modulo 2 ^ 64
abbrev pub word_of : ℤ → ℕ
word_of (pos n) = wrap n
word_of (negsuc n) = 2 ^ 64 - suc (wrap n)

-- the low 32 bits
abbrev pub low_32 : ℕ → ℕ
low_32 n = n % 2 ^ 32

-- a word, and the low 32 bits of a number, read as two's complement
abbrev pub signed : ℕ → ℤ
signed n = cast_signed w64 n

abbrev pub signed_32 : ℕ → ℤ
signed_32 n = cast_signed w32 (low_32 n)

-- the word whose signed reading is that of the low 32 bits
abbrev pub sx32 : ℕ → ℕ
sx32 n = word_of (signed_32 n)

-- a number of so many bits, read as two's complement: its highest bit counts negatively
abbrev pub sign_extended : ℕ → ℕ → ℤ
sign_extended width n = if nat_lt n (2 ^ (width - 1)) then pos n else negsuc (2 ^ width - suc n)
