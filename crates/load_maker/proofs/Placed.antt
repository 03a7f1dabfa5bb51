-- The immediate of an instruction, in its places again.
use Rattle.std.proofs.Common.{◌≡◌, ℕ, ◌%◌, ◌<◌, arith, w32}
use Rattle.std.proofs.lemmas.Int.{ints}
use Rattle.std.proofs.lemmas.Bool.Decides.{nat_tests}
use Rattle.std.specs.Int.{cast_unsigned}
use Rattle.guest_words.specs.Word.{sign_extended}

-- the bits of a number are those of its reading in two's complement
pub low_12 : (n : ℕ) → n < 4096 → cast_unsigned w32 (sign_extended 12 n) % 4096 ≡ n
low_12 n below = grind (arith, ints, nat_tests)

pub low_13 : (n : ℕ) → n < 8192 → cast_unsigned w32 (sign_extended 13 n) % 8192 ≡ n
low_13 n below = grind (arith, ints, nat_tests)

pub low_21 : (n : ℕ) → n < 2097152 → cast_unsigned w32 (sign_extended 21 n) % 2097152 ≡ n
low_21 n below = grind (arith, ints, nat_tests)

pub low_32 : (n : ℕ) → n < 4294967296 → cast_unsigned w32 (sign_extended 32 n) ≡ n
low_32 n below = grind (arith, ints, nat_tests)
