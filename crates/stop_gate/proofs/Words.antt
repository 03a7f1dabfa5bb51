-- The two words as numbers: what a step on a bit makes of them.
use Rattle.std.proofs.Common.{◌≡◌, ℕ, ◌+◌, ◌-◌, ◌*◌, ◌/◌, ◌%◌, ◌^◌, ◌<◌, ◌≤◌, Bool, true, false, ◌∙◌, subst, arith, IsTrue, IsFalse}
use Rattle.std.proofs.lemmas.Bool.{le-leb}
use Rattle.std.proofs.lemmas.Bool.Decides.{nat_tests}
use borrow.Author.Tests.{leb-true, leb-false}
use Rattle.std.proofs.lemmas.Nat.{or_block, or_shifted, and_mask}
use Rattle.std.specs.Int.Bits.{bit_or, bit_and, or_zero_r, or_shifted_r}
use Rattle.stop_gate.specs.Words.{stop_bit, low_part, over_bit, length_in, with_stop}

pub stop_true : (n : ℕ) → IsTrue (stop_bit n) → 2 ^ 63 ≤ n
stop_true n e = leb-true (2 ^ 63) n e

pub stop_false : (n : ℕ) → IsFalse (stop_bit n) → n < 2 ^ 63
stop_false n e = leb-false (2 ^ 63) n e

pub stop_set : (n : ℕ) → 2 ^ 63 ≤ n → IsTrue (stop_bit n)
stop_set n e = le-leb (2 ^ 63) n e

or_stop_low : (n : ℕ) → n < 2 ^ 63 → bit_or n (2 ^ 63) ≡ n + 2 ^ 63
or_stop_low n small = or_shifted_r 1 63 n small ∙ omega arith

or_stop_high : (n : ℕ) → 2 ^ 63 ≤ n → n < 2 ^ 64 → bit_or n (2 ^ 63) ≡ n
or_stop_high n big small =
    let r : ℕ = n - 2 ^ 63 in
    let is : 1 * 2 ^ 63 + r ≡ n = omega arith in
    let b : bit_or (1 * 2 ^ 63 + r) (1 * 2 ^ 63 + 0) ≡ bit_or 1 1 * 2 ^ 63 + bit_or r 0 = or_block 63 1 1 r 0 (omega arith) (omega arith) in
    let z = or_zero_r r in
    subst (λ (k : ℕ). bit_or k (2 ^ 63) ≡ k) is (b ∙ omega arith)

-- to raise the stop bit
pub or_stop : (n : ℕ) (b : Bool) → stop_bit n ≡ b → n < 2 ^ 64 → bit_or n (2 ^ 63) ≡ with_stop n
or_stop n true up small = let high = stop_true n up in or_stop_high n high small ∙ omega arith
or_stop n false down small = let low = stop_false n down in or_stop_low n low ∙ omega arith

-- to lower it
pub and_low : (n : ℕ) → bit_and n (2 ^ 63 - 1) ≡ low_part n
and_low n = and_mask n 63

pub or_one_even : (n : ℕ) → n % 2 ≡ 0 → bit_or n 1 ≡ n + 1
or_one_even n even =
    let m : ℕ = n / 2 in
    let is : m * 2 ≡ n = omega arith in
    let b : bit_or (m * 2) 1 ≡ m * 2 + 1 = or_shifted m 1 1 (omega arith) in
    subst (λ (k : ℕ). bit_or k 1 ≡ k + 1) is b

pub or_one_odd : (n : ℕ) → n % 2 ≡ 1 → bit_or n 1 ≡ n
or_one_odd n odd =
    let m : ℕ = n / 2 in
    let is : m * 2 + 1 ≡ n = omega arith in
    let b : bit_or (m * 2 + 1) (0 * 2 + 1) ≡ bit_or m 0 * 2 + bit_or 1 1 = or_block 1 m 0 1 1 (omega arith) (omega arith) in
    let z = or_zero_r m in
    subst (λ (k : ℕ). bit_or k 1 ≡ k) is (b ∙ omega arith)

-- an even word made odd tells the same of the value
pub length_next : (n : ℕ) → n % 2 ≡ 0 → length_in (n + 1) ≡ length_in n
length_next n even = omega arith

pub over_next : (n : ℕ) → n % 2 ≡ 0 → over_bit (n + 1) ≡ over_bit n
over_next n even = grind (arith, nat_tests)
