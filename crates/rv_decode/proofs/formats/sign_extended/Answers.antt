use Rattle.std.proofs.Common.{◌≡◌, ℕ, suc, ◌+◌, ◌-◌, ◌*◌, ◌/◌, ◌%◌, ◌^◌, ◌<◌, ◌≤◌, nat_lt, Bool, false, refl, sym, ap, ◌∙◌, arith, w32, ℤ, pos, ◌-ℤ◌, to_z, of_z, if◌then◌else◌, negsuc, pow-suc}
use Rattle.std.proofs.lemmas.Int.{ints}
use Rattle.std.proofs.lemmas.Bool.Decides.{nat_tests}
use Rattle.std.proofs.Math.Pow.{pow_mono}
use Rattle.rv_decode.proofs.formats.sign_extended.Goals as goal

below_zero : (n p q : ℕ) → p ≤ 2147483648 → q ≡ 2 * p → p ≤ n → n < q
    → to_z w32 (of_z w32 (negsuc 0 -ℤ to_z w32 (1 * p % 4294967296 - 1 - (n - 1 * p % 4294967296)))) ≡ negsuc (q - suc n)
below_zero n p q small double least below = omega (arith, ints, small, double, least, below)

pub returns-else-number-half : goal.returns-else-number-half
returns-else-number-half c =
    let n = c.args.number in
    let p = 2 ^ (c.args.width - 1) in
    let q = 2 ^ c.args.width in
    let short : c.args.width - 1 ≤ 31 = omega arith in
    let small : p ≤ 2147483648 = pow_mono short in
    let longer : c.args.width ≡ suc (c.args.width - 1) = omega arith in
    let double : q ≡ 2 * p = ap (λ k. 2 ^ k) longer ∙ pow-suc 2 (c.args.width - 1) ∙ omega arith in
    let same : 1 * p % 4294967296 ≡ p = omega (arith, small) in
    let least : p ≤ n = omega (arith, same, c.if-number-half.false) in
    let not_less : nat_lt n p ≡ false = grind (arith, nat_tests) in
    below_zero n p q small double least c.requires.within
    ∙ sym (ap (λ b. if b then pos n else negsuc (q - suc n)) not_less)
