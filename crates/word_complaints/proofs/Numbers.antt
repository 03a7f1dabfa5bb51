-- Numbers in texts, as tests and as facts.
use Rattle.std.proofs.Common.{◌≡◌, ◌≤◌, ◌<◌, ◌^◌, ◌-◌, ◌&&◌, ℕ, ℤ, Bool, true, false, pos, negsuc, ap, ap₂, ◌∙◌, sym, subst, refl, arith}
use Rattle.std.specs.Prelude.{FitsSigned, int_le, is_ok, nat_le, nat_lt, ◌≤ℤ◌, Result, Ok, Err}
use Rattle.std.specs.Int.{w64}
use Rattle.std.specs.Str.Parse.{ParsesSigned, digits_value, signed_digits_value, without_leading_plus}
use Rattle.std.proofs.lemmas.Bool.{and_parts, le-leb}
use lib.Signed.{le_z_yes}
use lib.Dec.{T}
use Rattle.clap.specs.ValueTests.{is_numeral, is_signed_in, is_unsigned_in}
use Rattle.clap.specs.Words.{Text}
use Rattle.clap.specs.declared.builder.value_parser.ValueParser.TheVariants.{Signed, Unsigned}
use Rattle.clap.proofs.ValueTestLemmas.{Accepts-accepts, accepts-Accepts}
use Rattle.program_words.specs.Fits.{IsNumber, IsSignedNumber}

-- a number is in a range where its value is
pub number_in : (least most : ℕ) (t : Text) → IsNumber t
    → is_unsigned_in least most t ≡ (nat_le least (digits_value 10 (without_leading_plus t)) && nat_le (digits_value 10 (without_leading_plus t)) most)
number_in least most t n =
    let ds = without_leading_plus t in
    let v = digits_value 10 ds in
    let within = nat_le 0 v && nat_le v (2 ^ 64 - 1) in
    let all : (is_numeral ds && (nat_lt v (2 ^ 64) && within)) ≡ true = Accepts-accepts false (Unsigned 0 (2 ^ 64 - 1)) t (n.0, n.1, omega arith, omega (arith, n.1)) in
    let p = and_parts (is_numeral ds) (nat_lt v (2 ^ 64) && within) all in
    let q = and_parts (nat_lt v (2 ^ 64)) within p.1 in
    ap₂ (λ (a b : Bool). a && (b && (nat_le least v && nat_le v most))) p.0 q.0

-- the value of a text that is a number is in the range where the text is
pub number_parsed : (least most : ℕ) (t : Text) (n : ℕ) → IsNumber t → n ≡ digits_value 10 (without_leading_plus t)
    → (nat_le least n && nat_le n most) ≡ is_unsigned_in least most t
number_parsed least most t n number is = ap (λ (x : ℕ). nat_le least x && nat_le x most) is ∙ sym (number_in least most t number)

by_cases : (b : Bool) → (b ≡ true → ⊥) → b ≡ false
by_cases true bad = absurd (bad refl)
by_cases false bad = refl

-- what is no number is in no range
pub no_number : (least most : ℕ) (t : Text) → (IsNumber t → ⊥) → is_unsigned_in least most t ≡ false
no_number least most t bad =
    by_cases (is_unsigned_in least most t) (λ e. let a = accepts-Accepts false (Unsigned least most) t e in bad (a.0, a.1))

above : (z : ℤ) → FitsSigned w64 z → int_le (negsuc (2 ^ 63 - 1)) z ≡ true
above (pos n) f = refl
above (negsuc n) f = le-leb n (2 ^ 63 - 1) (omega (arith, f.sfits))

below : (z : ℤ) → FitsSigned w64 z → int_le z (pos (2 ^ 63 - 1)) ≡ true
below (pos n) f = le-leb n (2 ^ 63 - 1) (omega (arith, f.sfits))
below (negsuc n) f = refl

in_order : (a b : ℤ) → int_le a b ≡ true → a ≤ℤ b
in_order a b e = le_z_yes (subst T (sym e) tt)

-- a number of `i64` is one that `clap` takes
pub signed_number : (t : Text) → IsSignedNumber t → is_signed_in (negsuc (2 ^ 63 - 1)) (pos (2 ^ 63 - 1)) t ≡ true
signed_number t n =
    let z = signed_digits_value 10 t in
    Accepts-accepts false (Signed (negsuc (2 ^ 63 - 1)) (pos (2 ^ 63 - 1))) t
    (n.0, n.1, in_order _ z (above z n.1), in_order z _ (below z n.1))

pub no_signed : (t : Text) → (IsSignedNumber t → ⊥) → is_signed_in (negsuc (2 ^ 63 - 1)) (pos (2 ^ 63 - 1)) t ≡ false
no_signed t bad =
    by_cases (is_signed_in (negsuc (2 ^ 63 - 1)) (pos (2 ^ 63 - 1)) t)
    (λ e. let a = accepts-Accepts false (Signed (negsuc (2 ^ 63 - 1)) (pos (2 ^ 63 - 1))) t e in bad (a.0, a.1))

-- what a text that is parsed says of the test
pub signed_parsed : {E : Type 0} (t : Text) (r : Result ℤ E) → ParsesSigned w64 10 t r
    → is_ok r ≡ is_signed_in (negsuc (2 ^ 63 - 1)) (pos (2 ^ 63 - 1)) t
signed_parsed t (Ok z) p = sym (signed_number t p.0)
signed_parsed t (Err e) p = sym (no_signed t p)
