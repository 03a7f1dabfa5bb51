-- What `{:016x}` writes, and digits one by one.
use Rattle.std.proofs.Common.{◌≡◌, ℕ, zero, suc, ◌+◌, ◌-◌, ◌*◌, ◌/◌, ◌%◌, ◌^◌, ◌<◌, ◌≤◌, List, [], ◌∷◌, ◌++◌, Bool, true, false, length, take, drop, refl, sym, ap, ◌∙◌, subst, arith}
use Rattle.std.specs.Prelude.{replicate, ◌==◌, if◌then◌else◌}
use Rattle.std.specs.Fmt.{digit_glyph, digits, digits_onto, padded_integral, format_spec, char_count}
use Rattle.std.proofs.Math.Nat.{div-eq_of_lt, div-lt_iff_lt-mul, lt-div-mul-add, mod-eq_of_lt, pow-suc, pow-zero}
use Rattle.std.proofs.lemmas.Bool.{eq-eqb, ne_eqb}
use Rattle.std.proofs.Math.ListN.{set}
use Rattle.std.proofs.lemmas.List.{append-nil, drop_all, drop-set, length-set, set_split, take-set, take-take}
use Rattle.rescue_report.specs.Numbers.{hexadecimal}

pub padded_integral-hexadecimal : (n : ℕ) → padded_integral (format_spec 32 0 4 16 (2 ^ 64 - 1)) false [] (digits 16 false n) ≡ hexadecimal n
unfolding padded_integral char_count
padded_integral-hexadecimal n =
    let ds = digits 16 false n in
    let zeros : 16 - length ds - 0 - 0 ≡ 16 - length ds = omega arith in
    ap (λ k. replicate k 48 ++ (ds ++ [])) zeros ∙ ap (λ text. replicate (16 - length ds) 48 ++ text) (append-nil ds)

pub digits-onto : (base n : ℕ) → digits base false n ≡ digits_onto 64 base false n []
unfolding digits
digits-onto base n = refl

module _ (base n k : ℕ) (acc : List ℕ) (some : 0 < base) where
  by_test : (t : Bool) → (n / base == 0) ≡ t
      → digits_onto (suc k) base false n acc
      ≡ (if t then digit_glyph false (n % base) ∷ acc else digits_onto k base false (n / base) (digit_glyph false (n % base) ∷ acc))
  by_test t is = ap (λ (b : Bool). if b then digit_glyph false (n % base) ∷ acc else digits_onto k base false (n / base) (digit_glyph false (n % base) ∷ acc)) is

  -- the last digit is written, and others come before it
  pub digits_onto-more : base ≤ n → digits_onto (suc k) base false n acc ≡ digits_onto k base false (n / base) (digit_glyph false (n % base) ∷ acc)
  digits_onto-more enough =
      let short : n / base ≡ 0 → ⊥ = λ none. absurd (omega (arith, subst (λ q. n < q * base + base) none (lt-div-mul-add {a = n} some))) in
      by_test false (ne_eqb (n / base) 0 short)

  -- the first digit is written
  pub digits_onto-last : n < base → digits_onto (suc k) base false n acc ≡ digit_glyph false n ∷ acc
  digits_onto-last below =
      by_test true (eq-eqb (n / base) 0 (div-eq_of_lt below)) ∙ ap (λ d. digit_glyph false d ∷ acc) (mod-eq_of_lt below)

-- a number has one digit fewer without its last
pub fits-fewer : (base n k : ℕ) → 0 < base → n < base ^ (k + 1) → n / base < base ^ k
fits-fewer base n k some fits =
    let next : k + 1 ≡ suc k = omega arith in
    (div-lt_iff_lt-mul some).1 (subst (λ m. n < m) (ap (λ j. base ^ j) next ∙ pow-suc base k) fits)

-- a number with more digits than one has room for another
pub some-left : (base n k : ℕ) → base ≤ n → n < base ^ (k + 1) → 0 < k
some-left base n zero enough fits =
    let one : 1 * base ≡ base = omega arith in
    let power = pow-suc base 0 ∙ ap (λ m. m * base) (pow-zero base) ∙ one in
    absurd (omega (arith, subst (λ m. n < m) power fits))
some-left base n (suc k) enough fits = omega arith

-- fronts that are the same are so without their last element
shorter_fronts : (k : ℕ) (xs ys : List ℕ) → take (k + 1) xs ≡ take (k + 1) ys → take k xs ≡ take k ys
shorter_fronts k xs ys same = sym (front xs) ∙ ap (take k) same ∙ front ys
  where
    front : (zs : List ℕ) → take k (take (k + 1) zs) ≡ take k zs
    front zs = take-take k (k + 1) zs (omega arith)

-- digits stand behind a place of bytes, and those of rest are to come at it and before it
pub record AreWritten (base number : ℕ) (old bytes : List ℕ) (from rest : ℕ) : Type 0 where
  pub within : from < length bytes
  pub fits : rest < base ^ (from + 1)
  pub front : take (from + 1) bytes ≡ take (from + 1) old
  pub written : digits base false number ≡ digits_onto (65 + from - length bytes) base false rest (drop (from + 1) bytes)

pub AreWritten-none : (base number : ℕ) (bytes : List ℕ) → 0 < length bytes → number < base ^ length bytes → AreWritten base number bytes bytes (length bytes - 1) number
AreWritten-none base number bytes some fits =
    let long = length bytes in
    let whole : long ≡ long - 1 + 1 = omega arith in
    let all : 64 ≡ 65 + (long - 1) - long = omega arith in
    let none : [] ≡ drop (long - 1 + 1) bytes = sym (drop_all (long - 1 + 1) bytes (omega arith)) in
    record {
      within = omega arith;
      fits = subst (λ k. number < base ^ k) whole fits;
      front = refl;
      written = digits-onto base number
          ∙ ap (λ k. digits_onto k base false number []) all
          ∙ ap (λ xs. digits_onto (65 + (long - 1) - long) base false number xs) none;
    }

module _ (base number : ℕ) (old bytes : List ℕ) (from rest : ℕ) (some : 0 < base) (few : length bytes ≤ 64) where
  pub AreWritten-next : (d : ℕ) → d ≡ digit_glyph false (rest % base) → base ≤ rest
      → AreWritten base number old bytes from rest → AreWritten base number old (set bytes from d) (from - 1) (rest / base)
  AreWritten-next d is enough w =
      let below = w.within in
      let left = some-left base rest from enough w.fits in
      let long = length-set bytes from d in
      let place : from ≡ from - 1 + 1 = omega arith in
      let count : 65 + from - length bytes ≡ suc (65 + (from - 1) - length (set bytes from d)) = omega arith in
      let kept : take from (set bytes from d) ≡ take from old =
      take-set bytes from d ∙ shorter_fronts from bytes old w.front in
      let behind : digit_glyph false (rest % base) ∷ drop (from + 1) bytes ≡ drop from (set bytes from d) =
      ap (λ x. x ∷ drop (from + 1) bytes) (sym is) ∙ sym (drop-set bytes from d below) in
      record {
        within = omega arith;
        fits = subst (λ k. rest / base < base ^ k) place (fits-fewer base rest from some w.fits);
        front = subst (λ k. take k (set bytes from d) ≡ take k old) place kept;
        written = w.written
            ∙ ap (λ k. digits_onto k base false rest (drop (from + 1) bytes)) count
            ∙ digits_onto-more base rest (65 + (from - 1) - length (set bytes from d)) (drop (from + 1) bytes) some enough
            ∙ ap (λ xs. digits_onto (65 + (from - 1) - length (set bytes from d)) base false (rest / base) xs) behind
            ∙ ap (λ k. digits_onto (65 + (from - 1) - length (set bytes from d)) base false (rest / base) (drop k (set bytes from d))) place;
      }

  pub AreWritten-all : (d : ℕ) → d ≡ digit_glyph false rest → rest < base
      → AreWritten base number old bytes from rest → set bytes from d ≡ take from old ++ digits base false number
  AreWritten-all d is below w =
      let inside = w.within in
      let count : 65 + from - length bytes ≡ suc (64 + from - length bytes) = omega arith in
      let next : suc from ≡ from + 1 = omega arith in
      set_split bytes from d inside
      ∙ ap (λ xs. xs ++ d ∷ drop (suc from) bytes) (shorter_fronts from bytes old w.front)
      ∙ ap (λ k. take from old ++ d ∷ drop k bytes) next
      ∙ ap (λ x. take from old ++ x ∷ drop (from + 1) bytes) is
      ∙ ap (λ xs. take from old ++ xs)
      (sym (w.written
      ∙ ap (λ k. digits_onto k base false rest (drop (from + 1) bytes)) count
      ∙ digits_onto-last base rest (64 + from - length bytes) (drop (from + 1) bytes) some below))
