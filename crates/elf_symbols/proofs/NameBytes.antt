-- A name against the bytes before the first zero byte.
use Rattle.std.proofs.Common.{◌≡◌, ℕ, zero, suc, ◌+◌, ◌<◌, ◌≤◌, List, [], ◌∷◌, length, take, get_or, true, false, ◌&&◌, ◌||◌, not, refl, sym, ap, ◌∙◌, arith, eq-eqb}
use Rattle.std.specs.Prelude.{◌==◌, nat_le}
use Rattle.std.specs.List.{before_first, position_or_len}
use Rattle.std.specs.Str.{bytes_eq}
use Rattle.std.proofs.lemmas.Bool.Decides.{nat_tests}
use Rattle.std.proofs.Math.Bool.{and-false}
use Rattle.guest_words.specs.Image.{contains}

before_none : (x : ℕ) (xs : List ℕ) → (x == 0) ≡ true → before_first (λ b. b == 0) (x ∷ xs) ≡ []
before_none x xs is = rw is refl

before_more : (x : ℕ) (xs : List ℕ) → (x == 0) ≡ false → before_first (λ b. b == 0) (x ∷ xs) ≡ x ∷ before_first (λ b. b == 0) xs
before_more x xs is =
    let n = position_or_len (λ b. b == 0) xs in
    let one : 1 + n ≡ suc n = omega arith in
    rw is (ap (λ k. take k (x ∷ xs)) one)

-- bytes that are no longer than the name are it where they are alike and it has no zero byte
pub whole_name :
    (ys ns : List ℕ)
    → length ys ≤ length ns
    → bytes_eq (before_first (λ b. b == 0) ys) ns ≡ (bytes_eq ys ns && not (contains ns 0))
whole_name [] [] short = refl
whole_name [] (n ∷ ns) short = refl
whole_name (y ∷ ys) [] short = absurd (omega arith)
whole_name (y ∷ ys) (n ∷ ns) short =
    elim (y == 0) as (λ b. y == 0 ≡ b → bytes_eq (before_first (λ x. x == 0) (y ∷ ys)) (n ∷ ns) ≡ ((y == n && bytes_eq ys ns) && not (n == 0 || contains ns 0))) [
      | true ↦ λ is. ap (λ zs. bytes_eq zs (n ∷ ns)) (before_none y ys is)
          ∙ elim (y == n) as (λ c. y == n ≡ c → false ≡ ((c && bytes_eq ys ns) && not (n == 0 || contains ns 0))) [
            | true ↦ λ same. let ends : (n == 0) ≡ true = grind (arith, nat_tests) in
                rw ends (sym (and-false (bytes_eq ys ns)))
            | false ↦ λ _. refl
          ] refl
      | false ↦ λ is. ap (λ zs. bytes_eq zs (n ∷ ns)) (before_more y ys is)
          ∙ elim (y == n) as (λ c. y == n ≡ c → (c && bytes_eq (before_first (λ x. x == 0) ys) ns) ≡ ((c && bytes_eq ys ns) && not (n == 0 || contains ns 0))) [
            | true ↦ λ same. let goes : (n == 0) ≡ false = grind (arith, nat_tests) in
                rw goes (whole_name ys ns (omega arith))
            | false ↦ λ _. refl
          ] refl
    ] refl

-- a zero byte ends the bytes before it
pub before_end : (xs : List ℕ) (n : ℕ) → n < length xs → get_or xs n 0 ≡ 0 → before_first (λ b. b == 0) (take n xs) ≡ before_first (λ b. b == 0) xs
before_end [] n below ends = absurd (omega arith)
before_end (x ∷ xs) zero below ends = sym (before_none x xs (eq-eqb x 0 ends))
before_end (x ∷ xs) (suc n) below ends =
    elim (x == 0) as (λ b. x == 0 ≡ b → before_first (λ y. y == 0) (x ∷ take n xs) ≡ before_first (λ y. y == 0) (x ∷ xs)) [
      | true ↦ λ is. before_none x (take n xs) is ∙ sym (before_none x xs is)
      | false ↦ λ is. before_more x (take n xs) is ∙ ap (λ zs. x ∷ zs) (before_end xs n (omega arith) ends) ∙ sym (before_more x xs is)
    ] refl

-- another byte there shows that the name is another
pub no_end : (xs ns : List ℕ) → length ns < length xs → (get_or xs (length ns) 0 == 0) ≡ false → bytes_eq (before_first (λ b. b == 0) xs) ns ≡ false
no_end [] ns below goes = absurd (omega arith)
no_end (x ∷ xs) [] below goes = ap (λ zs. bytes_eq zs []) (before_more x xs goes)
no_end (x ∷ xs) (n ∷ ns) below goes =
    elim (x == 0) as (λ b. x == 0 ≡ b → bytes_eq (before_first (λ y. y == 0) (x ∷ xs)) (n ∷ ns) ≡ false) [
      | true ↦ λ is. ap (λ zs. bytes_eq zs (n ∷ ns)) (before_none x xs is)
      | false ↦ λ is. ap (λ zs. bytes_eq zs (n ∷ ns)) (before_more x xs is)
          ∙ ap (λ b. x == n && b) (no_end xs ns (omega arith) goes)
          ∙ and-false (x == n)
    ] refl

le_none : (n : ℕ) → true ≡ nat_le 0 n
le_none n = grind (arith, nat_tests)

le_zero : (k : ℕ) → false ≡ nat_le (suc k) 0
le_zero k = grind (arith, nat_tests)

le_more : (k n : ℕ) → nat_le k n ≡ nat_le (suc k) (suc n)
le_more k n =
    elim (nat_le k n) as (λ b. nat_le k n ≡ b → b ≡ nat_le (suc k) (suc n)) [
      | true ↦ λ is. grind (arith, nat_tests)
      | false ↦ λ is. grind (arith, nat_tests)
    ] refl

-- a zero byte among the first ones, and one more, ends a name that has no more than those
pub ends_below : (xs : List ℕ) (n : ℕ) → n < length xs → contains (take (suc n) xs) 0 ≡ nat_le (length (before_first (λ b. b == 0) xs)) n
ends_below [] n below = absurd (omega arith)
ends_below (x ∷ xs) zero below =
    elim (x == 0) as (λ b. x == 0 ≡ b → (b || false) ≡ nat_le (length (before_first (λ y. y == 0) (x ∷ xs))) 0) [
      | true ↦ λ is. le_none 0 ∙ sym (ap (λ ys. nat_le (length ys) 0) (before_none x xs is))
      | false ↦ λ is. le_zero (length (before_first (λ y. y == 0) xs)) ∙ sym (ap (λ ys. nat_le (length ys) 0) (before_more x xs is))
    ] refl
ends_below (x ∷ xs) (suc n) below =
    elim (x == 0) as (λ b. x == 0 ≡ b → (b || contains (take (suc n) xs) 0) ≡ nat_le (length (before_first (λ y. y == 0) (x ∷ xs))) (suc n)) [
      | true ↦ λ is. le_none (suc n) ∙ sym (ap (λ ys. nat_le (length ys) (suc n)) (before_none x xs is))
      | false ↦ λ is. ends_below xs n (omega arith)
          ∙ le_more (length (before_first (λ y. y == 0) xs)) n
          ∙ sym (ap (λ ys. nat_le (length ys) (suc n)) (before_more x xs is))
    ] refl
