-- No word fits two rows of the table.
use Rattle.std.proofs.Common.{◌≡◌, ℕ, ◌≤◌, List, [], ◌∷◌, length, refl, arith}
use Rattle.std.proofs.lemmas.Bool.Decides.{nat_tests}
use Rattle.std.specs.Prelude.{Bool, true, false, not, ◌==◌, ◌&&◌, filter}
use Rattle.std.specs.List.{list_all, list_any}
use Rattle.guest_words.specs.Instructions.{Named, opcode, f3, f5, f6, f7, rs2, whole, has, Row, fits, table}

-- they want other values of one field
abbrev other : Named → Named → Bool
other (opcode u) (opcode v) = not (u == v)
other (f3 u) (f3 v) = not (u == v)
other (f5 u) (f5 v) = not (u == v)
other (f6 u) (f6 v) = not (u == v)
other (f7 u) (f7 v) = not (u == v)
other (rs2 u) (rs2 v) = not (u == v)
other (whole u) (whole v) = not (u == v)
other _ _ = false

abbrev apart : Row → Row → Bool
apart r s = list_any (λ m. list_any (other m) s.named) r.named

abbrev all_apart : List Row → Bool
all_apart [] = true
all_apart (r ∷ rs) = list_all (apart r) rs && all_apart rs

both : (a b : Bool) → (a && b) ≡ true → (a ≡ true) × (b ≡ true)
both true b e = (refl, e)
both false b e = absurd (cc)

same_value : (n u v : ℕ) → (n == u) ≡ true → (n == v) ≡ true → not (u == v) ≡ false
same_value n u v p q = grind (arith, nat_tests)

-- one word has one value in a field
other-has : (w : ℕ) (m n : Named) → has w m ≡ true → has w n ≡ true → other m n ≡ false
other-has w (opcode u) (opcode v) p q = same_value _ u v p q
other-has w (f3 u) (f3 v) p q = same_value _ u v p q
other-has w (f5 u) (f5 v) p q = same_value _ u v p q
other-has w (f6 u) (f6 v) p q = same_value _ u v p q
other-has w (f7 u) (f7 v) p q = same_value _ u v p q
other-has w (rs2 u) (rs2 v) p q = same_value _ u v p q
other-has w (whole u) (whole v) p q = same_value _ u v p q
other-has w _ _ p q = refl

none_other : (w : ℕ) (m : Named) (ns : List Named)
    → has w m ≡ true → list_all (has w) ns ≡ true → list_any (other m) ns ≡ false
none_other w m [] p q = refl
none_other w m (n ∷ ns) p q =
    let here = both (has w n) (list_all (has w) ns) q in
    rw (other-has w m n p here.0) (none_other w m ns p here.1)

none_apart : (w : ℕ) (ms ns : List Named)
    → list_all (has w) ms ≡ true → list_all (has w) ns ≡ true
    → list_any (λ m. list_any (other m) ns) ms ≡ false
none_apart w [] ns p q = refl
none_apart w (m ∷ ms) ns p q =
    let here = both (has w m) (list_all (has w) ms) p in
    rw (none_other w m ns here.0 q) (none_apart w ms ns here.1 q)

-- a word that fits a row fits none apart from it
none_fit : (w : ℕ) (r : Row) (rs : List Row)
    → fits w r ≡ true → list_all (apart r) rs ≡ true → length (filter (fits w) rs) ≡ 0
none_fit w r [] p q = refl
none_fit w r (s ∷ rs) p q =
    let here = both (apart r s) (list_all (apart r) rs) q in
    let rest = none_fit w r rs p here.1 in
    let unfit : fits w s ≡ false = unfit_at (fits w s) refl in
    rw unfit rest
  where
    unfit_at : (b : Bool) → fits w s ≡ b → b ≡ false
    unfit_at true e = absurd (let n = none_apart w r.named s.named p e in cc)
    unfit_at false e = refl

one_fits : (w : ℕ) (rs : List Row) → all_apart rs ≡ true → length (filter (fits w) rs) ≤ 1
one_fits w [] q = omega arith
one_fits w (r ∷ rs) q =
    let here = both (list_all (apart r) rs) (all_apart rs) q in
    at (fits w r) refl (one_fits w rs here.1) here.0
  where
    at : (b : Bool) → fits w r ≡ b → length (filter (fits w) rs) ≤ 1 → list_all (apart r) rs ≡ true
        → length (filter (fits w) (r ∷ rs)) ≤ 1
    at true e below away = rw e (let none = none_fit w r rs e away in omega arith)
    at false e below away = rw e below

-- each word fits one row at most
pub one_row : (w : ℕ) → length (filter (fits w) table) ≤ 1
one_row w = one_fits w table refl
