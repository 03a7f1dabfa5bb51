-- Numbers taken once each, in the order in which they come.
use Rattle.std.proofs.Common.{◌≡◌, ℕ, ◌+◌, ◌≤◌, Bool, true, false, not, ◌&&◌, ◌||◌, ◌==◌, nat_eq, List, [], ◌∷◌, ◌++◌, length, take, if◌then◌else◌, cond, refl, sym, ap, ◌∙◌, inl, inr, append_assoc, arith}
use Rattle.std.proofs.lemmas.Bool.{cases_Bool, eq-eqb, ne_eqb}
use Rattle.std.proofs.lemmas.Bool.Decides.{eqb_tells}
use Rattle.std.proofs.lemmas.List.{append-nil, length-append, take_all}
use Rattle.std.proofs.lemmas.List.Folds.{list_any-append}
use Rattle.std.proofs.Math.Seq.{take-append_seam}
use Rattle.std.proofs.Math.Path.{fun_ext}
use Rattle.std.specs.List.{filter, list_any}
use Rattle.rescue_trial.specs.Path.{firsts}

-- a number isn't among these
abbrev pub is_new_in : List ℕ → ℕ → Bool
is_new_in path m = not (list_any (λ e. e == m) path)

-- a path with a number more, if it isn't there
abbrev pub with_once : List ℕ → ℕ → List ℕ
with_once path n = if list_any (λ e. e == n) path then path else path ++ n ∷ []

-- a path, and those of the rest that aren't in it
abbrev pub joined_firsts : List ℕ → List ℕ → List ℕ
joined_firsts path ns = path ++ filter (is_new_in path) (firsts ns)

filter-both : (p q : ℕ → Bool) (ns : List ℕ) → filter q (filter p ns) ≡ filter (λ n. p n && q n) ns
filter-both p q [] = refl
filter-both p q (n ∷ ns) =
    elim (p n) as (λ b. filter q (cond b (n ∷ filter p ns) (filter p ns)) ≡ cond (b && q n) (n ∷ filter (λ n. p n && q n) ns) (filter (λ n. p n && q n) ns)) [
      | true ↦ ap (λ xs. cond (q n) (n ∷ xs) xs) (filter-both p q ns)
      | false ↦ filter-both p q ns
    ]

filter-true : (ns : List ℕ) → filter (λ n. true) ns ≡ ns
filter-true [] = refl
filter-true (n ∷ ns) = ap (λ xs. n ∷ xs) (filter-true ns)

-- two tests that both fail, in either form
neither : (a b : Bool) → (not b && not a) ≡ not (a || (b || false))
neither true true = refl
neither true false = refl
neither false true = refl
neither false false = refl

same-either_way : (m n : ℕ) → nat_eq m n ≡ nat_eq n m
same-either_way m n =
    elim (eqb_tells m n) [
      | inl same ↦ same.0 ∙ sym (eq-eqb n m (sym same.1))
      | inr other ↦ other.0 ∙ sym (ne_eqb n m (λ e. other.1 (sym e)))
    ]

-- not in a path with a number more
new-more : (path : List ℕ) (n m : ℕ) → (not (m == n) && is_new_in path m) ≡ is_new_in (path ++ n ∷ []) m
new-more path n m =
    ap (λ b. not b && is_new_in path m) (same-either_way m n)
    ∙ neither (list_any (λ e. e == m) path) (n == m)
    ∙ sym (ap not (list_any-append (λ e. e == m) path (n ∷ [])))

-- not in a path that has the number
new-among : (path : List ℕ) (n : ℕ) → list_any (λ e. e == n) path ≡ true → (m : ℕ) → (not (m == n) && is_new_in path m) ≡ is_new_in path m
new-among path n among m =
    elim (eqb_tells m n) [
      | inl same ↦ ap (λ b. not b && is_new_in path m) same.0 ∙ sym (ap (is_new_in path) same.1 ∙ ap not among)
      | inr other ↦ ap (λ b. not b && is_new_in path m) other.0
    ]

-- a path with no more to come
pub joined_firsts-none : (ns : List ℕ) → joined_firsts [] ns ≡ firsts ns
joined_firsts-none ns = filter-true (firsts ns)

-- the next number goes to the path, if it isn't there
pub joined_firsts-more : (path ns : List ℕ) (n : ℕ) → joined_firsts path (n ∷ ns) ≡ joined_firsts (with_once path n) ns
joined_firsts-more path ns n =
    let rest = filter (is_new_in path) (filter (λ m. not (m == n)) (firsts ns)) in
    elim (cases_Bool (list_any (λ e. e == n) path)) [
      | inl among ↦ ap (λ b. path ++ cond (not b) (n ∷ rest) rest) among
          ∙ ap (λ ms. path ++ ms) (filter-both (λ m. not (m == n)) (is_new_in path) (firsts ns) ∙ ap (λ p. filter p (firsts ns)) (fun_ext (new-among path n among)))
          ∙ sym (ap (λ b. joined_firsts (cond b path (path ++ n ∷ [])) ns) among)
      | inr other ↦ ap (λ b. path ++ cond (not b) (n ∷ rest) rest) other
          ∙ sym (append_assoc path (n ∷ []) rest)
          ∙ ap (λ ms. (path ++ n ∷ []) ++ ms) (filter-both (λ m. not (m == n)) (is_new_in path) (firsts ns) ∙ ap (λ p. filter p (firsts ns)) (fun_ext (new-more path n)))
          ∙ sym (ap (λ b. joined_firsts (cond b path (path ++ n ∷ [])) ns) other)
    ]

pub length-with_once : (path : List ℕ) (n : ℕ) → length (with_once path n) ≤ length path + 1
length-with_once path n =
    elim (list_any (λ e. e == n) path) as (λ b. length (cond b path (path ++ n ∷ [])) ≤ length path + 1) [
      | true ↦ omega arith
      | false ↦ omega (arith, length-append path (n ∷ []))
    ]

-- a path that is full
pub joined_firsts-full : (path ns : List ℕ) → length path ≡ 64 → take 64 (joined_firsts path ns) ≡ path
joined_firsts-full path ns full =
    ap (λ k. take k (joined_firsts path ns)) (sym full) ∙ take-append_seam path (filter (is_new_in path) (firsts ns))

-- a path behind which nothing comes
pub joined_firsts-all : (path : List ℕ) → length path ≤ 64 → take 64 (joined_firsts path []) ≡ path
joined_firsts-all path few = ap (take 64) (append-nil path) ∙ take_all 64 path few
