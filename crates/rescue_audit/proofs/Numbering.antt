-- The number of the first rule that is broken.
use Rattle.std.proofs.Common.{◌≡◌, ℕ, ◌+◌, Bool, true, false, List, ◌∷◌, Option, Some, None, refl, ap, sym, ◌∙◌, arith}
use Rattle.std.specs.Prelude.{option_map}
use Rattle.rescue_audit.specs.Matches.{first_broken}

abbrev pub numbered : ℕ → Option ℕ → Option ℕ
numbered n o = option_map (λ k. k + n) o

once_more : (n : ℕ) (o : Option ℕ) → numbered n (option_map (λ k. k + 1) o) ≡ numbered (n + 1) o
once_more n None = refl
once_more n (Some k) = ap Some (omega arith)

both_kept : (n : ℕ) (rules : List Bool) → numbered n (first_broken (true ∷ true ∷ rules)) ≡ numbered (n + 1 + 1) (first_broken rules)
both_kept n rules =
    once_more n (option_map (λ k. k + 1) (first_broken rules)) ∙ once_more (n + 1) (first_broken rules)

pub two_kept : (n : ℕ) (a b : Bool) (rules : List Bool) → a ≡ true → b ≡ true → numbered n (first_broken (a ∷ b ∷ rules)) ≡ numbered (n + 1 + 1) (first_broken rules)
two_kept n a b rules is also =
    ap (λ (t : Bool). numbered n (first_broken (t ∷ b ∷ rules))) is
    ∙ ap (λ (t : Bool). numbered n (first_broken (true ∷ t ∷ rules))) also
    ∙ both_kept n rules

at_first : (n : ℕ) (b : Bool) (rules : List Bool) → numbered n (first_broken (false ∷ b ∷ rules)) ≡ Some n
at_first n b rules = ap Some (omega arith)

pub first_is : (n : ℕ) (a b : Bool) (rules : List Bool) → a ≡ false → numbered n (first_broken (a ∷ b ∷ rules)) ≡ Some n
first_is n a b rules is = ap (λ (t : Bool). numbered n (first_broken (t ∷ b ∷ rules))) is ∙ at_first n b rules

at_second : (n : ℕ) (rules : List Bool) → numbered n (first_broken (true ∷ false ∷ rules)) ≡ Some (n + 1)
at_second n rules = ap Some (omega arith)

pub second_is : (n : ℕ) (a b : Bool) (rules : List Bool) → a ≡ true → b ≡ false → numbered n (first_broken (a ∷ b ∷ rules)) ≡ Some (n + 1)
second_is n a b rules is also =
    ap (λ (t : Bool). numbered n (first_broken (t ∷ b ∷ rules))) is
    ∙ ap (λ (t : Bool). numbered n (first_broken (true ∷ t ∷ rules))) also
    ∙ at_second n rules
