-- What a check of rules answers.
use Rattle.std.specs.Prelude.{◌≡◌, ℕ, Option, Some, None, Result, MatchResult}

-- a check is Ok where no rule is broken, and else answers the first broken one
abbrev pub Tells : {T F : Type 0} → Result T (F × ℕ) → Option (F × ℕ) → Type 0
Tells result broken = MatchResult result (λ _. broken ≡ None) (λ fault. broken ≡ Some fault)
