-- A format as a list of rules that are tried in order: the first broken one names the fault.
use Rattle.std.specs.Prelude.{ℕ, Bool, false, List, [], ◌∷◌, Option, Some, None, if◌then◌else◌, ◌≡◌}

-- whether a file breaks a rule, and the fault with its offset if it does
pub record Rule (F : Type 0) : Type 0 where
  pub broken : Bool
  pub fault : F
  pub offset : ℕ

abbrev pub rule : {F : Type 0} → Bool → F → ℕ → Rule F
rule broken fault offset = record { broken = broken; fault = fault; offset = offset }

-- the first rule that is broken
abbrev pub first_broken : {F : Type 0} → List (Rule F) → Option (F × ℕ)
first_broken [] = None
first_broken (r ∷ rs) = (if r.broken then Some (r.fault, r.offset) else first_broken rs)

abbrev pub IsKept : {F : Type 0} → Rule F → Type 0
IsKept r = r.broken ≡ false
