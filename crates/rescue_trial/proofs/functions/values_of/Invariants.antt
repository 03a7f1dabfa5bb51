use Rattle.std.proofs.Common.{◌≡◌, ℕ, ◌==◌, nat_eq, take}
use Rattle.std.specs.HashSet.{contains_by}
use Rattle.std.specs.List.{list_any}
use Rattle.rescue_trial.proofs.functions.values_of.Given as goal

abbrev pub invariant-loop-symbol : goal.invariant-loop-symbol
invariant-loop-symbol l =
    (a : ℕ) → contains_by (λ v. nat_eq a v) l.values ≡ list_any (λ s. s.value == a) (take l.symbol-index l.symbols)
