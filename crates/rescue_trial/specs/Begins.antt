-- Where functions begin, as a table of them has it.
use Rattle.std.specs.Prelude.{ℕ, Bool, ◌&&◌, nat_eq}
use Rattle.std.specs.HashSet.{contains_by}
use Rattle.rescue_trial.specs.declared.functions.Functions.{Functions}
use Rattle.rescue_trial.specs.Path.{is_in_text}

-- a function of the table begins at an address
abbrev pub begins : Functions → ℕ → Bool
begins f address = is_in_text f.loads.now address && contains_by (λ v. nat_eq address v) f.values
