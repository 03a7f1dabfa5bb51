-- The first key that a test doesn't pass, among the entries of a table.
use Rattle.std.proofs.Common.{◌≡◌, ℕ, Bool, true, false, List, [], ◌∷◌, Some, String, Global, string_bytes, refl}
use Rattle.std.specs.Prelude.{option_map, find, not, if◌then◌else◌}
use Rattle.std.specs.Map.{keys_of}
use Rattle.toml.specs.View.{members_view}
use Rattle.toml.specs.declared.value.Value.{Value}
use Rattle.config_hints.specs.Keys.{first_other}

pub find-first_other : (test : List ℕ → Bool) (entries : List (String Global × Value))
    → option_map (λ key. string_bytes key) (find (λ key. not (test (string_bytes key))) (keys_of entries)) ≡ first_other test (members_view entries)
find-first_other test [] = refl
find-first_other test (e ∷ es) =
    elim (test (string_bytes e.0)) as (λ b. option_map (λ key. string_bytes key) (if not b then Some e.0 else find (λ key. not (test (string_bytes key))) (keys_of es)) ≡ (if b then first_other test (members_view es) else Some (string_bytes e.0))) [
      | true ↦ find-first_other test es
      | false ↦ refl
    ]
