-- Pages that may be executed.
use Rattle.std.specs.Prelude.{◌≡◌, ℕ, ◌+◌, ◌%◌, ◌^◌, ◌<◌, ◌≤◌, false}
use Rattle.std.specs.FinMap as map
use Rattle.guest_words.specs.declared.limits.TheConstants.{PAGE}
use Rattle.guest_words.specs.Space.{Space, has_right}

-- a byte may not be executed
abbrev pub IsBare : Space → ℕ → Type 0
IsBare m address = has_right (λ rights. rights.exec) (map.get m address) ≡ false

-- nothing from an address on may be executed
abbrev pub HasNoTextFrom : Space → ℕ → Type 0
HasNoTextFrom m address = (a : ℕ) → address ≤ a → IsBare m a

-- a page from an address on, before which nothing from there may be executed
pub record IsNextText (m : Space) (address page : ℕ) : Type 0 where
  pub past : address ≤ page
  pub aligned : page % PAGE ≡ 0
  pub below : page + PAGE < 2 ^ 64
  pub first : (a : ℕ) → address ≤ a → a < page → IsBare m a
