-- Slots from which on harts are not ready, or empty, and what harts know of themselves.
use Rattle.std.specs.Prelude.{◌≡◌, ◌<◌, ◌≤◌, ℕ, Bool, List, false, length, slice_index_or}
use Rattle.guest_words.specs.declared.hart.Hart.{Hart}
use Rattle.guest_words.specs.Harts.{is_ready}
use Rattle.guest_words.specs.Start.{empty_hart}
use Rattle.guest_atomics.specs.Free.{IsFreeBut}

-- no hart is ready from a slot on
abbrev pub IsIdleFrom : ℕ → List Hart → Type 0
IsIdleFrom end harts =
    (slot : ℕ) (d : Hart) → end ≤ slot → slot < length harts
    → is_ready (slice_index_or harts slot d).state ≡ false

-- all slots are empty from one on
abbrev pub IsEmptyFrom : ℕ → List Hart → Type 0
IsEmptyFrom end harts =
    (slot : ℕ) (d : Hart) → end ≤ slot → slot < length harts
    → slice_index_or harts slot d ≡ empty_hart

-- whether others than the hart lent last may have a reservation, and up to where slots were used
pub record IsKnown (harts : List Hart) (lent : ℕ) (others : Bool) (used : ℕ) : Type 0 where
  pub free : others ≡ false → IsFreeBut lent harts
  pub empty : IsEmptyFrom used harts
  pub within : lent < used
