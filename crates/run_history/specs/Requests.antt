-- What holds of each request that a hart makes of a device.
use Rattle.std.specs.Prelude.{◌≡◌, ◌≢◌, ℕ, ◌≤◌, true}
use Rattle.guest_words.specs.declared.limits.TheConstants.{TRANSFER}
use Rattle.guest_words.specs.declared.record.Way.{Way}
use Rattle.guest_words.specs.declared.record.Way.TheVariants as way
use Rattle.guest_words.specs.Space.{can_read, can_write}
use Rattle.guest_words.specs.State.{State, is_open}

-- the descriptor is of the right direction, and the bytes of a write can be read, those of a read
-- written
abbrev pub IsReached : State → Way → ℕ → ℕ → ℕ → Type 0
IsReached s way.Read fd asked place =
    (fd ≢ 1) × (fd ≢ 2) × (can_write s.memory place asked ≡ true)
IsReached s way.Write fd asked place = (fd ≢ 0) × (can_read s.memory place asked ≡ true)
IsReached s way.Close fd asked place = place ≡ 0

-- a read or a write asks for a byte at least, and a close for none
abbrev pub IsAsked : Way → ℕ → Type 0
IsAsked way.Close asked = asked ≡ 0
IsAsked _ asked = 1 ≤ asked

pub record IsServable (s : State) (w : Way) (fd asked place : ℕ) : Type 0 where
  pub opened : is_open s fd ≡ true
  pub way : IsReached s w fd asked place
  pub some : IsAsked w asked
  pub most : asked ≤ TRANSFER
