-- Harts without a reservation.
use Rattle.std.specs.Prelude.{◌≡◌, ◌≢◌, ◌<◌, ℕ, List, None, length, slice_index_or}
use Rattle.guest_words.specs.declared.hart.Hart.{Hart}

abbrev pub IsFree : Hart → Type 0
IsFree hart = hart.reservation ≡ None

-- the hart in a slot, if there is one, is without a reservation
abbrev pub IsFreeAt : ℕ → List Hart → Type 0
IsFreeAt slot harts = (d : Hart) → slot < length harts → IsFree (slice_index_or harts slot d)

-- so is each but, maybe, the one in a slot
abbrev pub IsFreeBut : ℕ → List Hart → Type 0
IsFreeBut slot harts = (other : ℕ) → other ≢ slot → IsFreeAt other harts
