-- The slots of the harts that wait.
use Rattle.std.specs.Prelude.{◌≡◌, ◌<◌, ◌≤◌, ℕ, Bool, false, List, length, map, take, nat_eq, slice_index_or}
use Rattle.std.specs.List.{All, IsDistinct, list_any}
use Rattle.guest_words.specs.declared.hart.Waiter.{Waiter}
use Rattle.guest_words.specs.declared.limits.TheConstants.{HARTS}

abbrev pub slots_of : List Waiter → List ℕ
slots_of waiting = map (λ waiter. waiter.slot) waiting

-- the hart in a slot waits
abbrev pub has_slot : ℕ → List Waiter → Bool
has_slot slot waiting = list_any (nat_eq slot) (slots_of waiting)

-- each waiter has a slot of its own
pub record HasOwnSlots (waiting : List Waiter) : Type 0 where
  pub below : All (λ waiter. waiter.slot < HARTS) waiting
  pub distinct : IsDistinct nat_eq (slots_of waiting)

-- the flags are true exactly at the slots of these waiters
abbrev pub MarksSlots : List Bool → List Waiter → Type 0
MarksSlots flags waiting = (slot : ℕ) → slice_index_or flags slot false ≡ has_slot slot waiting

-- of the places of a queue the first so many are taken
pub record IsTaken (places : List Waiter) (count : ℕ) : Type 0 where
  pub size : length places ≡ HARTS
  pub within : count ≤ HARTS
  pub own : HasOwnSlots (take count places)
