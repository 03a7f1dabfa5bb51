-- A hart lent from its slot, to be changed in place.
use Rattle.std.specs.Prelude.{ℕ, List}
use Rattle.std.specs.Borrow.{Lends, MutBor, Fml}
use Rattle.guest_words.specs.declared.hart.Hart.{Hart}
use Rattle.guest_words.specs.declared.hart.Slot.{Slot}
use Rattle.guest_words.specs.State.{changed, on_hart}
use Rattle.guest_words.specs.contracts.hart.Hart as hart
use Rattle.hart_slots.specs.contracts.slots.Slots as slots

-- the slots end with the hart in one of them as the borrower left it
abbrev pub LendsHart : MutBor (List Slot) → ℕ → MutBor Hart → Fml
LendsHart all h lent =
    Lends slots.the_row hart.the_row all lent (λ hart. changed (on_hart (λ before. hart)) h all.now)
