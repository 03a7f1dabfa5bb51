-- A hart lent to be changed in place.
use Rattle.std.specs.Prelude.{ℕ, List, slice_set}
use Rattle.std.specs.Borrow.{Lends, MutBor, Fml}
use Rattle.guest_words.specs.declared.hart.Hart.{Hart}
use Rattle.guest_words.specs.contracts.hart.Hart as hart
use Rattle.guest_atomics.specs.contracts.harts.Harts as harts

-- the harts end with the one in a slot as the borrower left it
abbrev pub LendsHart : MutBor (List Hart) → ℕ → MutBor Hart → Fml
LendsHart all slot lent = Lends harts.the_row hart.the_row all lent (slice_set all.now slot)
