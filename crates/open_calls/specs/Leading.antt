-- What the notes of open calls suffice for.
use Rattle.std.specs.Prelude.{ℕ, ◌==◌, if◌then◌else◌, List, [], ◌∷◌, length}
use Rattle.guest_words.specs.State.{State}
use Rattle.guest_memory.specs.Kept.{AddressSpace}
use Rattle.guest_memory.specs.Returning.{put_back}
use Rattle.undo_log.specs.declared.note.Note.{Note}
use Rattle.undo_log.specs.Undo.{undone}
use Rattle.run_history.specs.declared.entry.Entry.{Entry}
use Rattle.run_history.specs.After.{state_after}
use Rattle.open_calls.specs.Nest.{Level, Nest, flat_from, notes_upto}
use Rattle.open_calls.specs.Stacked.{IsSpaceOf}

abbrev pub before_from : ℕ → ℕ → List Level → List Entry
before_from h frame [] = []
before_from h frame (o ∷ os) =
    if frame == length os then flat_from h os o.entries else before_from h frame os

-- the history before the call that so many enclose, the entries of open calls as plain ones
abbrev pub history_before : ℕ → ℕ → Nest → List Entry
history_before h frame n = before_from h frame n.outers

abbrev pub led_from : ℕ → List Level → ℕ → List Note → AddressSpace → AddressSpace
led_from frame [] end ns m = m
led_from frame (o ∷ os) end ns m =
    let before = undone put_back (notes_upto end o ns) m in
    if frame == length os then before else led_from frame os o.mark ns before

-- memory with the notes of the innermost call put back, then those of the next further out, and so
-- on, and those of the call that so many enclose at last
abbrev pub led_back : ℕ → List Note → Nest → AddressSpace → AddressSpace
led_back frame ns n m = led_from frame n.outers (length ns) ns m

-- from the memory of a state this leads to the memory of the state in which that call was entered
abbrev pub LeadsBack : State → ℕ → ℕ → List Note → Nest → State → Type 0
LeadsBack start h frame ns n s =
    (m : AddressSpace)
    → IsSpaceOf m s
    → IsSpaceOf (led_back frame ns n m) (state_after start (history_before h frame n))
