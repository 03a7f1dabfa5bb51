-- Which hart a word chooses.
use Rattle.std.specs.Prelude.{ℕ, ◌+◌, ◌%◌, if◌then◌else◌, List, [], ◌∷◌, length, Option, slice_get}
use Rattle.guest_words.specs.declared.hart.Slot.{Slot}
use Rattle.guest_words.specs.Harts.{is_ready}
use Rattle.guest_words.specs.State.{State}

-- the numbers of the ready slots in order, where the first slot has this number
unfoldable pub ready_from : ℕ → List Slot → List ℕ
ready_from h [] = []
ready_from h (slot ∷ slots) =
    if is_ready slot.hart.state then h ∷ ready_from (h + 1) slots else ready_from (h + 1) slots

abbrev pub ready_slots : State → List ℕ
ready_slots s = ready_from 0 s.slots

-- of the k ready slots in order, the one at place w mod k; none where none is ready
abbrev pub chosen : State → ℕ → Option ℕ
chosen s w = slice_get (ready_slots s) (w % length (ready_slots s))
