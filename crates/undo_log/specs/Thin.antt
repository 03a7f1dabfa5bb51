-- Notes that can go, since what they put back is overwritten when an earlier note is put back.
use Rattle.std.specs.Prelude.{ℕ, Bool, false, not, ◌==◌, ◌&&◌, ◌||◌, if◌then◌else◌, List, [], ◌∷◌}
use Rattle.guest_words.specs.Widths.{bytes_in}
use Rattle.undo_log.specs.declared.note.Note.{Note}
use Rattle.undo_log.specs.declared.note.Note.TheVariants.{Bytes}

-- whether so many bytes at an address were noted before, with only notes of bytes since; of the
-- notes before, the newest comes first
abbrev pub is_noted : List Note → ℕ → ℕ → Bool
is_noted [] address size = false
is_noted (Bytes other width old ∷ older) address size =
    (other == address && bytes_in width == size) || is_noted older address size
is_noted (_ ∷ older) address size = false

-- whether an earlier note of the very same bytes, with only notes of bytes between, overwrites what
-- a note puts back
abbrev pub is_covered : List Note → Note → Bool
is_covered before (Bytes address width old) = is_noted before address (bytes_in width)
is_covered before _ = false

-- the notes that no earlier one covers
abbrev pub uncovered : List Note → List Note → List Note
uncovered before [] = []
uncovered before (note ∷ later) =
    if is_covered before note then uncovered (note ∷ before) later
    else note ∷ uncovered (note ∷ before) later

-- of each note, whether no earlier one covers it
abbrev pub are_uncovered : List Note → List Note → List Bool
are_uncovered before [] = []
are_uncovered before (note ∷ later) =
    not (is_covered before note) ∷ are_uncovered (note ∷ before) later

-- those notes that are marked
abbrev pub marked : List Bool → List Note → List Note
marked [] notes = []
marked (mark ∷ marks) [] = []
marked (mark ∷ marks) (note ∷ notes) = if mark then note ∷ marked marks notes else marked marks notes
