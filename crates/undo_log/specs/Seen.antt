-- What a set of places knows of notes.
use Rattle.std.specs.Prelude.{◌≡◌, ℕ, ◌==◌, ◌&&◌, List}
use Rattle.std.specs.List.{list_any}
use Rattle.undo_log.specs.declared.note.Note.{Note}
use Rattle.undo_log.specs.declared.seen.Seen.{Seen}
use Rattle.undo_log.specs.Thin.{is_noted}

-- it has the places that were noted with only notes of bytes since, and no other
abbrev pub Knows : Seen → List Note → Type 0
Knows seen before =
    (address size : ℕ)
    → list_any (λ place. address == place.address && size == place.size) seen.places.keys
    ≡ is_noted before address size
