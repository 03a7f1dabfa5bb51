-- Changes that may be noted in a log.
use Rattle.std.specs.Prelude.{◌≡◌, ◌+◌, Bool, true, false, List, [], ◌++◌}
use Rattle.undo_log.specs.declared.note.Note.{Note}
use Rattle.undo_log.specs.Undo.{gone_in, undone}
use Rattle.guest_memory.specs.Kept.{AddressSpace}
use Rattle.guest_memory.specs.Returning.{put_back}

-- where notes are taken, further ones come that lead from the new memory back to the old
pub record Notes (noted : Bool) (before after : List Note) (old new : AddressSpace) : Type 0 where
  pub more : List Note
  pub behind : after ≡ before ++ more
  pub lead : noted ≡ true → undone put_back more new ≡ old
  pub none : noted ≡ false → more ≡ []
  pub spare : new.spare ≡ old.spare + gone_in more
