use Rattle.guest_words.specs.declared.limits.TheConstants.{FRAMES}
use Rattle.history_file.proofs.spelling.spell.Goals as goal

pub put_entries-requires : goal.put_entries-requires
put_entries-requires c = (FRAMES, rw c.items-entries.ensures.list c.requires.shallow)
