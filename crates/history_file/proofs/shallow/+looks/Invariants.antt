use Rattle.std.proofs.Common.{◌↔◌, drop}
use Rattle.history_file.specs.Spelled.{AreShallow}
use Rattle.history_file.proofs.shallow.+looks.Given as goal

abbrev pub invariant-are_shallow-loop-entry : goal.invariant-are_shallow-loop-entry
invariant-are_shallow-loop-entry l = AreShallow l.room l.fn.entries ↔ AreShallow l.room (drop l.entry-index l.fn.entries)
