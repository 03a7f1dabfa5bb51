use Rattle.std.proofs.Common.{◌≡◌, ◌+◌, drop, length}
use Rattle.history_file.specs.HistoryBytes.{entries_bytes}
use Rattle.history_file.proofs.size.+sizes.Given as goal

abbrev pub invariant-size_of_all-loop-entry : goal.invariant-size_of_all-loop-entry
invariant-size_of_all-loop-entry l = l.size + length (entries_bytes (drop l.entry-index l.entries)) ≡ length (entries_bytes l.entries)
