use Rattle.std.proofs.Common.{◌+◌, ◌≡◌, ◌-◌, ◌*◌}
use Rattle.history_file.specs.Reading.{entries_by, entry_at}
use Rattle.history_file.proofs.Loop.{with_front}
use Rattle.history_file.proofs.entries.+entries.Given as goal

abbrev pub decreases-entries_at : goal.decreases-entries_at
decreases-entries_at l = 3 * l.room + 2

abbrev pub decreases-entry_at : goal.decreases-entry_at
decreases-entry_at l = 3 * l.room + 1

abbrev pub decreases-rescued_at : goal.decreases-rescued_at
decreases-rescued_at l = 3 * l.room + 3

abbrev pub invariant-entries_at-loop : goal.invariant-entries_at-loop
invariant-entries_at-loop l =
    with_front l.entries.items (entries_by (entry_at l.room) (l.count - l.counter) l.rest) ≡ entries_by (entry_at l.room) l.count l.bytes
