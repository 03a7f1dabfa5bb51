use Rattle.std.proofs.Common.{◌≡◌, ℕ, ◌++◌, drop}
use Rattle.history_file.specs.HistoryBytes.{entries_bytes}
use Rattle.history_file.specs.Spelled.{AreShallow, AreInRange}
use Rattle.history_file.proofs.spelling.+puts.Given as goal

abbrev pub invariant-put_entries-loop-entry : goal.invariant-put_entries-loop-entry
invariant-put_entries-loop-entry l =
    record {
      bytes : l.out.items ++ entries_bytes (drop l.entry-index l.fn.entries) ≡ l.fn.out.items ++ entries_bytes l.fn.entries;
      range : AreInRange (drop l.entry-index l.fn.entries) → AreInRange l.fn.entries;
      shallow : (room : ℕ) × AreShallow room (drop l.entry-index l.fn.entries);
    }
