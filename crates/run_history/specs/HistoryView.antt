-- What contracts see of a history.
use Rattle.std.specs.Prelude.{ℕ, List}
use Rattle.run_history.specs.declared.entry.Entry.{Entry}

-- the entries, the oldest first, and the room for more
pub record HistoryView : Type 0 where
  pub entries : List Entry
  pub spare : ℕ
