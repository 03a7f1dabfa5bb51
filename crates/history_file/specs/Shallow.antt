-- When a rescued call has a spelling, by the list of its inside.
use Rattle.std.specs.Prelude.{ℕ, ◌-◌, ◌^◌, ◌<◌, List, length}
use Rattle.run_history.specs.declared.entry.Entry.{Entry}
use Rattle.history_file.specs.Spelled.{AreShallow}

-- so many may be within each other, and the entries can be counted in 4 bytes
abbrev pub IsShallowInside : ℕ → List Entry → Type 0
IsShallowInside room inside =
    (0 < room) × (length inside < 2 ^ 32) × AreShallow (room - 1) inside
