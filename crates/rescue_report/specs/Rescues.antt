-- The rescued calls of a history, those of all insides included.
use Rattle.std.specs.Prelude.{ℕ, ◌+◌, List, [], ◌∷◌, ◌++◌, length}
use Rattle.guest_words.specs.declared.point.PointRef.{PointRef}
use Rattle.guest_words.specs.declared.fault.Fault.{Fault}
use Rattle.guest_words.specs.declared.point.Point.{Point}
use Rattle.guest_words.specs.Points.{code_of}
use Rattle.run_history.specs.declared.entry.Entry.{Entry, Ran, Entered, Called, Rescued', Ended, Row_of-Entry, end_of-Entry, more_of-Entry}
use Rattle.run_history.specs.Counts.{steps_of_row, steps_of_all, records_of_row, records_of_all}
use Rattle.rescue_report.specs.Lines.{rescue_line}

-- how many rescued calls an entry holds, itself included
unfoldable mutual
  pub rescues_of : Entry → ℕ
  rescues_of (Ran hart count) = 0
  rescues_of (Entered hart point) = 0
  rescues_of (Called hart call) = 0
  rescues_of (Rescued' hart point fault shape inside) = rescues_of_row inside + 1
  rescues_of (Ended ending) = 0

  pub rescues_of_row : {m : _} → Row_of-Entry m → ℕ
  rescues_of_row end_of-Entry = 0
  rescues_of_row (more_of-Entry e rest) = rescues_of e + rescues_of_row rest

abbrev pub rescues_of_all : List Entry → ℕ
rescues_of_all [] = 0
rescues_of_all (e ∷ es) = rescues_of e + rescues_of_all es

-- the line of each rescued call of an entry that lies at a depth, followed by those of its inside,
-- one deeper; what it returned is by these points
unfoldable mutual
  pub rescue_lines : List Point → Entry → ℕ → List ℕ
  rescue_lines points (Ran hart count) depth = []
  rescue_lines points (Entered hart point) depth = []
  rescue_lines points (Called hart call) depth = []
  rescue_lines points (Rescued' hart point fault shape inside) depth =
      rescue_line depth hart point fault (steps_of_row inside) (length (records_of_row inside))
      (code_of points point.entry fault.name)
      ++ rescue_lines_of_row points inside (depth + 1)
  rescue_lines points (Ended ending) depth = []

  pub rescue_lines_of_row : List Point → {m : _} → Row_of-Entry m → ℕ → List ℕ
  rescue_lines_of_row points end_of-Entry depth = []
  rescue_lines_of_row points (more_of-Entry e rest) depth =
      rescue_lines points e depth ++ rescue_lines_of_row points rest depth

abbrev pub rescue_lines_of_all : List Point → List Entry → ℕ → List ℕ
rescue_lines_of_all points [] depth = []
rescue_lines_of_all points (e ∷ es) depth =
    rescue_lines points e depth ++ rescue_lines_of_all points es depth

-- the lines of a rescued call, by the list of its inside
abbrev pub rescued_lines : List Point → ℕ → PointRef → Fault → List Entry → ℕ → List ℕ
rescued_lines points hart point fault inside depth =
    rescue_line depth hart point fault (steps_of_all inside) (length (records_of_all inside))
    (code_of points point.entry fault.name)
    ++ rescue_lines_of_all points inside (depth + 1)
