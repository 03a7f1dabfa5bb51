-- The bytes of a history file: its head, the number of entries, the entries. Each entry begins with
-- the number of its kind.
use Rattle.std.specs.Prelude.{ℕ, suc, List, [], ◌∷◌, ◌++◌, length, codes}
use Rattle.std.specs.Int.{w64, cast_unsigned}
use Rattle.guest_words.specs.declared.ending.Ending.{Ending}
use Rattle.guest_words.specs.declared.ending.Ending.TheVariants as ending
use Rattle.guest_words.specs.declared.fault.Fault.{Fault as FaultAt}
use Rattle.guest_words.specs.declared.point.PointRef.{PointRef}
use Rattle.guest_words.specs.declared.record.Record.{Record}
use Rattle.guest_words.specs.declared.record.Way.{Way}
use Rattle.guest_words.specs.declared.record.Way.TheVariants as way
use Rattle.guest_words.specs.Names.{order_of}
use Rattle.run_history.specs.declared.entry.Entry.{Entry, Ran, Entered, Called, Rescued', Ended, Row_of-Entry, end_of-Entry, more_of-Entry}
use Rattle.history_file.specs.declared.head.Head.{Head}
use Rattle.history_file.specs.Numbers.{word, double}

abbrev pub way_number : Way → ℕ
way_number way.Read = 0
way_number way.Write = 1
way_number way.Close = 2

-- a fault: the number of its name, and where it was met
unfoldable pub fault_bytes : FaultAt → List ℕ
fault_bytes fault = order_of fault.name ∷ double fault.pc

-- the length of a text, and the text
unfoldable pub text_bytes : List ℕ → List ℕ
text_bytes text = word (length text) ++ text

-- a record: the descriptor, the way, what was asked for, the answer in two's complement, the bytes
unfoldable pub record_bytes : Record → List ℕ
record_bytes r =
    double r.port
    ++ (way_number r.way ∷ double r.asked
    ++ (double (cast_unsigned w64 r.answer) ++ text_bytes r.bytes))

unfoldable pub ending_bytes : Ending → List ℕ
ending_bytes (ending.Exit hart code) = 0 ∷ hart ∷ code ∷ []
ending_bytes (ending.Fault hart fault) = 1 ∷ hart ∷ fault_bytes fault
ending_bytes ending.Stuck = 2 ∷ []
ending_bytes ending.Budget = 3 ∷ []

-- the number of entries of an inside
abbrev pub row_length : {m : _} → Row_of-Entry m → ℕ
row_length end_of-Entry = 0
row_length (more_of-Entry e rest) = suc (row_length rest)

-- what stands before the entries of an inside
unfoldable pub rescue_bytes : ℕ → PointRef → FaultAt → ℕ → List ℕ
rescue_bytes hart point fault count =
    hart ∷ double point.entry ++ (fault_bytes fault ++ word count)

unfoldable mutual
  pub entry_bytes : Entry → List ℕ
  entry_bytes (Ran hart count) = 1 ∷ hart ∷ word count
  entry_bytes (Entered hart point) = 2 ∷ hart ∷ double point.entry
  entry_bytes (Called hart call) = 3 ∷ hart ∷ record_bytes call
  entry_bytes (Rescued' hart point fault shape inside) =
      4 ∷ rescue_bytes hart point fault (row_length inside) ++ row_bytes inside
  entry_bytes (Ended ending) = 5 ∷ ending_bytes ending

  pub row_bytes : {m : _} → Row_of-Entry m → List ℕ
  row_bytes end_of-Entry = []
  row_bytes (more_of-Entry e rest) = entry_bytes e ++ row_bytes rest

abbrev pub entries_bytes : List Entry → List ℕ
entries_bytes [] = []
entries_bytes (e ∷ es) = entry_bytes e ++ entries_bytes es

-- a rescued call, by the list of its inside
abbrev pub rescued_bytes : ℕ → PointRef → FaultAt → List Entry → List ℕ
rescued_bytes hart point fault inside =
    4 ∷ rescue_bytes hart point fault (length inside) ++ entries_bytes inside

-- the letters that every history file begins with
abbrev pub magic : List ℕ
magic = codes "rescueh1"

-- the head: what the file is, the number of harts, that of ports, the budget
unfoldable pub head_bytes : Head → List ℕ
head_bytes head = magic ++ head.harts ∷ double head.ports ++ double head.budget

unfoldable pub history_bytes : Head → List Entry → List ℕ
history_bytes head entries = head_bytes head ++ double (length entries) ++ entries_bytes entries
