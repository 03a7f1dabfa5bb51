-- Numbers and records of a history, those of all insides included.
use Rattle.std.specs.Prelude.{ℕ, ◌+◌, List, [], ◌∷◌, ◌++◌}
use Rattle.guest_words.specs.declared.record.Record.{Record}
use Rattle.run_history.specs.declared.entry.Entry.{Entry, Ran, Entered, Called, Rescued', Ended, Row_of-Entry, end_of-Entry, more_of-Entry}

-- the entries of an entry, itself included
unfoldable mutual
  pub size_of : Entry → ℕ
  size_of (Ran hart count) = 1
  size_of (Entered hart point) = 1
  size_of (Called hart call) = 1
  size_of (Rescued' hart point fault shape inside) = size_of_row inside + 1
  size_of (Ended ending) = 1

  pub size_of_row : {m : _} → Row_of-Entry m → ℕ
  size_of_row end_of-Entry = 0
  size_of_row (more_of-Entry e rest) = size_of e + size_of_row rest

abbrev pub size_of_all : List Entry → ℕ
size_of_all [] = 0
size_of_all (e ∷ es) = size_of e + size_of_all es

-- the instructions of an entry, and one for each call on a device
unfoldable mutual
  pub steps_of : Entry → ℕ
  steps_of (Ran hart count) = count
  steps_of (Entered hart point) = 0
  steps_of (Called hart call) = 1
  steps_of (Rescued' hart point fault shape inside) = steps_of_row inside
  steps_of (Ended ending) = 0

  pub steps_of_row : {m : _} → Row_of-Entry m → ℕ
  steps_of_row end_of-Entry = 0
  steps_of_row (more_of-Entry e rest) = steps_of e + steps_of_row rest

abbrev pub steps_of_all : List Entry → ℕ
steps_of_all [] = 0
steps_of_all (e ∷ es) = steps_of e + steps_of_all es

-- the records of an entry, in order
unfoldable mutual
  pub records_of : Entry → List Record
  records_of (Ran hart count) = []
  records_of (Entered hart point) = []
  records_of (Called hart call) = call ∷ []
  records_of (Rescued' hart point fault shape inside) = records_of_row inside
  records_of (Ended ending) = []

  pub records_of_row : {m : _} → Row_of-Entry m → List Record
  records_of_row end_of-Entry = []
  records_of_row (more_of-Entry e rest) = records_of e ++ records_of_row rest

abbrev pub records_of_all : List Entry → List Record
records_of_all [] = []
records_of_all (e ∷ es) = records_of e ++ records_of_all es
