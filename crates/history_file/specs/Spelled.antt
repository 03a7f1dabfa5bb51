-- What has a spelling as a history file.
use Rattle.std.specs.Prelude.{◌≡◌, ◌++◌, drop, ℕ, zero, suc, ◌^◌, ◌<◌, ◌≤◌, List, [], ◌∷◌, length, FitsSigned}
use Rattle.std.specs.Int.{w64}
use Rattle.guest_words.specs.declared.ending.Ending.{Ending}
use Rattle.guest_words.specs.declared.ending.Ending.TheVariants as ending
use Rattle.guest_words.specs.declared.limits.TheConstants.{BUDGET, FRAMES, HARTS}
use Rattle.guest_words.specs.declared.record.Record.{Record}
use Rattle.run_history.specs.declared.entry.Entry.{Entry, Ran, Entered, Called, Rescued', Ended, Row_of-Entry, end_of-Entry, more_of-Entry}
use Rattle.history_file.specs.declared.head.Head.{Head}
use Rattle.history_file.specs.HistoryBytes.{row_length, history_bytes}

-- from 1 to the greatest number
pub record IsHead (head : Head) : Type 0 where
  pub some_harts : 1 ≤ head.harts
  pub most_harts : head.harts ≤ HARTS
  pub some_budget : 1 ≤ head.budget
  pub most_budget : head.budget ≤ BUDGET

-- at most so many rescued calls are within each other, and every length has 4 bytes
unfoldable mutual
  pub IsShallow : ℕ → Entry → Type 0
  IsShallow room (Ran hart count) = Unit {0}
  IsShallow room (Entered hart point) = Unit {0}
  IsShallow room (Called hart call) = length call.bytes < 2 ^ 32
  IsShallow zero (Rescued' hart point fault shape inside) = ⊥
  IsShallow (suc room) (Rescued' hart point fault shape inside) =
      (row_length inside < 2 ^ 32) × IsShallowRow room inside
  IsShallow room (Ended ending) = Unit {0}

  pub IsShallowRow : ℕ → {m : _} → Row_of-Entry m → Type 0
  IsShallowRow room end_of-Entry = Unit {0}
  IsShallowRow room (more_of-Entry e rest) = IsShallow room e × IsShallowRow room rest

abbrev pub AreShallow : ℕ → List Entry → Type 0
AreShallow room [] = Unit {0}
AreShallow room (e ∷ es) = IsShallow room e × AreShallow room es

-- the numbers of a record have 8 bytes
pub record IsRecord (r : Record) : Type 0 where
  pub port : r.port < 2 ^ 64
  pub asked : r.asked < 2 ^ 64
  pub answer : FitsSigned w64 r.answer

abbrev pub IsEnding : Ending → Type 0
IsEnding (ending.Exit hart code) = Unit {0}
IsEnding (ending.Fault hart fault) = fault.pc < 2 ^ 64
IsEnding ending.Stuck = Unit {0}
IsEnding ending.Budget = Unit {0}

-- the numbers of an entry have 4 or 8 bytes, as the fields of the types have
unfoldable mutual
  pub InRange : Entry → Type 0
  InRange (Ran hart count) = count < 2 ^ 32
  InRange (Entered hart point) = point.entry < 2 ^ 64
  InRange (Called hart call) = IsRecord call
  InRange (Rescued' hart point fault shape inside) =
      (point.entry < 2 ^ 64) × (fault.pc < 2 ^ 64) × InRangeRow inside
  InRange (Ended ending) = IsEnding ending

  pub InRangeRow : {m : _} → Row_of-Entry m → Type 0
  InRangeRow end_of-Entry = Unit {0}
  InRangeRow (more_of-Entry e rest) = InRange e × InRangeRow rest

abbrev pub AreInRange : List Entry → Type 0
AreInRange [] = Unit {0}
AreInRange (e ∷ es) = InRange e × AreInRange es

-- a head and entries that have a spelling
pub record IsSpelled (head : Head) (entries : List Entry) : Type 0 where
  pub is_head : IsHead head
  pub ports : head.ports < 2 ^ 64
  pub few : length entries < 2 ^ 64
  pub shallow : AreShallow FRAMES entries
  pub in_range : AreInRange entries

-- bytes that are the history file of a head and entries
pub record IsHistoryFile (bytes : List ℕ) (head : Head) (entries : List Entry) : Type 0 where
  pub is_spelled : IsSpelled head entries
  pub whole : bytes ≡ history_bytes head entries

-- bytes that begin with it, and its length
pub record BeginsWithHistory (bytes : List ℕ) (head : Head) (entries : List Entry) (size : ℕ)
    : Type 0 where
  pub is_spelled : IsSpelled head entries
  pub front : bytes ≡ history_bytes head entries ++ drop size bytes
  pub is_size : size ≡ length (history_bytes head entries)
