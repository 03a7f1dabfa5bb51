-- Reading a history file from the front. What is read of the bytes is a value and the bytes after
-- it, or the first fault and how many bytes there are from its place on.
use Rattle.std.specs.Prelude.{◌≡◌, ℕ, zero, suc, ◌==◌, ◌-◌, ◌&&◌, List, [], ◌∷◌, length, take, drop, Option, Some, None, Result, Ok, Err, slice_get, nat_eq, nat_lt, nat_le, if◌then◌else◌}
use Rattle.std.specs.Int.{Width, w32, w64, byte_len, from_le_bytes, cast_signed}
use lib.Pointwise.{pointwise}
use Rattle.guest_words.specs.declared.ending.Ending.{Ending}
use Rattle.guest_words.specs.declared.ending.Ending.TheVariants as ending
use Rattle.guest_words.specs.declared.fault.Fault.{Fault as FaultAt}
use Rattle.guest_words.specs.declared.fault.FaultName.{FaultName}
use Rattle.guest_words.specs.declared.limits.TheConstants.{BUDGET, FRAMES, HARTS}
use Rattle.guest_words.specs.declared.record.Record.{Record}
use Rattle.guest_words.specs.declared.record.Way.{Way}
use Rattle.run_history.specs.declared.entry.Entry.{Entry, Ran, Entered, Called, Ended}
use Rattle.run_history.specs.declared.entry.Entry.TheViews as view
use Rattle.run_history.specs.HistoryView.{HistoryView}
use Rattle.history_file.specs.declared.file_fault.FileKind.{FileKind}
use Rattle.history_file.specs.declared.file_fault.FileKind.TheVariants.{Magic, Short, Tag, Value, Deep, Rest}
use Rattle.history_file.specs.declared.file_fault.FileFault.{FileFault}
use Rattle.history_file.specs.declared.file_fault.FileFault.TheVariants as file
use Rattle.history_file.specs.declared.refused.Refused.{Refused}
use Rattle.history_file.specs.declared.refused.Refused.TheVariants as refused
use Rattle.history_file.specs.declared.head.Head.{Head}
use Rattle.history_file.specs.HistoryBytes.{magic}
use Rattle.history_file.specs.declared.values.TheConstants.{NAMES, WAYS}

-- ---- reading

abbrev pub Front : Type 0 → Type 0
Front A = Result (A × List ℕ) (FileKind × ℕ)

infixl 10 ◌>>=◌
abbrev pub ◌>>=◌ : {A B : Type 0}
    → Result A (FileKind × ℕ) → (A → Result B (FileKind × ℕ)) → Result B (FileKind × ℕ)
(Ok x) >>= f = f x
(Err e) >>= f = Err e

-- a fault at the place from which these bytes stand
abbrev pub broken : {A : Type 0} → FileKind → List ℕ → Front A
broken fault bytes = Err (fault, length bytes)

-- what a function answered, seen by a view, is what reading gives, unless memory was wanting
abbrev pub Fails : {Y : Type 0} → Refused → Result Y (FileKind × ℕ) → Type 0
Fails refused.Memory read = Unit {0}
Fails (refused.At fault left) read = read ≡ Err (fault, left)

abbrev pub Gives : {X Y : Type 0}
    → (X → Y) → Result X Refused → Result Y (FileKind × ℕ) → Type 0
Gives seen (Ok x) read = read ≡ Ok (seen x)
Gives seen (Err e) read = Fails e read

-- ---- fields

unfoldable pub byte_at : List ℕ → Front ℕ
byte_at [] = broken Short []
byte_at (b ∷ rest) = Ok (b, rest)

abbrev pub number_at : Width → List ℕ → Front ℕ
number_at w bytes =
    if nat_lt (length bytes) (byte_len w)
    then broken Short bytes
    else Ok (from_le_bytes w (take (byte_len w) bytes), drop (byte_len w) bytes)

unfoldable pub word_at : List ℕ → Front ℕ
word_at bytes = number_at w32 bytes

unfoldable pub double_at : List ℕ → Front ℕ
double_at bytes = number_at w64 bytes

-- the length of a text, and the text
unfoldable pub text_at : List ℕ → Front (List ℕ)
text_at bytes = do
  count ← word_at bytes
  if nat_lt (length count.1) count.0
      then broken Short count.1
      else Ok (take count.0 count.1, drop count.0 count.1)

-- what the field at a place stands for, if for anything
abbrev pub meant : {A : Type 0} → Option A → List ℕ → List ℕ → Front A
meant None place rest = broken Value place
meant (Some x) place rest = Ok (x, rest)

-- a number within bounds
abbrev pub within : ℕ → ℕ → ℕ → Option ℕ
within least most n = if nat_le least n && nat_le n most then Some n else None

unfoldable pub way_at : List ℕ → Front Way
way_at bytes = do
  n ← byte_at bytes
  meant (slice_get WAYS n.0) bytes n.1

unfoldable pub name_at : List ℕ → Front FaultName
name_at bytes = do
  n ← byte_at bytes
  meant (slice_get NAMES n.0) bytes n.1

unfoldable pub fault_at : List ℕ → Front FaultAt
fault_at bytes = do
  name ← name_at bytes
  pc ← double_at name.1
  Ok (record { name = name.0; pc = pc.0 }, pc.1)

unfoldable pub record_at : List ℕ → Front Record
record_at bytes = do
  port ← double_at bytes
  way ← way_at port.1
  asked ← double_at way.1
  answer ← double_at asked.1
  text ← text_at answer.1
  Ok (
    record {
      port = port.0;
      way = way.0;
      asked = asked.0;
      answer = cast_signed w64 answer.0;
      bytes = text.0;
    },
    text.1,
  )

-- ---- entries, behind the number of their kind

unfoldable pub ran_at : List ℕ → Front Entry
ran_at bytes = do
  hart ← byte_at bytes
  count ← word_at hart.1
  Ok (Ran hart.0 count.0, count.1)

unfoldable pub entered_at : List ℕ → Front Entry
entered_at bytes = do
  hart ← byte_at bytes
  entry ← double_at hart.1
  Ok (Entered hart.0 (record { entry = entry.0 }), entry.1)

unfoldable pub called_at : List ℕ → Front Entry
called_at bytes = do
  hart ← byte_at bytes
  call ← record_at hart.1
  Ok (Called hart.0 call.0, call.1)

unfoldable pub exit_at : List ℕ → Front Ending
exit_at bytes = do
  hart ← byte_at bytes
  code ← byte_at hart.1
  Ok (ending.Exit hart.0 code.0, code.1)

unfoldable pub fatal_at : List ℕ → Front Ending
fatal_at bytes = do
  hart ← byte_at bytes
  fault ← fault_at hart.1
  Ok (ending.Fault hart.0 fault.0, fault.1)

-- an ending of this kind, whose number stands at a place
unfoldable pub ending_of : ℕ → List ℕ → List ℕ → Front Ending
ending_of zero place rest = exit_at rest
ending_of (suc zero) place rest = fatal_at rest
ending_of (suc (suc zero)) place rest = Ok (ending.Stuck, rest)
ending_of (suc (suc (suc zero))) place rest = Ok (ending.Budget, rest)
ending_of (suc (suc (suc (suc n)))) place rest = broken Value place

unfoldable pub ended_at : List ℕ → Front Entry
ended_at bytes = do
  kind ← byte_at bytes
  ending ← ending_of kind.0 bytes kind.1
  Ok (Ended ending.0, ending.1)

-- so many entries, each as `one` reads it
abbrev pub entries_by : (List ℕ → Front Entry) → ℕ → List ℕ → Front (List Entry)
entries_by one zero bytes = Ok ([], bytes)
entries_by one (suc n) bytes = do
  first ← one bytes
  others ← entries_by one n first.1
  Ok (first.0 ∷ others.0, others.1)

-- a rescued call, with the entries of its inside as `one` reads them
unfoldable pub rescued_by : (List ℕ → Front Entry) → List ℕ → Front Entry
rescued_by one bytes = do
  hart ← byte_at bytes
  entry ← double_at hart.1
  fault ← fault_at entry.1
  count ← word_at fault.1
  inside ← entries_by one count.0 count.1
  Ok (view.Rescued hart.0 (record { entry = entry.0 }) fault.0 inside.0, inside.1)

-- an entry of this kind, whose number stands at a place; `rescued` is what a rescued call gives
-- there
unfoldable pub entry_of : Front Entry → ℕ → List ℕ → List ℕ → Front Entry
entry_of rescued zero place rest = broken Tag place
entry_of rescued (suc zero) place rest = ran_at rest
entry_of rescued (suc (suc zero)) place rest = entered_at rest
entry_of rescued (suc (suc (suc zero))) place rest = called_at rest
entry_of rescued (suc (suc (suc (suc zero)))) place rest = rescued
entry_of rescued (suc (suc (suc (suc (suc zero))))) place rest = ended_at rest
entry_of rescued (suc (suc (suc (suc (suc (suc n)))))) place rest = broken Tag place

-- an entry, where at most so many rescued calls are within each other
unfoldable pub entry_at : ℕ → List ℕ → Front Entry
entry_at zero bytes = do
  tag ← byte_at bytes
  entry_of (broken Deep bytes) tag.0 bytes tag.1
entry_at (suc room) bytes = do
  tag ← byte_at bytes
  entry_of (rescued_by (entry_at room) tag.1) tag.0 bytes tag.1

-- ---- files

-- what stands behind the letters that a history file begins with; fewer bytes are none of these
unfoldable pub behind_magic : List ℕ → Result (List ℕ) (FileKind × ℕ)
behind_magic bytes =
    if nat_lt (length bytes) (length magic) then Err (Short, length bytes)
    else if pointwise nat_eq (take (length magic) bytes) magic
    then Ok (drop (length magic) bytes)
    else Err (Magic, length bytes)

unfoldable pub harts_at : List ℕ → Front ℕ
harts_at bytes = do
  n ← byte_at bytes
  meant (within 1 HARTS n.0) bytes n.1

unfoldable pub budget_at : List ℕ → Front ℕ
budget_at bytes = do
  n ← double_at bytes
  meant (within 1 BUDGET n.0) bytes n.1

unfoldable pub head_at : List ℕ → Front Head
head_at bytes = do
  rest ← behind_magic bytes
  harts ← harts_at rest
  ports ← double_at harts.1
  budget ← budget_at ports.1
  Ok (record { harts = harts.0; ports = ports.0; budget = budget.0 }, budget.1)

-- a head and its entries
unfoldable pub history_at : List ℕ → Front (Head × List Entry)
history_at bytes = do
  head ← head_at bytes
  count ← double_at head.1
  entries ← entries_by (entry_at FRAMES) count.0 count.1
  Ok ((head.0, entries.0), entries.1)

-- and nothing behind them
unfoldable pub whole_at : List ℕ → Result (Head × List Entry) (FileKind × ℕ)
whole_at bytes = do
  read ← history_at bytes
  if length read.1 == 0 then Ok read.0 else Err (Rest, length read.1)

-- what is read of a file: with a fault goes the offset of its place
abbrev pub placed :
    {A : Type 0} → ℕ → Result A (FileKind × ℕ) → Result A (FileKind × ℕ)
placed size (Ok x) = Ok x
placed size (Err e) = Err (e.0, size - e.1)

-- the head and the entries of a file, or the first rule that it breaks and the offset of the field
-- that breaks it
unfoldable pub read_of : List ℕ → Result (Head × List Entry) (FileKind × ℕ)
read_of file = placed (length file) (whole_at file)

-- the same where bytes may follow the last entry
unfoldable pub read_front_of : List ℕ → Front (Head × List Entry)
read_front_of file = placed (length file) (history_at file)

-- an answer is what reading gives, unless memory was wanting
abbrev pub TellsFault : {Y : Type 0} → FileFault → Result Y (FileKind × ℕ) → Type 0
TellsFault (file.At fault offset) read = read ≡ Err (fault, offset)
TellsFault file.Memory read = Unit {0}

abbrev pub Answers : {X Y : Type 0}
    → (X → Y) → Result X FileFault → Result Y (FileKind × ℕ) → Type 0
Answers seen (Ok x) read = read ≡ Ok (seen x)
Answers seen (Err e) read = TellsFault e read

-- the fault of a file of this size
abbrev pub offset_of : ℕ → Refused → FileFault
offset_of size refused.Memory = file.Memory
offset_of size (refused.At fault left) = file.At fault (size - left)

-- what a call answers, as contracts see it: the head and the entries, and how many bytes they take
abbrev pub head_and_entries : Head × HistoryView → Head × List Entry
head_and_entries x = (x.0, x.1.entries)

abbrev pub of_front : Head × HistoryView × ℕ → Head × List Entry
of_front x = (x.0, x.1.entries)

abbrev pub front_and_rest :
    List ℕ → Head × HistoryView × ℕ → (Head × List Entry) × List ℕ
front_and_rest bytes x = (of_front x, drop x.2 bytes)
