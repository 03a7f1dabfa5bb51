-- Records of calls on devices, and what one record says of the device that served it.
use Rattle.std.specs.Prelude.{◌≡◌, ◌≢◌, ℕ, ◌<◌, ◌≤◌, ◌⊎◌, min, All, if◌then◌else◌, List, [], length, Bool, true, false, pos, IsTrue, IfSome}
use Rattle.std.specs.Ordering.{int_eq}
use Rattle.guest_words.specs.declared.record.Record.{Record}
use Rattle.guest_words.specs.declared.record.Way.{Way}
use Rattle.guest_words.specs.declared.record.Way.TheVariants.{Read, Write, Close}
use Rattle.guest_words.specs.declared.linux.TheConstants.{EIO}
use Rattle.edge_ports.specs.End.{End, raised_if, Came, Went}
use Rattle.edge_ports.specs.Seen.{Seen, end_at}

-- a call answered this number and has these bytes, or it failed and has none
abbrev pub IsOutcome : Record → ℕ → List ℕ → Type 0
IsOutcome r count bytes =
    ((r.answer ≡ pos count) × (r.bytes ≡ bytes)) ⊎ ((r.answer ≡ EIO) × (r.bytes ≡ []))

-- a read of at most `asked` bytes: it answers their number, or it failed
pub record IsRead (fd asked : ℕ) (r : Record) : Type 0 where
  pub port : r.port ≡ fd
  pub way : r.way ≡ Read
  pub size : r.asked ≡ asked
  pub outcome : IsOutcome r (length r.bytes) r.bytes
  pub within : length r.bytes ≤ asked
  pub below : All (λ b. b < 256) r.bytes

-- a write of these bytes: it answers their number, or it failed
pub record IsWrite (fd : ℕ) (bytes : List ℕ) (r : Record) : Type 0 where
  pub port : r.port ≡ fd
  pub way : r.way ≡ Write
  pub size : r.asked ≡ length bytes
  pub outcome : IsOutcome r (length bytes) bytes
  pub below : All (λ b. b < 256) r.bytes

-- a close: it asks for nothing and answers 0
pub record IsClose (fd : ℕ) (r : Record) : Type 0 where
  pub port : r.port ≡ fd
  pub way : r.way ≡ Close
  pub size : r.asked ≡ 0
  pub answer : r.answer ≡ pos 0
  pub none : r.bytes ≡ []

abbrev pub is_read : Way → Bool
is_read Read = true
is_read Write = false
is_read Close = false

abbrev pub is_write : Way → Bool
is_write Read = false
is_write Write = true
is_write Close = false

-- the bytes that a call took from its device, and those that it gave to it
abbrev pub taken_bytes : Record → List ℕ
taken_bytes r = if is_read r.way then r.bytes else []

abbrev pub given_bytes : Record → List ℕ
given_bytes r = if is_write r.way then r.bytes else []

-- a read that didn't fail answers the lesser of what was asked and what was left
abbrev pub AnswersLesser : ℕ → Record → Type 0
AnswersLesser left r = IsTrue (is_read r.way) → r.answer ≢ EIO → r.answer ≡ pos (min r.asked left)

-- what a record says of its device before and after the call
pub record Serves (r : Record) (old new : End) : Type 0 where
  pub left : Went old.left (taken_bytes r) new.left
  pub count : IfSome old.left (λ left. AnswersLesser (length left) r)
  pub given : Came old.given (given_bytes r) new.given
  -- one fault more where the call failed, and else none
  pub faults : new.faults ≡ raised_if (int_eq r.answer EIO) old.faults

-- the same of the device at a descriptor
abbrev pub ServesAt : ℕ → Seen → Seen → Record → Type 0
ServesAt fd old new r = Serves r (end_at old fd) (end_at new fd)
