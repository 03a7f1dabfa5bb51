-- The act of a hart in place: what it answers, and the hart and the memory after it.
use Rattle.std.specs.Prelude.{◌≡◌, ◌≢◌, Bool, true, false, Option, Some, None, slice_index}
use Rattle.guest_words.specs.declared.class.Class.{Class}
use Rattle.guest_words.specs.declared.class.Class.TheVariants as class
use Rattle.guest_words.specs.declared.hart.Hart.{Hart}
use Rattle.guest_words.specs.declared.act.Act.{Act}
use Rattle.guest_words.specs.declared.act.Act.TheVariants as act
use Rattle.guest_words.specs.declared.act.Write.{Write}
use Rattle.guest_words.specs.Space.{number_at, with_number}
use Rattle.guest_words.specs.Widths.{bytes_in}
use Rattle.guest_memory.specs.Kept.{AddressSpace}
use Rattle.guest_memory.specs.Returning.{put_back}
use Rattle.undo_log.specs.declared.note.Note.TheVariants.{Bytes}
use Rattle.guest_words.specs.Harts.{touched}
use Rattle.hart_step.specs.declared.before.Before.{Before}
use Rattle.hart_step.specs.declared.did.Did.{Did}
use Rattle.hart_step.specs.declared.did.Did.TheVariants as did
use Rattle.hart_step.specs.declared.did.Did.TheVariants.{Stored}

-- x0 holds 0
abbrev pub HasZero : Hart → Type 0
HasZero hart = slice_index hart.regs 0 ≡ 0

-- the answer to an act
abbrev pub went_of : Option Write → Did
went_of None = did.Went
went_of (Some write) = did.Stored

abbrev pub did_of : Act → Did
did_of (act.Next hart write) = went_of write
did_of (act.Fault name) = did.Fault name
did_of (act.Call request) = did.Called
did_of (act.Arrived point) = did.Arrived

-- what stood where an act stores; another act leaves that as it was
abbrev pub noted_by : Option Write → AddressSpace → Before → Before
noted_by None m before = before
noted_by (Some write) m before =
    record {
      address = write.address;
      width = write.width;
      number = number_at m.space write.address (bytes_in write.width);
    }

abbrev pub before_after : Act → AddressSpace → Before → Before
before_after (act.Next hart write) m before = noted_by write m before
before_after _ m before = before

-- the hart behind the store of an instruction, if it has one: the store ends its reservation
abbrev pub touched_by : Option Write → Hart → Hart
touched_by None hart = hart
touched_by (Some write) hart = touched write.address (bytes_in write.width) hart

-- memory behind that store
abbrev pub written_by : Option Write → AddressSpace → AddressSpace
written_by None m = m
written_by (Some write) m =
    record m { space = with_number m.space write.address (bytes_in write.width) write.value }

-- the hart and memory after an act; only the carrying out of an instruction changes them
abbrev pub hart_after : Act → Hart → Hart
hart_after (act.Next next write) hart = touched_by write next
hart_after _ hart = hart

abbrev pub memory_after : Act → AddressSpace → AddressSpace
memory_after (act.Next next write) m = written_by write m
memory_after _ m = m

-- a hart did an act that stores nothing
pub record IsDone (did : Act) (old new : Hart) (said : Did) : Type 0 where
  pub answer : said ≡ did_of did
  pub hart : new ≡ hart_after did old
  pub quiet : said ≢ Stored
  pub memory : (m : AddressSpace) → memory_after did m ≡ m
  pub before : (m : AddressSpace) (before : Before) → before_after did m before ≡ before

-- what an act changes, with what stood where it stores
pub record Parts : Type 0 where
  pub hart : Hart
  pub memory : AddressSpace
  pub before : Before

abbrev pub parts : Hart → AddressSpace → Before → Parts
parts hart memory before = record { hart = hart; memory = memory; before = before }

-- where an act stores, what stood there gives the memory before it back
abbrev pub LeadsBack : Did → Parts → AddressSpace → Type 0
LeadsBack said new old =
    said ≡ Stored
    → put_back new.memory (Bytes new.before.address new.before.width new.before.number) ≡ old

-- a hart did an act
pub record IsMade (did : Act) (old new : Parts) (said : Did) : Type 0 where
  pub answer : said ≡ did_of did
  pub hart : new.hart ≡ hart_after did old.hart
  pub memory : new.memory ≡ memory_after did old.memory
  pub before : new.before ≡ before_after did old.memory old.before
  pub back : LeadsBack said new old.memory

-- calls, breakpoints and atomics
abbrev pub is_rare : Class → Bool
is_rare class.Call = true
is_rare class.Break = true
is_rare (class.LoadReserved width) = true
is_rare (class.StoreConditional width) = true
is_rare (class.Atomic width) = true
is_rare _ = false
