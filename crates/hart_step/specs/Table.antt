-- The table of decoded instructions.
use Rattle.std.specs.Prelude.{◌≡◌, ◌≢◌, ℕ, ◌/◌, ◌%◌, ◌<◌, List, length, Some, None, slice_index_or}
use Rattle.guest_words.specs.declared.point.Point.{Point}
use Rattle.guest_words.specs.Points.{active_at}
use Rattle.guest_words.specs.Space.{Space}
use Rattle.guest_memory.specs.Kept.{AddressSpace}
use Rattle.guest_words.specs.HartAct.{inst_at, hart_act, act_of_class}
use Rattle.hart_step.specs.declared.known.Known.{Known}
use Rattle.guest_words.specs.declared.hart.Hart.{Hart}
use Rattle.guest_words.specs.declared.inst.Inst.{Inst}
use Rattle.guest_words.specs.Effects.{class_of}
use Rattle.guest_words.specs.Instructions.{NamesRegisters}
use Rattle.hart_step.specs.declared.before.Before.{Before}
use Rattle.hart_step.specs.declared.did.Did.{Did}
use Rattle.hart_step.specs.InPlace.{parts, IsMade}

-- the place of an address in the table
abbrev pub place_of : ℕ → ℕ
place_of pc = pc / 4 % 4096

-- the instruction is what can be fetched at its address, where no active point begins
pub record Tells (m : Space) (points : List Point) (known : Known) : Type 0 where
  pub inst : inst_at m known.pc ≡ Some known.inst
  pub free : active_at points known.pc ≡ None

-- the instruction is what can be fetched at its address, unless that is one that none can have
abbrev pub TellsBehind : Space → Known → Type 0
TellsBehind m known = known.pc % 4 ≡ 0 → inst_at m known.pc ≡ Some known.inst

-- each instruction that stands at the place of its address tells the truth, and the one behind the
-- places tells what can be fetched, also where an active point begins
pub record IsTable (m : Space) (points : List Point) (table : List Known) : Type 0 where
  pub long : length table ≡ 4097
  pub tells :
      (k : ℕ) (d : Known)
      → k < 4096
      → place_of (slice_index_or table k d).pc ≡ k
      → Tells m points (slice_index_or table k d)
  pub first : (d : Known) → TellsBehind m (slice_index_or table 4096 d)

-- an instruction as one at address 4
abbrev pub elsewhere : Known → Known
elsewhere known = record known { pc = 4 }

-- no instruction stands at the place of its address, nor behind the places at one that it can have
pub record IsBlank (table : List Known) : Type 0 where
  pub long : length table ≡ 4097
  pub apart :
      (k : ℕ) (d : Known) → k < 4096 → place_of (slice_index_or table k d).pc ≢ k
  pub first : (d : Known) → (slice_index_or table 4096 d).pc % 4 ≢ 0

-- the instruction that a hart carries out
pub record IsInst (m : Space) (points : List Point) (frames : ℕ) (hart : Hart)
    (inst : Inst) : Type 0 where
  pub act : hart_act m points frames hart ≡ act_of_class (class_of inst.op) m hart inst
  pub registers : NamesRegisters inst

-- a hart carries out no instruction
pub record IsStill (m : AddressSpace) (points : List Point) (frames : ℕ) (hart : Hart)
    (said : Did) : Type 0 where
  pub made :
      (before : Before)
      → IsMade (hart_act m.space points frames hart) (parts hart m before)
      (parts hart m before) said

-- the instruction that a hart carries out is at a place of the table
pub record IsPlaced (m : Space) (points : List Point) (frames : ℕ) (hart : Hart)
    (table : List Known) (place : ℕ) : Type 0 where
  pub within : place < 4096
  pub inst : (d : Known) → IsInst m points frames hart (slice_index_or table place d).inst

-- at the place of an address stands the instruction that can be fetched there
abbrev pub IsFetched : Space → ℕ → List Known → Type 0
IsFetched m pc table =
    (d : Known) → inst_at m pc ≡ Some (slice_index_or table (place_of pc) d).inst
