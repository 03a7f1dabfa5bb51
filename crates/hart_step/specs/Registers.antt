-- Register acts: those that look at the text and at one hart alone.
use Rattle.std.specs.Prelude.{◌≡◌, ℕ, zero, suc, Bool, ◌+◌, ◌-◌, ◌*◌, ◌/◌, ◌%◌, ◌==◌, ◌&&◌, ◌<◌, nat_le, nat_lt, if◌then◌else◌, List, length, slice_index_or, find, option_map, unwrap_or, Option, Some, None}
use Rattle.guest_words.specs.declared.act.Act.{Act}
use Rattle.guest_words.specs.declared.act.Act.TheVariants.{Next}
use Rattle.guest_words.specs.declared.class.Class.{Class}
use Rattle.guest_words.specs.declared.class.Class.TheVariants as class
use Rattle.guest_words.specs.declared.hart.Hart.{Hart}
use Rattle.guest_words.specs.declared.inst.Inst.{Inst}
use Rattle.guest_words.specs.declared.point.Point.{Point}
use Rattle.guest_words.specs.declared.point.PointRef.{PointRef}
use Rattle.guest_words.specs.Effects.{class_of}
use Rattle.guest_words.specs.HartAct.{arrival_of, branch_act, inst_at, jump_act, register_act}
use Rattle.guest_words.specs.Harts.{past}
use Rattle.guest_words.specs.Space.{Space}

-- the instructions of so many words from an address on
pub record Stretch : Type 0 where
  pub from : ℕ
  pub insts : List (Option Inst)

-- a stretch has the word at an address
abbrev pub is_in : ℕ → Stretch → Bool
is_in pc stretch = nat_le stretch.from pc && nat_lt ((pc - stretch.from) / 4) (length stretch.insts)

-- the instruction at an address of a stretch; none begins but at multiples of 4
abbrev pub inst_of : ℕ → Stretch → Option Inst
inst_of pc stretch =
    if pc % 4 == 0 then slice_index_or stretch.insts ((pc - stretch.from) / 4) None else None

-- the instruction at an address of a text
abbrev pub inst_in : List Stretch → ℕ → Option Inst
inst_in text pc = unwrap_or (option_map (inst_of pc) (find (is_in pc) text)) None

-- a text has the instructions of a memory
abbrev pub IsTextOf : List Stretch → Space → Type 0
IsTextOf text m = (pc : ℕ) → inst_in text pc ≡ inst_at m pc

-- a text has the instructions of some memory
abbrev pub IsText : List Stretch → Type 0
IsText text = (m : Space) × IsTextOf text m

-- a stretch has the instructions of a memory
pub record Tells (m : Space) (stretch : Stretch) : Type 0 where
  pub aligned : stretch.from % 4 ≡ 0
  pub insts :
      (k : ℕ)
      → k < length stretch.insts
      → slice_index_or stretch.insts k None ≡ inst_at m (stretch.from + 4 * k)

-- the hart after an act that stores nothing
abbrev pub gone_on : Act → Option Hart
gone_on (Next hart None) = Some hart
gone_on _ = None

-- register work, branches, jumps and fences
abbrev pub after_class : Class → Hart → Inst → Option Hart
after_class class.Register hart inst = gone_on (register_act hart inst)
after_class class.Branch hart inst = gone_on (branch_act hart inst)
after_class class.Jump hart inst = gone_on (jump_act hart inst)
after_class class.Fence hart inst = Some (past hart)
after_class _ hart inst = None

abbrev pub after_inst : Hart → Option Inst → Option Hart
after_inst hart None = None
after_inst hart (Some inst) = after_class (class_of inst.op) hart inst

abbrev pub unless_arrived : Option PointRef → Option Hart → Option Hart
unless_arrived None next = next
unless_arrived (Some point) next = None

-- the hart after its next act, which has no frame open; None where that isn't a register act
abbrev pub register_next : List Stretch → List Point → Hart → Option Hart
register_next text points hart =
    unless_arrived (arrival_of points 0 hart) (after_inst hart (inst_in text hart.pc))

abbrev pub then_next : List Stretch → List Point → Option Hart → Option Hart
then_next text points None = None
then_next text points (Some hart) = register_next text points hart

-- the hart after so many register acts in a row
unfoldable pub registers : List Stretch → List Point → Hart → ℕ → Option Hart
registers text points hart zero = Some hart
registers text points hart (suc n) = then_next text points (registers text points hart n)
