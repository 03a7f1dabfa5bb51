-- The act of one hart: an instruction, by ISA manual chapters RV64I, M and A, or a call.
use Rattle.std.specs.Prelude.{ℕ, ◌+◌, ◌%◌, true, not, ◌&&◌, ◌==◌, nat_lt, if◌then◌else◌, List, Option, Some, None}
use Rattle.guest_words.specs.declared.point.Point.{Point}
use Rattle.guest_words.specs.declared.point.PointRef.{PointRef}
use Rattle.guest_words.specs.declared.fault.FaultName.TheVariants.{FetchRights, FetchMisaligned, Illegal, LoadRights, StoreRights, AtomicMisaligned, Breakpoint}
use Rattle.guest_words.specs.declared.hart.Hart.{Hart}
use Rattle.guest_words.specs.declared.inst.Inst.{Inst}
use Rattle.guest_words.specs.declared.class.Class.{Class}
use Rattle.guest_words.specs.declared.class.Class.TheVariants as class
use Rattle.guest_words.specs.declared.act.Act.{Act}
use Rattle.guest_words.specs.declared.act.Act.TheVariants.{Next, Fault, Call, Arrived}
use Rattle.guest_words.specs.declared.act.Write.{Write}
use Rattle.guest_words.specs.declared.limits.TheConstants.{FRAMES}
use Rattle.guest_words.specs.declared.width.Width.{Width}
use Rattle.guest_words.specs.Points.{active_at}
use Rattle.guest_words.specs.Space.{Space, can_read, can_write, can_execute, number_at}
use Rattle.guest_words.specs.Word.{word_of, wrap}
use Rattle.guest_words.specs.Widths.{bytes_in}
use Rattle.guest_words.specs.Arithmetic.{sum}
use Rattle.guest_words.specs.Instructions.{instruction_of}
use Rattle.guest_words.specs.Effects.{result_of, is_taken, target_of, amo_of, loaded_of, class_of}
use Rattle.guest_words.specs.Harts.{reg, with_reg, past, holds}
use Rattle.guest_words.specs.Calls.{request_of}

-- the operands of an instruction
abbrev pub first : Hart → Inst → ℕ
first hart inst = reg hart inst.rs1

abbrev pub second : Hart → Inst → ℕ
second hart inst = reg hart inst.rs2

-- where a load or a store goes: rs1's value and the immediate
abbrev pub access_place : Hart → Inst → ℕ
access_place hart inst = sum (first hart inst) (word_of inst.imm)

-- the hart behind an instruction that puts a value into rd
abbrev pub with_result : Hart → Inst → ℕ → Hart
with_result hart inst value = with_reg (past hart) inst.rd value

abbrev pub register_act : Hart → Inst → Act
register_act hart inst =
    Next (with_result hart inst
    (result_of inst hart.pc (first hart inst) (second hart inst))) None

-- a jump is a fault where its target isn't a multiple of 4, and then no register changes
abbrev pub jump_to : Hart → ℕ → Act
jump_to hart target =
    if target % 4 == 0 then Next (record hart { pc = target }) None else Fault FetchMisaligned

abbrev pub branch_act : Hart → Inst → Act
branch_act hart inst =
    if is_taken inst.op (first hart inst) (second hart inst)
    then jump_to (past hart) (target_of inst hart.pc (first hart inst))
    else Next (past hart) None

-- a jump and link may arrive at a point
abbrev pub linked : Hart → Inst → Hart
linked hart inst =
    record (with_result hart inst (wrap (hart.pc + 4))) { arrived = true }

abbrev pub jump_act : Hart → Inst → Act
jump_act hart inst = jump_to (linked hart inst) (target_of inst hart.pc (first hart inst))

-- the value that a load, load-reserved or atomic instruction puts into rd
abbrev pub loaded_at : Space → Inst → ℕ → Width → ℕ
loaded_at m inst place width = loaded_of inst.op (number_at m place (bytes_in width))

abbrev pub load_act : Space → Hart → Inst → ℕ → Width → Act
load_act m hart inst place width =
    if can_read m place (bytes_in width)
    then Next (with_result hart inst (loaded_at m inst place width)) None
    else Fault LoadRights

abbrev pub write_of : ℕ → Width → ℕ → Option Write
write_of place width value =
    Some (record { address = place; width = width; value = value })

abbrev pub store_act : Space → Hart → Inst → ℕ → Width → Act
store_act m hart inst place width =
    if can_write m place (bytes_in width)
    then Next (past hart) (write_of place width (second hart inst))
    else Fault StoreRights

abbrev pub reserved : Hart → ℕ → Width → Hart
reserved hart place width =
    record hart { reservation = Some (record { address = place; width = width }) }

abbrev pub reserve_act : Space → Hart → Inst → ℕ → Width → Act
reserve_act m hart inst place width =
    if not (place % bytes_in width == 0) then Fault AtomicMisaligned
    else if not (can_read m place (bytes_in width)) then Fault LoadRights
    else Next (reserved (with_result hart inst (loaded_at m inst place width)) place width) None

-- a store-conditional ends its own hart's reservation; it answers 0 where it stores, else 1
abbrev pub conditional : Hart → Inst → ℕ → Hart
conditional hart inst answer = record (with_result hart inst answer) { reservation = None }

abbrev pub conditional_act : Space → Hart → Inst → ℕ → Width → Act
conditional_act m hart inst place width =
    if not (place % bytes_in width == 0) then Fault AtomicMisaligned
    else if not (can_write m place (bytes_in width)) then Fault StoreRights
    else if holds hart place width
    then Next (conditional hart inst 0) (write_of place width (second hart inst))
    else Next (conditional hart inst 1) None

abbrev pub atomic_act : Space → Hart → Inst → ℕ → Width → Act
atomic_act m hart inst place width =
    if not (place % bytes_in width == 0) then Fault AtomicMisaligned
    else if not (can_write m place (bytes_in width)) then Fault StoreRights
    else Next (with_result hart inst (loaded_at m inst place width))
    (write_of place width (amo_of inst.op (number_at m place (bytes_in width)) (second hart inst)))

-- the act of an instruction, by its class
abbrev pub act_of_class : Class → Space → Hart → Inst → Act
act_of_class class.Register m hart inst = register_act hart inst
act_of_class class.Branch m hart inst = branch_act hart inst
act_of_class class.Jump m hart inst = jump_act hart inst
act_of_class (class.Load width) m hart inst = load_act m hart inst (access_place hart inst) width
act_of_class (class.Store width) m hart inst = store_act m hart inst (access_place hart inst) width
act_of_class class.Fence m hart inst = Next (past hart) None
act_of_class class.Call m hart inst = Call (request_of hart)
act_of_class class.Break m hart inst = Fault Breakpoint
act_of_class (class.LoadReserved width) m hart inst =
    reserve_act m hart inst (first hart inst) width
act_of_class (class.StoreConditional width) m hart inst =
    conditional_act m hart inst (first hart inst) width
act_of_class (class.Atomic width) m hart inst =
    atomic_act m hart inst (first hart inst) width

-- a word that is no instruction is illegal
unfoldable pub act_of_inst : Space → Hart → Option Inst → Act
act_of_inst m hart None = Fault Illegal
act_of_inst m hart (Some inst) = act_of_class (class_of inst.op) m hart inst

-- the instruction at an address, where one can be fetched there: what `fetched_act` carries out
abbrev pub inst_at : Space → ℕ → Option Inst
inst_at m pc =
    if (pc % 4 == 0) && can_execute m pc 4 then instruction_of (number_at m pc 4) else None

-- the instruction at pc is fetched and carried out
abbrev pub fetched_act : Space → Hart → Act
fetched_act m hart =
    if not (hart.pc % 4 == 0) then Fault FetchMisaligned
    else if not (can_execute m hart.pc 4) then Fault FetchRights
    else act_of_inst m hart (instruction_of (number_at m hart.pc 4))

-- the point that a hart stands at: just after a jump and link to its entry, with room for a frame
abbrev pub arrival_of : List Point → ℕ → Hart → Option PointRef
arrival_of points frames hart =
    if hart.arrived && nat_lt frames FRAMES then active_at points hart.pc else None

abbrev pub arrived_or : Option PointRef → Act → Act
arrived_or (Some point) act = Arrived point
arrived_or None act = act

-- the act of a hart with so many frames open, before closing; a call is given as its request
unfoldable pub hart_act : Space → List Point → ℕ → Hart → Act
hart_act m points frames hart =
    arrived_or (arrival_of points frames hart) (fetched_act m hart)
