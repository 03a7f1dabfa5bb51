-- The act of a hart, by what is looked up at its address.
use Rattle.std.proofs.Common.{◌≡◌, ℕ, ◌%◌, Bool, true, false, not, ◌&&◌, ◌==◌, nat_lt, if◌then◌else◌, List, Option, Some, None, Result, Ok, Err, refl, ap, ◌∙◌}
use Rattle.guest_words.specs.declared.point.Point.{Point}
use Rattle.guest_words.specs.declared.point.PointRef.{PointRef}
use Rattle.guest_words.specs.declared.fault.FaultName.{FaultName}
use Rattle.guest_words.specs.declared.fault.FaultName.TheVariants.{FetchRights, FetchMisaligned}
use Rattle.guest_words.specs.declared.hart.Hart.{Hart}
use Rattle.guest_words.specs.declared.inst.Inst.{Inst}
use Rattle.guest_words.specs.declared.act.Act.{Act}
use Rattle.guest_words.specs.declared.act.Act.TheVariants as act
use Rattle.guest_words.specs.Points.{active_at}
use Rattle.guest_words.specs.Space.{Space, can_execute, number_at}
use Rattle.guest_words.specs.Effects.{class_of}
use Rattle.guest_words.specs.Instructions.{instruction_of, NamesRegisters}
use Rattle.guest_words.proofs.Registers.{NamesRegisters-instruction_of}
use Rattle.guest_words.specs.HartAct.{act_of_class, act_of_inst, arrival_of, arrived_or, fetched_act, hart_act, inst_at}
use Rattle.hart_step.specs.Looked.{decoded, looked}

abbrev pub act_of_looked : Space → Hart → Result Inst FaultName → Act
act_of_looked m hart (Err name) = act.Fault name
act_of_looked m hart (Ok inst) = act_of_class (class_of inst.op) m hart inst

pub fetched-looked : (m : Space) (hart : Hart) → fetched_act m hart ≡ act_of_looked m hart (looked m hart.pc)
unfolding act_of_inst
fetched-looked m hart = by (hart.pc % 4 == 0) (can_execute m hart.pc 4) (instruction_of (number_at m hart.pc 4))
  where
    by : (e x : Bool) (o : Option Inst)
        → (if not e then act.Fault FetchMisaligned else if not x then act.Fault FetchRights else act_of_inst m hart o)
        ≡ act_of_looked m hart (if not e then Err FetchMisaligned else if not x then Err FetchRights else decoded o)
    by false x o = refl
    by true false o = refl
    by true true None = refl
    by true true (Some inst) = refl

-- an arrival comes first
pub act_arrived : (m : Space) (points : List Point) (frames : ℕ) (hart : Hart) (point : PointRef) → arrival_of points frames hart ≡ Some point → hart_act m points frames hart ≡ act.Arrived point
unfolding hart_act
act_arrived m points frames hart point is = ap (λ o. arrived_or o (fetched_act m hart)) is

act_none : (m : Space) (points : List Point) (frames : ℕ) (hart : Hart) → arrival_of points frames hart ≡ None → hart_act m points frames hart ≡ act_of_looked m hart (looked m hart.pc)
unfolding hart_act
act_none m points frames hart none = ap (λ o. arrived_or o (fetched_act m hart)) none ∙ fetched-looked m hart

pub act_fault : (m : Space) (points : List Point) (frames : ℕ) (hart : Hart) (name : FaultName) → arrival_of points frames hart ≡ None → looked m hart.pc ≡ Err name
    → hart_act m points frames hart ≡ act.Fault name
act_fault m points frames hart name none is = act_none m points frames hart none ∙ ap (act_of_looked m hart) is

pub act_inst : (m : Space) (points : List Point) (frames : ℕ) (hart : Hart) (inst : Inst) → arrival_of points frames hart ≡ None → looked m hart.pc ≡ Ok inst
    → hart_act m points frames hart ≡ act_of_class (class_of inst.op) m hart inst
act_inst m points frames hart inst none is = act_none m points frames hart none ∙ ap (act_of_looked m hart) is

-- what can be fetched is what is looked up
pub looked-inst_at : (m : Space) (pc : ℕ) (inst : Inst) → inst_at m pc ≡ Some inst → looked m pc ≡ Ok inst
looked-inst_at m pc inst is = by (pc % 4 == 0) (can_execute m pc 4) (instruction_of (number_at m pc 4)) is
  where
    by : (e x : Bool) (o : Option Inst) → (if e && x then o else None) ≡ Some inst
        → (if not e then Err FetchMisaligned else if not x then Err FetchRights else decoded o) ≡ Ok inst
    by false x o e = cc
    by true false o e = cc
    by true true o e = ap decoded e

pub inst_at-looked : (m : Space) (pc : ℕ) (inst : Inst) → looked m pc ≡ Ok inst → inst_at m pc ≡ Some inst
inst_at-looked m pc inst is = by (pc % 4 == 0) (can_execute m pc 4) (instruction_of (number_at m pc 4)) is
  where
    by : (e x : Bool) (o : Option Inst) → (if not e then Err FetchMisaligned else if not x then Err FetchRights else decoded o) ≡ Ok inst
        → (if e && x then o else None) ≡ Some inst
    by false x o e = cc
    by true false o e = cc
    by true true None e = cc
    by true true (Some found) e = let same : found ≡ inst = cc in ap Some same

-- it names registers
pub registers-inst_at : (m : Space) (pc : ℕ) (inst : Inst) → inst_at m pc ≡ Some inst → NamesRegisters inst
registers-inst_at m pc inst is = by (pc % 4 == 0) (can_execute m pc 4) is
  where
    by : (e x : Bool) → (if e && x then instruction_of (number_at m pc 4) else None) ≡ Some inst → NamesRegisters inst
    by false x e = absurd (cc)
    by true false e = absurd (cc)
    by true true e = NamesRegisters-instruction_of (number_at m pc 4) inst e

-- no hart arrives where no active point begins
pub none_arrives : (points : List Point) (frames : ℕ) (hart : Hart) → active_at points hart.pc ≡ None → arrival_of points frames hart ≡ None
none_arrives points frames hart free = by (hart.arrived && nat_lt frames 16)
  where
    by : (b : Bool) → (if b then active_at points hart.pc else None) ≡ None
    by true = free
    by false = refl
