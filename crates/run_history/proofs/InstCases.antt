-- What an instruction comes to: an eliminator for what is said of the acts of a hart alone.
use Rattle.std.proofs.Common.{◌≡◌, ℕ, ◌%◌, Bool, true, false, not, ◌&&◌, ◌==◌, nat_lt, if◌then◌else◌, List, Option, Some, None, refl, ap, sym, ◌∙◌, slice_set}
use Rattle.std.proofs.lemmas.Bool.{not-false}
use Rattle.guest_words.specs.declared.act.Act.{Act}
use Rattle.guest_words.specs.declared.act.Act.TheVariants as act
use Rattle.guest_words.specs.declared.class.Class.{Class}
use Rattle.guest_words.specs.declared.class.Class.TheVariants as class
use Rattle.guest_words.specs.declared.fault.FaultName.{FaultName}
use Rattle.guest_words.specs.declared.fault.FaultName.TheVariants.{FetchMisaligned, FetchRights}
use Rattle.guest_words.specs.declared.hart.Hart.{Hart}
use Rattle.guest_words.specs.declared.inst.Inst.{Inst}
use Rattle.guest_words.specs.declared.limits.TheConstants.{FRAMES}
use Rattle.guest_words.specs.declared.point.Point.{Point}
use Rattle.guest_words.specs.declared.point.PointRef.{PointRef}
use Rattle.guest_words.specs.declared.width.Width.{Width}
use Rattle.guest_words.specs.Calls.{request_of}
use Rattle.guest_words.specs.Effects.{class_of, is_taken, target_of}
use Rattle.guest_words.specs.HartAct.{access_place, act_of_class, act_of_inst, arrival_of, arrived_or, fetched_act, first, hart_act, inst_at, jump_to, linked, second, write_of}
use Rattle.guest_words.specs.Harts.{holds, past, with_reg}
use Rattle.guest_words.specs.HartAct.{with_result}
use Rattle.guest_words.specs.Instructions.{instruction_of}
use Rattle.guest_words.specs.Points.{active_at}
use Rattle.guest_words.specs.Widths.{bytes_in}
use Rattle.guest_words.specs.Space.{Space, can_execute, can_read, can_write, number_at}
use Rattle.run_history.proofs.Ands.{if_by}

-- what has to be shown of each thing that an instruction can come to
pub record InstCases (P : Act → Type 0) (m : Space) (hart : Hart) : Type 0 where
  -- a hart that is as ready as before, with nothing stored
  pub next : (after : Hart) → after.state ≡ hart.state → P (act.Next after None)
  -- the same, with bytes stored where they may be
  pub store : (after : Hart) (place : ℕ) (width : Width) (value : ℕ) → after.state ≡ hart.state → can_write m place (bytes_in width) ≡ true → P (act.Next after (write_of place width value))
  pub fault : (name : FaultName) → P (act.Fault name)
  -- the instruction at pc is a call
  pub call : (inst : Inst) → inst_at m hart.pc ≡ Some inst → class_of inst.op ≡ class.Call → P (act.Call (request_of hart))

state-with_reg : (hart : Hart) (r value : ℕ) → (with_reg hart r value).state ≡ hart.state
state-with_reg hart r value = if_by (λ (x : Hart). x.state ≡ hart.state) (r == 0) hart (record hart { regs = slice_set hart.regs r value }) (λ e. refl) (λ e. refl)

module _ (P : Act → Type 0) (m : Space) (hart : Hart) (cases : InstCases P m hart) where
  result : (inst : Inst) (value : ℕ) → P (act.Next (with_result hart inst value) None)
  result inst value = cases.next (with_result hart inst value) (state-with_reg (past hart) inst.rd value)

  jump : (to : Hart) (target : ℕ) → to.state ≡ hart.state → P (jump_to to target)
  jump to target same = if_by P (target % 4 == 0) _ _ (λ e. cases.next (record to { pc = target }) same) (λ e. cases.fault _)

  of_class : (kind : Class) (inst : Inst) → (kind ≡ class.Call → P (act.Call (request_of hart))) → P (act_of_class kind m hart inst)
  of_class class.Register inst calls = result inst _
  of_class class.Branch inst calls =
      if_by P (is_taken inst.op (first hart inst) (second hart inst)) _ _ (λ e. jump (past hart) (target_of inst hart.pc (first hart inst)) refl)
      (λ e. cases.next (past hart) refl)
  of_class class.Jump inst calls = jump (linked hart inst) (target_of inst hart.pc (first hart inst)) (state-with_reg (past hart) inst.rd _)
  of_class (class.Load width) inst calls = if_by P (can_read m (access_place hart inst) (bytes_in width)) _ _ (λ e. result inst _) (λ e. cases.fault _)
  of_class (class.Store width) inst calls =
      if_by P (can_write m (access_place hart inst) (bytes_in width)) _ _ (λ may. cases.store (past hart) _ width _ refl may) (λ e. cases.fault _)
  of_class class.Fence inst calls = cases.next (past hart) refl
  of_class class.Call inst calls = calls refl
  of_class class.Break inst calls = cases.fault _
  of_class (class.LoadReserved width) inst calls =
      if_by P (not (first hart inst % bytes_in width == 0)) _ _ (λ e. cases.fault _)
      (λ e. if_by P (not (can_read m (first hart inst) (bytes_in width))) _ _ (λ e. cases.fault _) (λ e. cases.next _ (state-with_reg (past hart) inst.rd _)))
  of_class (class.StoreConditional width) inst calls =
      if_by P (not (first hart inst % bytes_in width == 0)) _ _ (λ e. cases.fault _)
      (λ e. if_by P (not (can_write m (first hart inst) (bytes_in width))) _ _ (λ e. cases.fault _)
      (λ may. if_by P (holds hart (first hart inst) width) _ _ (λ e. cases.store _ _ width _ (state-with_reg (past hart) inst.rd 0) (not-false _ may))
      (λ e. cases.next _ (state-with_reg (past hart) inst.rd 1))))
  of_class (class.Atomic width) inst calls =
      if_by P (not (first hart inst % bytes_in width == 0)) _ _ (λ e. cases.fault _)
      (λ e. if_by P (not (can_write m (first hart inst) (bytes_in width))) _ _ (λ e. cases.fault _)
      (λ may. cases.store _ _ width _ (state-with_reg (past hart) inst.rd _) (not-false _ may)))

  of_inst : (i : Option Inst) → (inst_at m hart.pc ≡ i) → P (act_of_inst m hart i)
  unfolding act_of_inst
  of_inst None is = cases.fault _
  of_inst (Some inst) is = of_class (class_of inst.op) inst (λ kind. cases.call inst is kind)

  -- an instruction at pc, or the fault of its fetch
  pub fetched_by : P (fetched_act m hart)
  fetched_by = by (hart.pc % 4 == 0) (can_execute m hart.pc 4) refl
    where
      by : (even may : Bool) → inst_at m hart.pc ≡ (if even && may then instruction_of (number_at m hart.pc 4) else None)
          → P (if not even then act.Fault FetchMisaligned else if not may then act.Fault FetchRights else act_of_inst m hart (instruction_of (number_at m hart.pc 4)))
      by false may is = cases.fault _
      by true false is = cases.fault _
      by true true is = of_inst (instruction_of (number_at m hart.pc 4)) is

  -- the act of a hart alone: an arrival, or an instruction
  pub hart_act_by : (points : List Point) (frames : ℕ) → ((point : PointRef) → arrival_of points frames hart ≡ Some point → P (act.Arrived point)) → P (hart_act m points frames hart)
  unfolding hart_act
  hart_act_by points frames arrives = by (arrival_of points frames hart) arrives
    where
      by : (o : Option PointRef) → ((point : PointRef) → o ≡ Some point → P (act.Arrived point)) → P (arrived_or o (fetched_act m hart))
      by None arrives = fetched_by
      by (Some point) arrives = arrives point refl

-- only a hart that has just jumped arrives
pub arrived-jumped : (points : List Point) (frames : ℕ) (hart : Hart) (point : PointRef) → arrival_of points frames hart ≡ Some point → hart.arrived ≡ true
arrived-jumped points frames hart point is = by hart.arrived refl
  where
    by : (b : Bool) → hart.arrived ≡ b → hart.arrived ≡ true
    by true e = e
    by false e = absurd (cc (sym is ∙ ap (λ b. if b && nat_lt frames FRAMES then active_at points hart.pc else None) e))
