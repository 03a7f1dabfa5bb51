-- The fault of a hart where two causes meet: the earlier one of the order.
use Rattle.std.proofs.Common.{◌≡◌, ◌%◌, ◌==◌, ◌&&◌, not, nat_lt, true, false, if◌then◌else◌, refl, ap, ◌∙◌, List, Some, None}
use Rattle.guest_words.specs.declared.point.Point.{Point}
use Rattle.guest_words.specs.declared.point.PointRef.{PointRef}
use Rattle.guest_words.specs.declared.fault.FaultName.TheVariants.{FetchRights, FetchMisaligned, StoreRights, AtomicMisaligned}
use Rattle.guest_words.specs.declared.hart.Hart.{Hart}
use Rattle.guest_words.specs.declared.inst.Inst.{Inst}
use Rattle.guest_words.specs.declared.width.Width.TheVariants.{Four, Eight}
use Rattle.guest_words.specs.declared.act.Act.TheVariants.{Fault, Arrived}
use Rattle.guest_words.specs.Points.{active_at}
use Rattle.guest_words.specs.Space.{Space, can_write, can_execute, number_at}
use Rattle.guest_words.specs.Instructions.{instruction_of}
use Rattle.guest_words.specs.HartAct.{hart_act, fetched_act, arrived_or, act_of_inst, jump_to, reserve_act, conditional_act, atomic_act}

-- an arrival comes before every fault of the fetch
pub arrival-first : (m : Space) (points : List Point) (hart : Hart) (point : PointRef) → hart.arrived ≡ true → active_at points hart.pc ≡ Some point → hart_act m points 0 hart ≡ Arrived point
unfolding hart_act
arrival-first m points hart point arrived at =
    ap (λ b. arrived_or (if b && nat_lt 0 16 then active_at points hart.pc else None) (fetched_act m hart)) arrived
    ∙ ap (λ o. arrived_or o (fetched_act m hart)) at

-- under sixteen frames there is no arrival
pub no_arrival-under_sixteen : (m : Space) (points : List Point) (hart : Hart) → hart.arrived ≡ true → hart_act m points 16 hart ≡ fetched_act m hart
unfolding hart_act
no_arrival-under_sixteen m points hart arrived =
    ap (λ b. arrived_or (if b && nat_lt 16 16 then active_at points hart.pc else None) (fetched_act m hart)) arrived

-- a misaligned pc comes before the rights of what lies there
pub misaligned_fetch-first : (m : Space) (hart : Hart) → (hart.pc % 4 == 0) ≡ false → fetched_act m hart ≡ Fault FetchMisaligned
misaligned_fetch-first m hart odd =
    ap (λ b. if not b then Fault FetchMisaligned else (if not (can_execute m hart.pc 4) then Fault FetchRights else act_of_inst m hart (instruction_of (number_at m hart.pc 4)))) odd

-- rights come before what the word is
pub fetch_rights-first : (m : Space) (hart : Hart) → (hart.pc % 4 == 0) ≡ true → can_execute m hart.pc 4 ≡ false → fetched_act m hart ≡ Fault FetchRights
fetch_rights-first m hart even absent =
    ap (λ b. if not b then Fault FetchMisaligned else (if not (can_execute m hart.pc 4) then Fault FetchRights else act_of_inst m hart (instruction_of (number_at m hart.pc 4)))) even
    ∙ ap (λ b. if not b then Fault FetchRights else act_of_inst m hart (instruction_of (number_at m hart.pc 4))) absent

-- a jump to 2 modulo 4 is a fault, whatever the registers would become
pub misaligned_jump : (hart : Hart) → jump_to hart 0x10002 ≡ Fault FetchMisaligned
misaligned_jump hart = refl

-- an atomic access that is misaligned comes before its rights, for each of the three kinds
pub misaligned_reserve-first : (m : Space) (hart : Hart) (inst : Inst) → reserve_act m hart inst 0x20002 Four ≡ Fault AtomicMisaligned
misaligned_reserve-first m hart inst = refl

pub misaligned_conditional-first : (m : Space) (hart : Hart) (inst : Inst) → conditional_act m hart inst 0x20004 Eight ≡ Fault AtomicMisaligned
misaligned_conditional-first m hart inst = refl

pub misaligned_atomic-first : (m : Space) (hart : Hart) (inst : Inst) → atomic_act m hart inst 0x20001 Four ≡ Fault AtomicMisaligned
misaligned_atomic-first m hart inst = refl

-- a store-conditional looks at rights before its reservation
pub conditional_rights-first : (m : Space) (hart : Hart) (inst : Inst) → can_write m 0x20000 4 ≡ false → conditional_act m hart inst 0x20000 Four ≡ Fault StoreRights
conditional_rights-first m hart inst absent = rw absent refl
