-- What a hart does next, by its name.
use Rattle.std.proofs.Common.{◌≡◌, ℕ, ◌≤◌, length, None, refl, ap, slice_get}
use Rattle.std.proofs.lemmas.Option.{slice_get_past}
use Rattle.guest_words.specs.declared.fault.FaultName.{FaultName}
use Rattle.guest_words.specs.declared.point.PointRef.{PointRef}
use Rattle.guest_words.specs.Act.{StateAct, Ordinary, Fault, Request, Arrival, End, Absent, act_of, act_of_slot}
use Rattle.guest_words.specs.Endings.{is_end, is_fault}
use Rattle.guest_words.specs.State.{State}
use Rattle.hart_step.specs.Sees.{named}
use Rattle.run_history.specs.Legal.{is_arrival}
use Rattle.plain_machine.specs.Tests.{sees_arrival, sees_end, sees_fault}

-- past the last slot there is no act
pub named-past : (s : State) (h : ℕ) → length s.slots ≤ h → named (act_of s h) ≡ None
unfolding act_of
named-past s h past = ap (λ o. named (act_of_slot s h o)) (slice_get_past s.slots h past)

pub named-arrival : (point : PointRef) (a : StateAct) → sees_arrival point (named a) ≡ is_arrival point a
named-arrival point (Ordinary t) = refl
named-arrival point (Fault name) = refl
named-arrival point (Request way port asked place) = refl
named-arrival point (Arrival other) = refl
named-arrival point (End code) = refl
named-arrival point Absent = refl

pub named-fault : (name : FaultName) (a : StateAct) → sees_fault name (named a) ≡ is_fault name a
named-fault name (Ordinary t) = refl
named-fault name (Fault other) = refl
named-fault name (Request way port asked place) = refl
named-fault name (Arrival other) = refl
named-fault name (End code) = refl
named-fault name Absent = refl

pub named-end : (code : ℕ) (a : StateAct) → sees_end code (named a) ≡ is_end code a
named-end code (Ordinary t) = refl
named-end code (Fault other) = refl
named-end code (Request way port asked place) = refl
named-end code (Arrival other) = refl
named-end code (End other) = refl
named-end code Absent = refl
