-- The fault that a hart is about to make is what its act and its pc say.
use Rattle.std.proofs.Common.{◌≡◌, ℕ, true, Option, Some, None, refl, ap, sym, ◌∙◌, slice_get, eq-eqb}
use Rattle.std.proofs.lemmas.Bool.{and_from}
use Rattle.guest_words.specs.declared.fault.Fault.{Fault as FaultAt}
use Rattle.guest_words.specs.declared.hart.Slot.{Slot}
use Rattle.guest_words.specs.Act.{StateAct, Ordinary, Fault, Request, Arrival, End, Absent, act_of, act_of_slot}
use Rattle.guest_words.specs.Endings.{faults, is_fault, stands_at}
use Rattle.guest_words.specs.State.{State}
use Rattle.run_history.specs.Faults.{fault_by, fault_of, pc_at, pc_in}
use Rattle.run_history.proofs.Entries.{same_name}

-- a fault that a hart is about to make
pub record Faulting (s : State) (h : ℕ) (fault : FaultAt) : Type 0 where
  pub act : act_of s h ≡ Fault fault.name
  pub at : stands_at fault.pc (slice_get s.slots h) ≡ true

-- no slot, no act
absent : (s : State) (h : ℕ) → slice_get s.slots h ≡ None → act_of s h ≡ Absent
unfolding act_of
absent s h none = ap (act_of_slot s h) none

pub faulting : (s : State) (h : ℕ) (fault : FaultAt) → fault_of s h ≡ Some fault → Faulting s h fault
faulting s h fault is = let n = named (act_of s h) is in record { act = n.0; at = at (slice_get s.slots h) refl n.0 n.1 }
  where
    at : (o : Option Slot) → slice_get s.slots h ≡ o → act_of s h ≡ Fault fault.name → pc_in o ≡ fault.pc → stands_at fault.pc o ≡ true
    at None none act e = let none_at : Fault fault.name ≡ Absent = sym act ∙ absent s h none in cc
    at (Some slot) some act e = eq-eqb slot.hart.pc fault.pc e

    named : (a : StateAct) → fault_by a (pc_at s h) ≡ Some fault → (a ≡ Fault fault.name) × (pc_at s h ≡ fault.pc)
    named (Ordinary t) e = cc
    named (Fault name) e = let f : (record { name = name; pc = pc_at s h }) ≡ fault = cc in (ap (λ (x : FaultAt). Fault x.name) f, ap (λ (x : FaultAt). x.pc) f)
    named (Request w port asked place) e = cc
    named (Arrival point) e = cc
    named (End code) e = cc
    named Absent e = cc

-- it is the fault that a licence asks for
pub faulting_faults : (s : State) (h : ℕ) (fault : FaultAt) → Faulting s h fault → faults s h fault ≡ true
faulting_faults s h fault is = and_from _ _ is.at (ap (is_fault fault.name) is.act ∙ same_name fault.name)

-- no slot, no fault
pub no_fault : (s : State) (h : ℕ) → slice_get s.slots h ≡ None → fault_of s h ≡ None
no_fault s h none = ap (λ (a : StateAct). fault_by a (pc_at s h)) (absent s h none)
