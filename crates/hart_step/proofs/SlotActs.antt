-- The act of the hart in a slot, and what it is in the state.
use Rattle.std.proofs.Common.{◌≡◌, ℕ, Bool, length, Option, Some, None, Result, Ok, Err, option_map, refl, ap, sym, ◌∙◌, subst, slice_get}
use Rattle.std.specs.Prelude.{IfOk}
use Rattle.guest_words.specs.declared.act.Act.{Act}
use Rattle.guest_words.specs.declared.act.Act.TheVariants as act
use Rattle.guest_words.specs.declared.act.Write.{Write}
use Rattle.guest_words.specs.declared.hart.Hart.{Hart}
use Rattle.guest_words.specs.declared.hart.Slot.{Slot}
use Rattle.guest_words.specs.declared.point.PointRef.{PointRef}
use Rattle.guest_words.specs.Act.{act_of, act_of_slot, in_state}
use Rattle.guest_words.specs.State.{State}
use Rattle.run_history.specs.After.{moved, next}
use Rattle.run_history.proofs.InstCases.{InstCases, hart_act_by}
use Rattle.hart_step.specs.declared.next_act.NextAct.TheVariants as next_act
use Rattle.hart_step.specs.Sees.{named, Sees}
use Rattle.hart_step.specs.SlotActs.{act_at, slot_act, MayWrite}
use Rattle.hart_step.specs.Noted.{notes_for, notes_of_act, notes_of_slot}
use Rattle.hart_step.specs.Stops.{act_wants, slot_wants, wants_memory}

-- what is said of the act alone, by what it is of the slot
module _ {A : Type 0} (of_slot : Option Slot → A) (of_act : Act → A) (s : State) where
  by_slot : (o : Option Slot) (a : Act) → ((slot : Slot) → of_slot (Some slot) ≡ of_act (slot_act s slot)) → option_map (slot_act s) o ≡ Some a → of_slot o ≡ of_act a
  by_slot None a same is = absurd (cc)
  by_slot (Some slot) a same is = same slot ∙ ap of_act (cc)

pub act_of-at : (s : State) (h : ℕ) (a : Act) → act_at s h ≡ Some a → act_of s h ≡ in_state s h a
unfolding act_of
act_of-at s h a is = by_slot (act_of_slot s h) (in_state s h) s (slice_get s.slots h) a (λ slot. refl) is

-- a hart that arrives at a point is seen to
pub arrival-at : (s : State) (h : ℕ) (point : PointRef) → act_at s h ≡ Some (act.Arrived point) → Sees s h (next_act.Arrival point)
arrival-at s h point is = ap named (act_of-at s h (act.Arrived point) is)

pub wants-at : (noted : Bool) (s : State) (h : ℕ) (a : Act) → act_at s h ≡ Some a → wants_memory noted s h ≡ act_wants noted a
wants-at noted s h a is = by_slot (slot_wants noted s) (act_wants noted) s (slice_get s.slots h) a (λ slot. refl) is

pub notes-at : (s : State) (h : ℕ) (a : Act) → act_at s h ≡ Some a → notes_for s h ≡ notes_of_act s a
notes-at s h a is = by_slot (notes_of_slot s) (notes_of_act s) s (slice_get s.slots h) a (λ slot. refl) is

-- bytes are stored where they may be

abbrev May : State → Act → Type 0
May s (act.Next hart write) = MayWrite s write
May s _ = Unit {0}

slot_may : (s : State) (slot : Slot) → May s (slot_act s slot)
slot_may s slot = hart_act_by (May s) s.memory slot.hart cases s.points (length slot.frames) (λ point at. tt)
  where
    cases : InstCases (May s) s.memory slot.hart
    cases = record {
      next = λ after same. tt;
      store = λ after place width value same may. may;
      fault = λ name. tt;
      call = λ inst at kind. tt;
    }

pub may-at : (s : State) (h : ℕ) (hart : Hart) (write : Option Write) → act_at s h ≡ Some (act.Next hart write) → MayWrite s write
may-at s h hart write is = by (slice_get s.slots h) is
  where
    by : (o : Option Slot) → option_map (slot_act s) o ≡ Some (act.Next hart write) → MayWrite s write
    by None is = absurd (cc)
    by (Some slot) is = subst (May s) (let same : slot_act s slot ≡ act.Next hart write = cc in same) (slot_may s slot)

-- every act of a hart is the next one
pub next-at : (s : State) (h : ℕ) (a : Act) → act_at s h ≡ Some a → moved s (in_state s h a) ≡ next s h
unfolding next
next-at s h a is = ap (moved s) (sym (act_of-at s h a is))

-- what is said of a value that a call gave
pub if_ok : {A E : Type 0} (r : Result A E) (P Q : A → Type 0) → ((a : A) → P a → Q a) → IfOk r P → IfOk r Q
if_ok (Ok a) P Q leads p = leads a p
if_ok (Err e) P Q leads p = p
