-- What the executable state keeps, over its changes.
use Rattle.std.proofs.Common.{◌≡◌, ℕ, ◌+◌, ◌-◌, ◌%◌, ◌<◌, ◌≤◌, Bool, true, false, not, if◌then◌else◌, List, [], ◌∷◌, length, ap, sym, ◌∙◌, refl, subst, Result, Ok, Err, IfOk, Some, slice_get, replicate, arith}
use Rattle.std.proofs.lemmas.List.{get_or-replicate, length-replicate}
use Rattle.std.proofs.lemmas.Option.{slice_get-get_or}
use Rattle.guest_words.specs.declared.hart.Hart.{Hart}
use Rattle.guest_words.specs.declared.hart.Slot.{Slot}
use Rattle.guest_words.specs.declared.hart.Waiter.{Waiter}
use Rattle.guest_words.specs.declared.record.Record.{Record}
use Rattle.guest_words.specs.declared.record.Way.{Way}
use Rattle.guest_words.specs.declared.record.Way.TheVariants as way
use Rattle.guest_words.specs.Endings.{is_budget_spent}
use Rattle.guest_words.specs.Harts.{touched}
use Rattle.guest_words.specs.State.{State, on_hart}
use Rattle.checkpoints.specs.declared.checkpoint.Checkpoint.{Checkpoint}
use Rattle.guest_pages.specs.Paged.{with_page}
use Rattle.guest_pages.specs.Stretch.{IsFree}
use Rattle.guest_memory.specs.Kept.{AddressSpace}
use Rattle.guest_memory.specs.Returning.{put_back, can_return, is_in_heap}
use Rattle.guest_memory.proofs.Ranges.{free_after_bytes}
use Rattle.run_history.proofs.StepsAfter.{step_left}
use Rattle.undo_log.specs.declared.note.Note.{Note}
use Rattle.undo_log.specs.declared.note.Note.TheVariants.{Bytes, Made, Gone, Break}
use Rattle.undo_log.specs.Undo.{undone}
use Rattle.hart_step.specs.DeviceAnswers.{read_into, read_over, slots_with, space_with}
use Rattle.hart_step.specs.Ground.{Ground}
use Rattle.hart_step.specs.Live.{IsHeapClear, Waits}
use Rattle.hart_step.specs.Returns.{CanReturn}
use Rattle.hart_step.proofs.HartStates.{states, states-each}

-- what was kept can come back
pub can_return_if : {E : Type 0} (memory : AddressSpace) (steps : ℕ) (harts : List Hart) (queue : List Waiter) (tid : ℕ) (result : Result Checkpoint E)
    → IfOk result (λ kept. kept.harts ≡ harts) → IfOk result (λ kept. kept.queue ≡ queue) → IfOk result (λ kept. kept.next_tid ≡ tid)
    → IsHeapClear memory → Waits queue harts → tid ≤ steps + 2 → IfOk result (λ kept. CanReturn kept memory steps)
can_return_if memory steps harts queue tid (Err e) same_harts same_queue same_tid heap waits few = tt
can_return_if memory steps harts queue tid (Ok kept) same_harts same_queue same_tid heap waits few =
    record {
      heap = heap;
      waits = subst (λ (ws : List Waiter). Waits ws kept.harts) (sym same_queue) (subst (Waits queue) (sym same_harts) waits);
      tid = omega (arith, same_tid, few);
    }

-- the heap behind a read
pub heap_read : (memory : AddressSpace) (place : ℕ) (call : Record) → IsHeapClear memory → IsHeapClear (record memory { space = read_into memory.space place call })
heap_read memory place call clear = by call.way
  where
    by : (w : Way) → IsHeapClear (record memory { space = space_with w memory.space place call.bytes })
    by way.Read = free_after_bytes memory.space _ _ place call.bytes clear
    by way.Write = clear
    by way.Close = clear

pub states-read : (slots : List Slot) (place : ℕ) (call : Record) → states (read_over slots place call) ≡ states slots
states-read slots place call = by call.way
  where
    by : (w : Way) → states (slots_with w slots place (length call.bytes)) ≡ states slots
    by way.Read = states-each (on_hart (touched place (length call.bytes))) slots (λ slot. refl)
    by way.Write = refl
    by way.Close = refl

-- a step is left where the budget isn't spent
pub step_within : (s : State) → is_budget_spent s ≡ false → s.steps ≤ s.budget → s.steps + 1 ≤ s.budget
step_within s left within = let less = step_left s (ap not left) within in omega (arith, less)

-- notes put back beside points
pub undone-ground : (notes : List Note) (ground : Ground)
    → undone (λ (g : Ground) (note : Note). record g { memory = put_back g.memory note }) notes ground ≡ record ground { memory = undone put_back notes ground.memory }
undone-ground [] ground = refl
undone-ground (note ∷ newer) ground = ap (λ (g : Ground). record g { memory = put_back g.memory note }) (undone-ground newer ground)

-- notes leave the low break
low-put_back : (memory : AddressSpace) (note : Note) → (put_back memory note).low ≡ memory.low
low-put_back memory (Bytes address width old) = refl
low-put_back memory (Made from count) = refl
low-put_back memory (Gone page) = by (can_return memory.space page)
  where
    by : (b : Bool) → (if b then record memory { space = with_page memory.space page; spare = memory.spare - 1 } else memory).low ≡ memory.low
    by true = refl
    by false = refl
low-put_back memory (Break old) = by (is_in_heap memory old)
  where
    by : (b : Bool) → (if b then record memory { brk = old } else memory).low ≡ memory.low
    by true = refl
    by false = refl

pub low-undone : (notes : List Note) (memory : AddressSpace) → (undone put_back notes memory).low ≡ memory.low
low-undone [] memory = refl
low-undone (note ∷ newer) memory = low-put_back (undone put_back newer memory) note ∙ low-undone newer memory

-- at the start
pub heap_start : (memory : AddressSpace) → memory.brk ≡ memory.low → memory.low % 4096 ≡ 0 → IsFree memory.space memory.low 0x4000000 → IsHeapClear memory
heap_start memory same aligned free q low high = free q (omega (arith, same, aligned, low)) (omega (arith, same, aligned, low, high))

pub open_start : (n fd : ℕ) → fd < n → slice_get (replicate n false) fd ≡ Some false
open_start n fd less =
    slice_get-get_or (replicate n false) fd false (omega (arith, less, length-replicate n false)) ∙ ap Some (get_or-replicate n fd false false less)
