-- A rescue: what was kept at the entry comes back, and the hart returns from the call.
use Rattle.std.specs.Prelude.{ℕ, ◌+◌, ◌≤◌, List}
use Rattle.guest_words.specs.State.{State, changed}
use Rattle.checkpoints.specs.declared.checkpoint.Checkpoint.{Checkpoint}
use Rattle.guest_memory.specs.Kept.{AddressSpace}
use Rattle.guest_memory.specs.Returning.{put_back}
use Rattle.hart_slots.specs.Rejoined.{rejoined, reopened}
use Rattle.undo_log.specs.declared.note.Note.{Note}
use Rattle.undo_log.specs.Undo.{undone}
use Rattle.hart_step.specs.Live.{Live, space_of, with_space, IsHeapClear, Waits}

-- memory with the notes since the entry put back
abbrev pub space_before : Live → List Note → AddressSpace
space_before live notes = undone put_back notes (space_of live)

-- the state at the entry of a hart's innermost frame, but for what a rescue leaves as it is
abbrev pub rolled_back : Live → ℕ → Checkpoint → List Note → State
rolled_back live h kept notes =
    record (with_space live.state (space_before live notes)) {
      slots = changed reopened h (rejoined kept.harts live.state.slots);
      waiting = kept.queue;
      next_tid = kept.next_tid;
    }

-- what was kept where memory was so, and so many steps were made, can come back
pub record CanReturn (kept : Checkpoint) (memory : AddressSpace) (steps : ℕ) : Type 0 where
  pub heap : IsHeapClear memory
  pub waits : Waits kept.queue kept.harts
  pub tid : kept.next_tid ≤ steps + 2
