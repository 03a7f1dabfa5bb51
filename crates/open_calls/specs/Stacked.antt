-- Open calls over a state: what is known of them.
use Rattle.std.specs.Prelude.{◌≡◌, ℕ, ◌≤◌, true, List, [], ◌∷◌, drop, length, map, take}
use Rattle.guest_words.specs.State.{State, changed, enter, frames_at}
use Rattle.checkpoints.specs.declared.checkpoint.Checkpoint.{Checkpoint}
use Rattle.guest_memory.specs.Kept.{AddressSpace}
use Rattle.guest_memory.specs.Returning.{put_back}
use Rattle.hart_slots.specs.Rejoined.{hart_of, rejoined, reopened}
use Rattle.undo_log.specs.declared.note.Note.{Note}
use Rattle.undo_log.specs.Undo.{undone}
use Rattle.run_history.specs.declared.entry.Entry.{Entry, Entered}
use Rattle.run_history.specs.After.{state_after}
use Rattle.run_history.specs.Legal.{IsLegal, legal_inside}
use Rattle.run_history.specs.Run.{IsRun}
use Rattle.open_calls.specs.Nest.{Level}

-- the memory of a state
pub record IsSpaceOf (m : AddressSpace) (s : State) : Type 0 where
  pub space : m.space ≡ s.memory
  pub low : m.low ≡ s.low
  pub brk : m.brk ≡ s.brk

-- a checkpoint of this state
pub record Keeps (kept : Checkpoint) (s : State) : Type 0 where
  pub harts : kept.harts ≡ map hart_of s.slots
  pub queue : kept.queue ≡ s.waiting
  pub next_tid : kept.next_tid ≡ s.next_tid

-- a further fact about what was kept, where memory was so, and so many steps were made
abbrev pub Fact : Type 1
Fact = Checkpoint → AddressSpace → ℕ → Type 0

-- a call that was entered in the state b with the memory m, with so many frames open, and has come
-- to the state t with the memory n by these entries; of the notes of all calls those since then
-- lead back
pub record IsOpen (Back : Fact) (h : ℕ) (b : State) (m : AddressSpace) (o : Level) (depth : ℕ)
    (es : List Entry) (ns : List Note) (t : State) (n : AddressSpace) : Type 0 where
  pub depth_is : frames_at b h ≡ depth
  pub enters : IsLegal b (Entered h o.point)
  pub goes : legal_inside (enter b h o.point) h depth es ≡ true
  pub reaches : state_after (enter b h o.point) es ≡ t
  pub keeps : Keeps o.kept b
  pub marked : o.mark ≤ length ns
  pub undoes : undone put_back (drop o.mark ns) n ≡ m
  pub space : IsSpaceOf m b
  pub back : Back o.kept m b.steps

-- each open call was entered in the state that what encloses it gives, with the notes before its
-- mark
abbrev pub Stacked : Fact → State → ℕ → List Level → List Entry → List Note → State → AddressSpace
    → Type 0
Stacked Back start h [] es ns t n = IsRun start es × (state_after start es ≡ t)
Stacked Back start h (o ∷ os) es ns t n =
    (b : State) × (m : AddressSpace) × IsOpen Back h b m o (length os) es ns t n
    × Stacked Back start h os o.entries (take o.mark ns) b m

-- a state with memory as it was and with what was kept, the innermost frame of the hart closed: but
-- for what a rescue leaves as it is
abbrev pub brought_back : State → ℕ → Checkpoint → AddressSpace → State
brought_back t h kept m =
    record t {
      memory = m.space;
      brk = m.brk;
      slots = changed reopened h (rejoined kept.harts t.slots);
      waiting = kept.queue;
      next_tid = kept.next_tid;
    }
