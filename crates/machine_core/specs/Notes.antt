-- How the notes of open calls go on in a step.
use Rattle.std.specs.Prelude.{◌≡◌, ℕ, ◌+◌, ◌-◌, ◌≤◌, ◌<◌, List, [], length, max}
use Rattle.guest_words.specs.Act.{StateAct, Request, act_of}
use Rattle.guest_words.specs.State.{State}
use Rattle.hart_step.specs.Noted.{notes_for}
use Rattle.open_calls.specs.Nest.{Nest, notes_in}
use Rattle.undo_log.specs.declared.note.Note.{Note}
use Rattle.machine_core.specs.Machine.{Opened}

abbrev pub notes_by : StateAct → State → ℕ → State → ℕ
notes_by (Request way port asked place) s h t = asked
notes_by _ s h t = max (notes_for s h) (t.steps - s.steps)

-- so many notes at most come where a hart goes from one state to another: for a call on a device
-- one for each byte; for acts in a row one for each, or as many as the first can make
abbrev pub most_notes : State → ℕ → State → ℕ
most_notes s h t = notes_by (act_of s h) s h t

-- the innermost call has none
abbrev pub IsUnnoted : Nest → List Note → Type 0
IsUnnoted n ns = notes_in (length n.outers - 1) ns n ≡ []

-- the notes of open calls from one state to the next: no more come than its acts can make
pub record NotesGoOn (a b : Opened) : Type 0 where
  pub few : length b.notes ≤ length a.notes + most_notes a.state a.hart b.state
  -- a call that has opened has none
  pub none : length a.nest.outers < length b.nest.outers → IsUnnoted b.nest b.notes
