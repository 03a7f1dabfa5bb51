-- What a machine keeps of its run, whether calls are open or none is; its devices stand beside it.
use Rattle.std.specs.Prelude.{◌≡◌, ℕ, ◌≤◌, ◌<◌, Bool, true, false, List, [], length, None}
use Rattle.guest_words.specs.State.{State, frames_at}
use Rattle.edge_ports.specs.Seen.{Seen}
use Rattle.run_history.specs.Quiet.{is_quiet}
use Rattle.run_history.specs.Under.{IsUnder}
use Rattle.undo_log.specs.declared.note.Note.{Note}
use Rattle.undo_log.specs.Noted.{Noted}
use Rattle.undo_log.specs.Undo.{gone_in}
use Rattle.hart_step.specs.Live.{Live, space_of}
use Rattle.hart_step.specs.Returns.{CanReturn}
use Rattle.open_calls.specs.Nest.{Nest, Stack, flat, lowest}
use Rattle.open_calls.specs.Stacked.{Stacked}
use Rattle.machine_core.specs.Machine.{IsStart, Machine, Opened}

-- whose calls are open, the calls with the history, the notes of the log, the state, and whether it
-- isn't to go on
pub record Inner : Type 0 where
  pub hart : ℕ
  pub nest : Nest
  pub notes : List Note
  pub live : Live
  pub abandoned : Bool

abbrev pub inner_of : Live → Stack → Noted → Bool → Inner
inner_of live calls log abandoned = record {
  hart = calls.hart;
  nest = calls.nest;
  notes = log.notes;
  live = live;
  abandoned = abandoned;
}

-- a machine with no call open
abbrev pub machine_in : Inner → Seen → Machine
machine_in w d = record {
  history = w.nest.entries;
  state = w.live.state;
  devices = d;
  abandoned = w.abandoned;
}

-- a machine with calls open
abbrev pub opened_in : Inner → Seen → Opened
opened_in w d = record {
  hart = w.hart;
  nest = w.nest;
  notes = w.notes;
  state = w.live.state;
  devices = d;
}

-- the entries of open calls as plain ones
abbrev pub whole_in : Inner → Seen → Machine
whole_in w d = record {
  history = flat w.hart w.nest;
  state = w.live.state;
  devices = d;
  abandoned = w.abandoned;
}

-- the same hart, and the same outermost call while one is open
pub record IsUnderSame (w v : Inner) : Type 0 where
  pub hart : v.hart ≡ w.hart
  pub outermost : 0 < length v.nest.outers → lowest v.nest ≡ lowest w.nest

-- the run goes on by the hart, with a frame open for each open call
pub record IsGoing (w : Inner) : Type 0 where
  pub under : IsUnder w.live.state w.hart
  pub framed : frames_at w.live.state w.hart ≡ length w.nest.outers
  pub kept : w.abandoned ≡ false

-- the run that began so has come so far by its history, with this log
pub record Holds (start : State) (told : Seen) (w : Inner) (log : Noted) : Type 0 where
  pub starts : IsStart start told
  -- each open call was entered in the state that the entries before it give, and can be taken back
  pub stacked : Stacked CanReturn start w.hart w.nest.outers w.nest.entries log.notes
      w.live.state (space_of w.live)
  -- all pages that may come back have room
  pub gone : gone_in log.notes ≤ w.live.spare
  -- with no call open no frame is, but where the run has ended or the machine is abandoned
  pub calm : w.nest.outers ≡ [] → w.live.state.ending ≡ None → w.abandoned ≡ false
      → is_quiet w.live.state ≡ true
  pub called : 0 < length w.nest.outers → IsGoing w
