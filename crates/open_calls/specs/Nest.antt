-- Calls open within calls: what contracts see of them, and how they change.
use Rattle.std.specs.Prelude.{ℕ, ◌==◌, nat_lt, if◌then◌else◌, List, [], ◌∷◌, ◌++◌, drop, length, take}
use Rattle.guest_words.specs.declared.point.PointRef.{PointRef}
use Rattle.checkpoints.specs.declared.checkpoint.Checkpoint.{Checkpoint}
use Rattle.undo_log.specs.declared.note.Note.{Note}
use Rattle.run_history.specs.declared.entry.Entry.{Entry, Entered}

-- what encloses an open call: the entries before it, how many notes the machine's log had at its
-- entering, its point, what was kept then
pub record Level : Type 0 where
  pub entries : List Entry
  pub mark : ℕ
  pub point : PointRef
  pub kept : Checkpoint

-- what encloses each open call, the innermost call's first; and what has been since its entering,
-- or since the run began
pub record Nest : Type 0 where
  pub outers : List Level
  pub entries : List Entry

-- what contracts see of the calls that a hart has open: how many entries more have room too
pub record Stack : Type 0 where
  pub hart : ℕ
  pub nest : Nest
  pub acts : ℕ

-- the entries of an open call behind those of what encloses it
abbrev pub joined : ℕ → Level → List Entry → List Entry
joined h o es = o.entries ++ Entered h o.point ∷ es

abbrev pub closing : ℕ → ℕ → List Level → List Entry → Nest
closing h keep [] es = record { outers = []; entries = es }
closing h keep (o ∷ os) es =
    if nat_lt (length os) keep then record { outers = o ∷ os; entries = es }
    else closing h keep os (joined h o es)

-- calls close, the innermost first, until so many are open
abbrev pub closed_to : ℕ → ℕ → Nest → Nest
closed_to h keep n = closing h keep n.outers n.entries

abbrev pub flat_from : ℕ → List Level → List Entry → List Entry
flat_from h [] es = es
flat_from h (o ∷ os) es = flat_from h os (joined h o es)

-- the whole history, the entries of open calls as plain ones
abbrev pub flat : ℕ → Nest → List Entry
flat h n = flat_from h n.outers n.entries

abbrev pub lowest_from : List Level → List Entry → List Entry
lowest_from [] es = es
lowest_from (o ∷ os) es = lowest_from os o.entries

-- the entries before the outermost call, or all where none is open
abbrev pub lowest : Nest → List Entry
lowest n = lowest_from n.outers n.entries

-- of so many notes those from the entering of a call on
abbrev pub notes_upto : ℕ → Level → List Note → List Note
notes_upto end o ns = drop o.mark (take end ns)

abbrev pub notes_from : ℕ → List Level → ℕ → List Note → List Note
notes_from frame [] end ns = []
notes_from frame (o ∷ os) end ns =
    if frame == length os then notes_upto end o ns else notes_from frame os o.mark ns

-- the notes of the call that so many enclose, up to the entering of the next
abbrev pub notes_in : ℕ → List Note → Nest → List Note
notes_in frame ns n = notes_from frame n.outers (length ns) ns

abbrev pub newest_mark : List Level → ℕ
newest_mark [] = 0
newest_mark (o ∷ os) = o.mark

-- how many notes the log had at the entering of the innermost call, or 0 where none is open
abbrev pub mark_in : Nest → ℕ
mark_in n = newest_mark n.outers

-- what has been so far, as what encloses a further call
abbrev pub enclosing : PointRef → Checkpoint → ℕ → Nest → Level
enclosing point kept mark n =
    record { entries = n.entries; mark = mark; point = point; kept = kept }

-- a call of a point opens, where the log has so many notes
abbrev pub opened : PointRef → Checkpoint → ℕ → Nest → Nest
opened point kept mark n =
    record { outers = enclosing point kept mark n ∷ n.outers; entries = [] }

abbrev pub closed_first : ℕ → List Level → List Entry → Nest
closed_first h [] es = record { outers = []; entries = es }
closed_first h (o ∷ os) es = record { outers = os; entries = joined h o es }

-- the innermost call closes
abbrev pub closed_one : ℕ → Nest → Nest
closed_one h n = closed_first h n.outers n.entries
