-- The state after an entry, and after a history.
use Rattle.std.specs.Prelude.{ℕ, zero, suc, ◌+◌, List, [], ◌∷◌, ◌++◌, Some}
use Rattle.guest_words.specs.declared.point.PointRef.{PointRef}
use Rattle.guest_words.specs.declared.point.Ret.{Ret}
use Rattle.guest_words.specs.declared.fault.Fault.{Fault as FaultAt}
use Rattle.guest_words.specs.declared.hart.Hart.{Hart}
use Rattle.guest_words.specs.declared.record.Record.{Record}
use Rattle.guest_words.specs.declared.record.Way.{Way}
use Rattle.guest_words.specs.declared.record.Way.TheVariants as way
use Rattle.guest_words.specs.declared.abi.TheConstants.{RA}
use Rattle.guest_words.specs.Points.{code_of, spent}
use Rattle.guest_words.specs.Harts.{reg, returned, unreserved}
use Rattle.guest_words.specs.State.{State, changed, on_hart, on_each, with_hart, with_closed, stored, enter}
use Rattle.guest_words.specs.CallChanges.{answered}
use Rattle.guest_words.specs.Act.{StateAct, Ordinary, Request, act_of}
use Rattle.run_history.specs.declared.entry.Entry.{Entry, Ran, Entered, Called, Rescued', Ended, Row_of-Entry, end_of-Entry, more_of-Entry}

-- the second state, with one step more than the first has
abbrev pub counted : State → State → State
counted s t = record t { steps = s.steps + 1 }

-- the state after an ordinary act
abbrev pub moved : State → StateAct → State
moved s (Ordinary t) = counted s t
moved s _ = s

unfoldable pub next : State → ℕ → State
next s h = moved s (act_of s h)

-- the state after so many ordinary acts of a hart
unfoldable pub ran : State → ℕ → ℕ → State
ran s h zero = s
ran s h (suc count) = ran (next s h) h count

-- where a read puts its bytes
abbrev pub read_place : StateAct → ℕ
read_place (Request w port asked place) = place
read_place _ = 0

abbrev pub placed : State → Way → ℕ → List ℕ → State
placed s way.Read place bytes = stored s place bytes
placed s _ place bytes = s

-- the state with a record more, and one step more
abbrev pub with_record : State → Record → State
with_record s r = record s { records = s.records ++ r ∷ []; steps = s.steps + 1 }

-- the state after a call on a device
unfoldable pub called : State → ℕ → Record → State
called s h r =
    let t = placed (with_record s r) r.way (read_place (act_of s h)) r.bytes
    in with_closed (with_hart t h (answered r.answer)) h

-- the hart made to return from the point that it has just come to
abbrev pub given_back : Ret → Hart → Hart
given_back ret hart = returned (reg hart RA) ret hart

-- the state after a rescue of a call that was entered in s and met its fault in t: of t there stay
-- the records, the steps and what is left of the points, of which this one has one less
unfoldable pub rescued_from : State → ℕ → PointRef → FaultAt → State → State
rescued_from s h point fault t =
    with_closed
    (record s {
      slots =
          changed (on_hart (given_back (code_of s.points point.entry fault.name))) h
          (on_each unreserved s.slots);
      records = t.records;
      steps = t.steps;
      points = spent t.points point.entry;
    }) h

unfoldable mutual
  pub after : State → Entry → State
  after s (Ran h count) = ran s h count
  after s (Entered h point) = enter s h point
  after s (Called h call) = called s h call
  after s (Rescued' h point fault shape inside) =
      rescued_from s h point fault (after_row (enter s h point) inside)
  after s (Ended ending) = record s { ending = Some ending }

  pub after_row : State → {m : _} → Row_of-Entry m → State
  after_row s end_of-Entry = s
  after_row s (more_of-Entry e rest) = after_row (after s e) rest

-- the state that all of a history gives
abbrev pub state_after : State → List Entry → State
state_after s [] = s
state_after s (e ∷ es) = state_after (after s e) es

-- the state that a rescued call gives, by the list of its inside
abbrev pub rescued : State → ℕ → PointRef → FaultAt → List Entry → State
rescued s h point fault inside =
    rescued_from s h point fault (state_after (enter s h point) inside)
