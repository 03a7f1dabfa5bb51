-- The act of a hart in a state, and the record that fits a request to a device.
use Rattle.std.specs.Prelude.{ℕ, ℤ, pos, negsuc, Bool, true, false, ◌&&◌, ◌||◌, ◌==◌, nat_lt, nat_le, length, Option, Some, None, nat_eq, slice_get}
use Rattle.std.specs.Cmp.Lexicographic.{pointwise}
use Rattle.std.specs.List.{list_all}
use Rattle.guest_words.specs.declared.point.PointRef.{PointRef}
use Rattle.guest_words.specs.declared.fault.FaultName.{FaultName}
use Rattle.guest_words.specs.declared.fault.FaultName.TheVariants.{BlockedInPoint}
use Rattle.guest_words.specs.declared.hart.Slot.{Slot}
use Rattle.guest_words.specs.declared.record.Record.{Record}
use Rattle.guest_words.specs.declared.record.Way.{Way}
use Rattle.guest_words.specs.declared.record.Way.TheVariants as way
use Rattle.guest_words.specs.declared.call.Request.{Request as Call}
use Rattle.guest_words.specs.declared.call.Request.TheVariants as request
use Rattle.guest_words.specs.declared.call.Reply.{Reply}
use Rattle.guest_words.specs.declared.call.Reply.TheVariants as reply
use Rattle.guest_words.specs.declared.act.Write.{Write}
use Rattle.guest_words.specs.declared.act.Act.{Act}
use Rattle.guest_words.specs.declared.act.Act.TheVariants as hart_act_is
use Rattle.guest_words.specs.Space.{bytes_at, low_bytes}
use Rattle.guest_words.specs.State.{State, with_hart, with_closed, stored}
use Rattle.guest_words.specs.HartAct.{hart_act}
use Rattle.guest_words.specs.declared.linux.TheConstants.{EIO}
use Rattle.guest_words.specs.Widths.{bytes_in}
use Rattle.guest_words.specs.Calls.{reply_of}
use Rattle.guest_words.specs.CallChanges.{facts_of, answered, wakes, queued, exits, clones, breaks, maps, unmaps}

-- the act of a hart in a state
pub data StateAct : Type 0 where
  -- one instruction, or one call that makes no record and doesn't end the run: the state after it
  Ordinary : State → StateAct
  Fault : FaultName → StateAct
  -- a call that reaches a device: way, descriptor, bytes asked for, place in memory
  Request : Way → ℕ → ℕ → ℕ → StateAct
  Arrival : PointRef → StateAct
  -- a call that ends the run with this code
  End : ℕ → StateAct
  -- no act: no slot has that number, or the reply can't come to this call
  Absent : StateAct

-- the state with the store of an instruction made, if it has one
abbrev pub written : State → Option Write → State
written s None = s
written s (Some write) =
    stored s write.address (low_bytes (bytes_in write.width) write.value)

-- a change of the state by an act, after which the frames of the hart close
abbrev pub ordinary : State → ℕ → StateAct
ordinary s h = Ordinary (with_closed s h)

-- what a call does, by its reply
abbrev pub replied : State → ℕ → Reply → Call → StateAct
replied s h (reply.Value value) call = ordinary (with_hart s h (answered value)) h
replied s h (reply.Port asked) (request.Read fd place size) = Request way.Read fd asked place
replied s h (reply.Port asked) (request.Write fd place size) = Request way.Write fd asked place
replied s h (reply.Port asked) (request.Close fd) = Request way.Close fd asked 0
replied s h reply.Gone (request.Exit code) = ordinary (exits s h code) h
replied s h (reply.End code) call = End code
replied s h reply.Queue (request.Wait place value timeout) = ordinary (queued s h place) h
replied s h (reply.Rouse most) (request.Wake place value) = ordinary (wakes s h place most) h
replied s h (reply.Child slot) (request.Clone flags stack parent tls child) =
    ordinary (clones s h slot flags stack parent tls child) h
replied s h (reply.Break to) call = ordinary (breaks s h to) h
replied s h (reply.Map place count rights) call = ordinary (maps s h place count rights) h
replied s h (reply.Unmap place count) call = ordinary (unmaps s h place count) h
replied s h reply.Blocked call = Fault BlockedInPoint
replied s h _ _ = Absent

unfoldable pub act_of_call : State → ℕ → Call → StateAct
act_of_call s h call = replied s h (reply_of call (facts_of s h call)) call

-- the act of a hart alone, as an act in the state
abbrev pub in_state : State → ℕ → Act → StateAct
in_state s h (hart_act_is.Next hart write) =
    ordinary (written (with_hart s h (λ before. hart)) write) h
in_state s h (hart_act_is.Fault name) = Fault name
in_state s h (hart_act_is.Call call) = act_of_call s h call
in_state s h (hart_act_is.Arrived point) = Arrival point

abbrev pub act_of_slot : State → ℕ → Option Slot → StateAct
act_of_slot s h None = Absent
act_of_slot s h (Some slot) =
    in_state s h (hart_act s.memory s.points (length slot.frames) slot.hart)

-- the act of the hart in a slot
unfoldable pub act_of : State → ℕ → StateAct
act_of s h = act_of_slot s h (slice_get s.slots h)

-- records

abbrev pub is_same_way : Way → Way → Bool
is_same_way way.Read way.Read = true
is_same_way way.Write way.Write = true
is_same_way way.Close way.Close = true
is_same_way _ _ = false

abbrev pub is_answer : ℤ → ℤ → Bool
is_answer (pos m) (pos n) = m == n
is_answer (negsuc m) (negsuc n) = m == n
is_answer _ _ = false

-- an answer is this number of bytes
abbrev pub is_count : ℕ → ℤ → Bool
is_count n answer = is_answer answer (pos n)

-- a device failed: the answer is -EIO, and no byte went
abbrev pub is_failure : Record → Bool
is_failure r = is_answer r.answer EIO && (length r.bytes == 0)

-- the bytes and the answer of a record, by its way
abbrev pub is_served : State → Way → ℕ → ℕ → Record → Bool
is_served s way.Write asked place r =
    is_failure r
    || (is_count asked r.answer && pointwise nat_eq r.bytes (bytes_at s.memory place asked))
is_served s way.Read asked place r =
    is_failure r
    || (is_count (length r.bytes) r.answer && nat_le (length r.bytes) asked
    && list_all (λ byte. nat_lt byte 256) r.bytes)
is_served s way.Close asked place r =
    (asked == 0) && is_count 0 r.answer && (length r.bytes == 0)

-- a record fits a request: it is of the same way, descriptor and number of bytes, and so served
abbrev pub fits : State → StateAct → Record → Bool
fits s (Request w port asked place) r =
    is_same_way r.way w && (r.port == port) && (r.asked == asked) && is_served s w asked place r
fits s _ r = false
