-- A ready hart that has a frame open after its act is ready still: one that exits has none, and one
-- that has a frame open doesn't wait.
use Rattle.std.proofs.Common.{◌≡◌, inl, inr, ℕ, zero, suc, ◌-◌, ◌*◌, ◌<◌, ◌≤◌, ℤ, pos, true, ◌&&◌, List, [], ◌∷◌, length, set, Option, Some, None, option_map, refl, ap, ◌∙◌, slice_get, subst, arith}
use Rattle.std.proofs.lemmas.Bool.Decides.{nat_tests}
use Rattle.std.proofs.lemmas.Option.{slice_get-map}
use Rattle.guest_words.specs.declared.act.Act.{Act}
use Rattle.guest_words.specs.declared.act.Act.TheVariants as act
use Rattle.guest_words.specs.declared.act.Write.{Write}
use Rattle.guest_words.specs.declared.call.Request.{Request as Call}
use Rattle.guest_words.specs.declared.hart.Hart.{Hart}
use Rattle.guest_words.specs.declared.hart.Slot.{Slot}
use Rattle.guest_words.specs.declared.hart.Waiter.{Waiter}
use Rattle.guest_words.specs.declared.fault.Fault.{Fault as FaultAt}
use Rattle.guest_words.specs.declared.limits.TheConstants.{PAGE}
use Rattle.guest_words.specs.declared.point.Ret.{Ret}
use Rattle.guest_words.specs.declared.point.Ret.TheVariants.{Code, Void}
use Rattle.guest_words.specs.declared.point.Point.{Point}
use Rattle.guest_words.specs.declared.point.PointRef.{PointRef}
use Rattle.guest_words.specs.declared.record.Record.{Record}
use Rattle.guest_words.specs.declared.record.Way.{Way}
use Rattle.guest_words.specs.declared.record.Way.TheVariants as way
use Rattle.guest_words.specs.Act.{StateAct, Ordinary, Fault, Request, Arrival, End, Absent, act_of, written}
use Rattle.guest_words.specs.CallChanges.{answered, asleep, child_slot, clear_of, cleared, clones, departed, exits, gained, heap_rights, lost, queued, readied, ready as woken_up, roused, wakes, with_break, with_child, with_new_hart, woken}
use Rattle.guest_words.specs.Calls.{mapped_rights, sets_parent_tid}
use Rattle.guest_words.specs.HartAct.{hart_act}
use Rattle.guest_words.specs.Harts.{is_ready, opened, unreserved}
use Rattle.guest_words.specs.Points.{code_of}
use Rattle.guest_words.specs.Space.{Space, can_write, page_up, pages_in}
use Rattle.guest_words.specs.State.{State, changed, closed, enter, frame_count, frames_at, on_each, on_hart, with_closed, with_hart}
use Rattle.guest_words.specs.Word.{low_32}
use Rattle.run_history.specs.After.{called, given_back, moved, next, placed, ran, read_place, rescued_from, with_record}
use Rattle.run_history.specs.Legal.{is_ready_at, is_ready_slot}
use Rattle.run_history.proofs.Ands.{if_by, same_or}
use Rattle.run_history.proofs.CallCases.{CallCases, act_of_by}
use Rattle.run_history.proofs.FewerFrames.{OpensNone, changed_fewer, fewer_both, length-close_frames, opens_none, opens_none_other, ran_fewer}
use Rattle.run_history.proofs.InstCases.{InstCases, hart_act_by}
use Rattle.run_history.proofs.Slots.{changed-get, changed-other}
use Rattle.run_history.proofs.Walk.{cleared_by}

-- changes that leave a hart ready

slot_ready : (f : Slot → Slot) → ((slot : Slot) → is_ready slot.hart.state ≡ true → is_ready (f slot).hart.state ≡ true) → (o : Option Slot) → is_ready_slot o ≡ true → is_ready_slot (option_map f o) ≡ true
slot_ready f keeps None ready = cc
slot_ready f keeps (Some slot) ready = keeps slot ready

changed_ready : (f : Slot → Slot) (h : ℕ) (slots : List Slot) → ((slot : Slot) → is_ready slot.hart.state ≡ true → is_ready (f slot).hart.state ≡ true)
    → is_ready_slot (slice_get slots h) ≡ true → is_ready_slot (slice_get (changed f h slots) h) ≡ true
changed_ready f h slots keeps ready = ap is_ready_slot (changed-get f h slots) ∙ slot_ready f keeps (slice_get slots h) ready

each_ready : (f : Hart → Hart) (h : ℕ) (slots : List Slot) → ((hart : Hart) → is_ready hart.state ≡ true → is_ready (f hart).state ≡ true)
    → is_ready_slot (slice_get slots h) ≡ true → is_ready_slot (slice_get (on_each f slots) h) ≡ true
each_ready f h slots keeps ready = ap is_ready_slot (slice_get-map (on_hart f) slots h) ∙ slot_ready (on_hart f) (λ slot. keeps slot.hart) (slice_get slots h) ready

closed_ready : (s : State) (h : ℕ) → is_ready_at s h ≡ true → is_ready_at (with_closed s h) h ≡ true
closed_ready s h ready = changed_ready closed h s.slots (λ slot is. is) ready

hart_ready : (s : State) (h : ℕ) (f : Hart → Hart) → ((hart : Hart) → is_ready hart.state ≡ true → is_ready (f hart).state ≡ true) → is_ready_at s h ≡ true → is_ready_at (with_hart s h f) h ≡ true
hart_ready s h f keeps ready = changed_ready (on_hart f) h s.slots (λ slot. keeps slot.hart) ready

answered_ready : (s : State) (h : ℕ) (value : ℤ) → is_ready_at s h ≡ true → is_ready_at (with_closed (with_hart s h (answered value)) h) h ≡ true
answered_ready s h value ready = closed_ready (with_hart s h (answered value)) h (hart_ready s h (answered value) (λ hart is. is) ready)

written_ready : (s : State) (h : ℕ) (write : Option Write) → is_ready_at s h ≡ true → is_ready_at (written s write) h ≡ true
written_ready s h None ready = ready
written_ready s h (Some write) ready = each_ready _ h s.slots (λ hart is. is) ready

-- an instruction leaves a hart as ready as it was

abbrev LeavesReady : Hart → Act → Type 0
LeavesReady hart (act.Next after write) = after.state ≡ hart.state
LeavesReady hart _ = Unit {0}

leaves_ready : (m : Space) (points : List Point) (frames : ℕ) (hart : Hart) → LeavesReady hart (hart_act m points frames hart)
leaves_ready m points frames hart = hart_act_by (LeavesReady hart) m hart cases points frames (λ point at. tt)
  where
    cases : InstCases (LeavesReady hart) m hart
    cases = record {
      next = λ after same. same;
      store = λ after place width value same may. same;
      fault = λ name. tt;
      call = λ inst at kind. tt;
    }

-- a change of any slot that leaves it ready
any_ready : (f : Slot → Slot) (k h : ℕ) (slots : List Slot) → ((slot : Slot) → is_ready slot.hart.state ≡ true → is_ready (f slot).hart.state ≡ true)
    → is_ready_slot (slice_get slots h) ≡ true → is_ready_slot (slice_get (changed f k slots) h) ≡ true
any_ready f k h slots keeps ready = elim (same_or h k) [
  | inl same ↦ subst (λ (j : ℕ). is_ready_slot (slice_get (changed f j slots) h) ≡ true) same (changed_ready f h slots keeps ready)
  | inr apart ↦ ap is_ready_slot (changed-other f k slots h apart) ∙ ready
]

readied_ready : (waiting : List Waiter) (h : ℕ) (slots : List Slot) → is_ready_slot (slice_get slots h) ≡ true → is_ready_slot (slice_get (readied waiting slots) h) ≡ true
unfolding readied
readied_ready [] h slots ready = ready
readied_ready (waiter ∷ waiting) h slots ready =
    readied_ready waiting h (changed (on_hart woken_up) waiter.slot slots) (any_ready (on_hart woken_up) waiter.slot h slots (λ slot is. refl) ready)

set_ready : (slots : List Slot) (k h : ℕ) (x : Slot) → is_ready x.hart.state ≡ true → is_ready_slot (slice_get slots h) ≡ true → is_ready_slot (slice_get (set slots k x) h) ≡ true
set_ready [] k h x new ready = ready
set_ready (y ∷ ys) zero zero x new ready = new
set_ready (y ∷ ys) zero (suc h) x new ready = ready
set_ready (y ∷ ys) (suc k) zero x new ready = ready
set_ready (y ∷ ys) (suc k) (suc h) x new ready = set_ready ys k h x new ready

child_ready : (slot : ℕ) (child : Slot → Slot) (o : Option Slot) (slots : List Slot) (h : ℕ) → ((parent : Slot) → is_ready (child parent).hart.state ≡ true)
    → is_ready_slot (slice_get slots h) ≡ true → is_ready_slot (slice_get (with_child slot child o slots) h) ≡ true
child_ready slot child None slots h new ready = ready
child_ready slot child (Some parent) slots h new ready = set_ready slots slot h (child parent) (new parent) ready

-- calls that leave a hart ready, before its frames close

with_break_ready : (s : State) (h to : ℕ) → is_ready_at s h ≡ true → is_ready_at (with_break s to) h ≡ true
with_break_ready s h to ready =
    let t : State = gained s (page_up s.brk) (page_up to - page_up s.brk) heap_rights in
    each_ready _ h t.slots (λ hart is. is) (each_ready _ h s.slots (λ hart is. is) ready)

wakes_ready : (s : State) (h place most : ℕ) → is_ready_at s h ≡ true → is_ready_at (wakes s h place most) h ≡ true
wakes_ready s h place most ready =
    hart_ready (roused s place most) h (answered (pos (length (woken place most s.waiting)))) (λ hart is. is) (readied_ready (woken place most s.waiting) h s.slots ready)

clones_ready : (s : State) (h slot flags stack parent tls child : ℕ) → is_ready_at s h ≡ true → is_ready_at (clones s h slot flags stack parent tls child) h ≡ true
clones_ready s h slot flags stack parent tls child ready =
    let t : State = with_new_hart s h slot (child_slot flags stack tls child s.next_tid) in
    let u : State = with_hart t h (answered (pos s.next_tid)) in
    let born = child_ready slot (child_slot flags stack tls child s.next_tid) (slice_get s.slots h) s.slots h (λ p. refl) ready in
    let both = hart_ready t h (answered (pos s.next_tid)) (λ hart is. is) born in
    if_by (λ (v : State). is_ready_at v h ≡ true) (sets_parent_tid flags && can_write s.memory parent 4) _ u (λ e. each_ready _ h u.slots (λ hart is. is) both) (λ e. both)

-- a hart that exits has no frame open

cleared_fewer : (s : State) (place h : ℕ) → frames_at (cleared s place) h ≤ frames_at s h
cleared_fewer s place h = cleared_by h OpensNone (opens_none h) opens_none_other s place h

exits_frameless : (s : State) (h code : ℕ) → frames_at (with_closed (exits s h code) h) h ≡ 0
exits_frameless s h code =
    let t : State = record s { slots = changed (departed code) h s.slots } in
    let u : State = exits s h code in
    let none : frames_at t h ≡ 0 = ap frame_count (changed-get (departed code) h s.slots) ∙ departed_none (slice_get s.slots h) in
    let few : frames_at u h ≤ frames_at t h = cleared_fewer t (clear_of (slice_get s.slots h)) h in
    let fewer : frames_at (with_closed u h) h ≤ frames_at u h = changed_fewer closed h u.slots (λ slot. length-close_frames slot.hart slot.frames) h in
    omega (arith, none, few, fewer)
  where
    departed_none : (o : Option Slot) → frame_count (option_map (departed code) o) ≡ 0
    departed_none None = refl
    departed_none (Some slot) = refl

-- an act leads to no state in which the hart has a frame open and isn't ready
abbrev pub KeepsReady : ℕ → StateAct → Type 0
KeepsReady h (Ordinary t) = 0 < frames_at t h → is_ready_at t h ≡ true
KeepsReady h _ = Unit {0}

ready_call : (s : State) (h : ℕ) (call : Call) → is_ready_at s h ≡ true → CallCases (KeepsReady h) s h call
ready_call s h call ready = record {
  value = λ v some. answered_ready s h v ready;
  read = λ fd place size is usable some may. tt;
  write = λ fd place size is usable some may. tt;
  close = λ fd is usable. tt;
  gone = λ code is live some. let none = exits_frameless s h code in absurd (omega (arith, none, some));
  last = λ code is. tt;
  ends = λ code is. tt;
  queue = λ place value timeout is none some.
      let t : State = queued s h place in
      let few : frames_at (with_closed t h) h ≤ frames_at s h =
      fewer_both s.slots t.slots (with_closed t h).slots (changed_fewer (on_hart (asleep place)) h s.slots (λ slot. omega arith)) (changed_fewer closed h t.slots (λ slot. length-close_frames slot.hart slot.frames)) h in
      absurd (grind (arith, nat_tests, none, few, some));
  blocked = tt;
  rouse = λ place value is some. closed_ready (wakes s h place (low_32 value)) h (wakes_ready s h place (low_32 value) ready);
  child = λ flags stack parent tls child slot is free some.
      closed_ready (clones s h slot flags stack parent tls child) h (clones_ready s h slot flags stack parent tls child ready);
  breaks = λ asked to is at some. answered_ready (with_break s to) h (pos to) (with_break_ready s h to ready);
  maps = λ size prot flags place is asked few free some.
      answered_ready (gained s place (PAGE * pages_in size) (mapped_rights prot)) h (pos place) (each_ready _ h s.slots (λ hart is. is) ready);
  unmaps = λ place size is within some. answered_ready (lost s place (PAGE * pages_in size)) h (pos 0) (each_ready _ h s.slots (λ hart is. is) ready);
}

pub act_ready : (s : State) (h : ℕ) → is_ready_at s h ≡ true → KeepsReady h (act_of s h)
act_ready s h ready =
    act_of_by (KeepsReady h) s h tt (λ slot is.
    let frames = length slot.frames in
    let own : is_ready slot.hart.state ≡ true = subst (λ (o : Option Slot). is_ready_slot o ≡ true) is ready in
    record {
      next = λ hart write does some.
          let same : hart.state ≡ slot.hart.state = subst (LeavesReady slot.hart) does (leaves_ready s.memory s.points frames slot.hart) in
          let t : State = with_hart s h (λ before. hart) in
          closed_ready (written t write) h (written_ready t h write (hart_ready s h (λ before. hart) (λ before old. ap is_ready same ∙ own) ready));
      fault = λ name. tt;
      call = λ call does. ready_call s h call ready;
      arrived = λ point does. tt;
    })

-- a hart with a frame open after its act is ready still
pub next_ready : (s : State) (h : ℕ) → is_ready_at s h ≡ true → 0 < frames_at (next s h) h → is_ready_at (next s h) h ≡ true
unfolding next
next_ready s h ready some = by (act_of s h) (act_ready s h ready) some
  where
    by : (a : StateAct) → KeepsReady h a → 0 < frames_at (moved s a) h → is_ready_at (moved s a) h ≡ true
    by (Ordinary t) keeps some = keeps some
    by (Fault name) keeps some = ready
    by (Request w port asked place) keeps some = ready
    by (Arrival point) keeps some = ready
    by (End code) keeps some = ready
    by Absent keeps some = ready

-- and after so many acts
pub ran_ready : (s : State) (h n : ℕ) → is_ready_at s h ≡ true → 0 < frames_at (ran s h n) h → is_ready_at (ran s h n) h ≡ true
unfolding ran
ran_ready s h zero ready some = ready
ran_ready s h (suc n) ready some =
    let few : frames_at (ran (next s h) h n) h ≤ frames_at (next s h) h = ran_fewer (next s h) h n h in
    ran_ready (next s h) h n (next_ready s h ready (omega (arith, few, some))) some

placed_ready : (s : State) (w : Way) (place : ℕ) (bytes : List ℕ) (h : ℕ) → is_ready_at s h ≡ true → is_ready_at (placed s w place bytes) h ≡ true
placed_ready s way.Read place bytes h ready = each_ready _ h s.slots (λ hart is. is) ready
placed_ready s way.Write place bytes h ready = ready
placed_ready s way.Close place bytes h ready = ready

-- a hart stays ready over a call on a device
pub called_ready : (s : State) (h : ℕ) (call : Record) → is_ready_at s h ≡ true → is_ready_at (called s h call) h ≡ true
unfolding called
called_ready s h call ready =
    let t : State = placed (with_record s call) call.way (read_place (act_of s h)) call.bytes in
    answered_ready t h call.answer (placed_ready (with_record s call) call.way (read_place (act_of s h)) call.bytes h ready)

-- where it enters a point
pub entered_ready : (s : State) (h : ℕ) (p : PointRef) → is_ready_at s h ≡ true → is_ready_at (enter s h p) h ≡ true
unfolding enter
entered_ready s h p ready =
    each_ready unreserved h (changed (opened p) h s.slots) (λ hart is. is) (changed_ready (opened p) h s.slots (λ slot is. is) ready)

-- and where a call of its is taken back

state_back : (ret : Ret) (hart : Hart) → (given_back ret hart).state ≡ hart.state
state_back (Code value) hart = refl
state_back Void hart = refl

pub rescued_ready : (s : State) (h : ℕ) (p : PointRef) (f : FaultAt) (t : State) → is_ready_at s h ≡ true → is_ready_at (rescued_from s h p f t) h ≡ true
unfolding rescued_from
rescued_ready s h p f t ready =
    let ret = code_of s.points p.entry f.name in
    let plain = on_each unreserved s.slots in
    let back = changed (on_hart (given_back ret)) h plain in
    changed_ready closed h back (λ slot is. is)
    (changed_ready (on_hart (given_back ret)) h plain (λ slot is. ap is_ready (state_back ret slot.hart) ∙ is) (each_ready unreserved h s.slots (λ hart is. is) ready))
