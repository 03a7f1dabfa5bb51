-- The walk over an act: what holds between a state and itself with one part changed, and of two
-- changes where it holds of each, holds between a state and the one that an act or an entry gives.
use Rattle.std.proofs.Common.{◌≡◌, ℕ, zero, suc, ◌+◌, ◌-◌, ◌*◌, not, ◌&&◌, ◌==◌, List, [], ◌∷◌, ◌++◌, length, Option, Some, None, refl, slice_get, pos}
use Rattle.guest_words.specs.declared.act.Act.{Act}
use Rattle.guest_words.specs.declared.act.Write.{Write}
use Rattle.guest_words.specs.declared.call.Request.{Request as Call}
use Rattle.guest_words.specs.declared.fault.Fault.{Fault as FaultAt}
use Rattle.guest_words.specs.declared.hart.Hart.{Hart}
use Rattle.guest_words.specs.declared.hart.Slot.{Slot}
use Rattle.guest_words.specs.declared.hart.Waiter.{Waiter}
use Rattle.guest_words.specs.declared.point.PointRef.{PointRef}
use Rattle.guest_words.specs.declared.record.Record.{Record}
use Rattle.guest_words.specs.declared.record.Way.{Way}
use Rattle.guest_words.specs.declared.record.Way.TheVariants as way
use Rattle.guest_words.specs.Act.{StateAct, Ordinary, Fault, Request, Arrival, End, Absent, act_of, written}
use Rattle.guest_words.specs.CallChanges.{breaks, gained, heap_rights, lost, maps, unmaps, with_break, answered, asleep, child_slot, clear_of, cleared, clones, departed, exits, queued, readied, ready, roused, unwoken, wakes, with_child, woken}
use Rattle.guest_words.specs.Calls.{mapped_rights, sets_parent_tid}
use Rattle.guest_words.specs.Harts.{opened, touched, unreserved}
use Rattle.guest_words.specs.declared.image.Rights.{Rights}
use Rattle.guest_words.specs.declared.limits.TheConstants.{PAGE}
use Rattle.guest_words.specs.declared.point.Point.{Point}
use Rattle.guest_words.specs.Word.{low_32}
use Rattle.guest_words.specs.Widths.{bytes_in}
use Rattle.guest_words.specs.Points.{code_of, spent}
use Rattle.guest_words.specs.Space.{page_up, pages_in, Space, can_write, low_bytes, with_bytes}
use Rattle.guest_words.specs.State.{State, changed, enter, on_each, stored, with_closed, with_hart}
use Rattle.run_history.specs.After.{called, given_back, moved, next, placed, ran, read_place, rescued_from, with_record}
use Rattle.run_history.proofs.Ands.{if_by}
use Rattle.run_history.proofs.CallCases.{ActCases, CallCases, act_of_by}

-- what a relation has to satisfy of the changes that a hart makes of its own
pub record OwnChanges (h : ℕ) (R : State → State → Type 0) : Type 0 where
  pub same : (s : State) → R s s
  pub both : (a b c : State) → R a b → R b c → R a c
  -- memory, the break, the waiting list, the next tid and the steps are anything
  pub rest : (s : State) (m : Space) (brk : ℕ) (waiting : List Waiter) (tid steps : ℕ) → R s (record s { memory = m; brk = brk; waiting = waiting; next_tid = tid; steps = steps })
  -- the hart
  pub hart : (s : State) (f : Hart → Hart) → R s (with_hart s h f)
  pub closes : (s : State) → R s (with_closed s h)
  pub leaves : (s : State) (code : ℕ) → R s (record s { slots = changed (departed code) h s.slots })
  -- every hart, each as ready as before
  pub each : (s : State) (f : Hart → Hart) → ((hart : Hart) → (f hart).state ≡ hart.state) → R s (record s { slots = on_each f s.slots })

-- and of those that it makes of others
pub record OtherChanges (R : State → State → Type 0) : Type 0 where
  pub wakes : (s : State) (k : ℕ) → R s (with_hart s k ready)
  pub bears : (s : State) (slot : ℕ) (child : Slot → Slot) (parent : Option Slot) → ((p : Slot) → (child p).frames ≡ []) → R s (record s { slots = with_child slot child parent s.slots })

-- an act leads on by the relation
abbrev pub Leads : (State → State → Type 0) → State → StateAct → Type 0
Leads R s (Ordinary t) = R s t
Leads R s _ = Unit {0}

module _ (h : ℕ) (R : State → State → Type 0) (own : OwnChanges h R) where
  -- one change more
  joined : (a b c : State) → R a b → R b c → R a c
  joined a b c p q = own.both a b c p q

  -- bytes that come, go or are written, with the reservations that they touch
  touched_by : (s : State) (m : Space) (from size : ℕ) → R s (record s { memory = m; slots = on_each (touched from size) s.slots })
  touched_by s m from size =
      let t : State = record s { memory = m } in
      joined s t _ (own.rest s m s.brk s.waiting s.next_tid s.steps) (own.each t (touched from size) (λ hart. refl))

  pub stored_by : (s : State) (from : ℕ) (bytes : List ℕ) → R s (stored s from bytes)
  stored_by s from bytes = touched_by s (with_bytes s.memory from bytes) from (length bytes)

  pub written_by : (s : State) (write : Option Write) → R s (written s write)
  written_by s None = own.same s
  written_by s (Some write) = stored_by s write.address (low_bytes (bytes_in write.width) write.value)

  -- an instruction
  pub next_by : (s : State) (hart : Hart) (write : Option Write) → R s (with_closed (written (with_hart s h (λ before. hart)) write) h)
  next_by s hart write =
      let t : State = with_hart s h (λ before. hart) in
      let u : State = written t write in
      joined s t _ (own.hart s (λ before. hart)) (joined t u _ (written_by t write) (own.closes u))

  -- a call that answers at once
  pub value_by : (s : State) (f : Hart → Hart) → R s (with_closed (with_hart s h f) h)
  value_by s f = joined s (with_hart s h f) _ (own.hart s f) (own.closes (with_hart s h f))

  -- pages that come and go
  with_break_by : (s : State) (to : ℕ) → R s (with_break s to)
  with_break_by s to =
      let t : State = gained s (page_up s.brk) (page_up to - page_up s.brk) heap_rights in
      let u : State = lost t (page_up to) (page_up s.brk - page_up to) in
      joined s t _ (touched_by s _ (page_up s.brk) (page_up to - page_up s.brk))
      (joined t u _ (touched_by t _ (page_up to) (page_up s.brk - page_up to)) (own.rest u u.memory to u.waiting u.next_tid u.steps))

  pub breaks_by : (s : State) (to : ℕ) → R s (with_closed (breaks s h to) h)
  breaks_by s to = joined s (with_break s to) _ (with_break_by s to) (value_by (with_break s to) (answered (pos to)))

  pub maps_by : (s : State) (place count : ℕ) (rights : Rights) → R s (with_closed (maps s h place count rights) h)
  maps_by s place count rights =
      let t : State = gained s place (PAGE * count) rights in
      joined s t _ (touched_by s _ place (PAGE * count)) (value_by t (answered (pos place)))

  pub unmaps_by : (s : State) (place count : ℕ) → R s (with_closed (unmaps s h place count) h)
  unmaps_by s place count =
      let t : State = lost s place (PAGE * count) in
      joined s t _ (touched_by s _ place (PAGE * count)) (value_by t (answered (pos 0)))

  module _ (other : OtherChanges R) where
    readied_by : (s : State) (waiting : List Waiter) → R s (record s { slots = readied waiting s.slots })
    unfolding readied
    readied_by s [] = own.same s
    readied_by s (waiter ∷ waiting) = joined s (with_hart s waiter.slot ready) _ (other.wakes s waiter.slot) (readied_by (with_hart s waiter.slot ready) waiting)

    pub roused_by : (s : State) (place most : ℕ) → R s (roused s place most)
    roused_by s place most =
        let t : State = record s { slots = readied (woken place most s.waiting) s.slots } in
        joined s t _ (readied_by s (woken place most s.waiting)) (own.rest t t.memory t.brk (unwoken place most s.waiting) t.next_tid t.steps)

    pub cleared_by : (s : State) (place : ℕ) → R s (cleared s place)
    cleared_by s place =
        let t : State = stored s place (low_bytes 4 0) in
        if_by (R s) (not (place == 0) && can_write s.memory place 4) _ _ (λ e. joined s t _ (stored_by s place (low_bytes 4 0)) (roused_by t place 1)) (λ e. own.same s)

    exits_by : (s : State) (code : ℕ) → R s (exits s h code)
    exits_by s code =
        let t : State = record s { slots = changed (departed code) h s.slots } in
        joined s t _ (own.leaves s code) (cleared_by t (clear_of (slice_get s.slots h)))

    queued_by : (s : State) (place : ℕ) → R s (queued s h place)
    queued_by s place =
        let t : State = record s { waiting = s.waiting ++ (record { slot = h; place = place }) ∷ [] } in
        joined s t _ (own.rest s s.memory s.brk t.waiting s.next_tid s.steps) (own.hart t (asleep place))

    wakes_by : (s : State) (place most : ℕ) → R s (wakes s h place most)
    wakes_by s place most = joined s (roused s place most) _ (roused_by s place most) (own.hart (roused s place most) _)

    clones_by : (s : State) (flags stack parent tls child slot : ℕ) → R s (clones s h slot flags stack parent tls child)
    clones_by s flags stack parent tls child slot =
        let made = with_child slot (child_slot flags stack tls child s.next_tid) (slice_get s.slots h) s.slots in
        let t : State = record s { slots = made } in
        let u : State = record t { next_tid = s.next_tid + 1 } in
        let v : State = with_hart u h (answered (pos s.next_tid)) in
        joined s t _ (other.bears s slot (child_slot flags stack tls child s.next_tid) (slice_get s.slots h) (λ p. refl))
        (joined t u _ (own.rest t t.memory t.brk t.waiting u.next_tid t.steps)
        (joined u v _ (own.hart u (answered (pos s.next_tid)))
        (if_by (R v) (sets_parent_tid flags && can_write s.memory parent 4) _ _ (λ e. stored_by v parent (low_bytes 4 s.next_tid)) (λ e. own.same v))))

    call_cases : (s : State) (call : Call) → CallCases (Leads R s) s h call
    call_cases s call = record {
      value = λ v. value_by s (answered v);
      read = λ fd place size is usable some may. tt;
      write = λ fd place size is usable some may. tt;
      close = λ fd is usable. tt;
      gone = λ code is live. joined s (exits s h code) _ (exits_by s code) (own.closes (exits s h code));
      last = λ code is. tt;
      ends = λ code is. tt;
      queue = λ place value timeout is none. joined s (queued s h place) _ (queued_by s place) (own.closes (queued s h place));
      blocked = tt;
      rouse = λ place value is. joined s (wakes s h place (low_32 value)) _ (wakes_by s place (low_32 value)) (own.closes (wakes s h place (low_32 value)));
      child = λ flags stack parent tls child slot is free.
          joined s (clones s h slot flags stack parent tls child) _ (clones_by s flags stack parent tls child slot) (own.closes (clones s h slot flags stack parent tls child));
      breaks = λ asked to is at. breaks_by s to;
      maps = λ size prot flags place is asked few free. maps_by s place (pages_in size) (mapped_rights prot);
      unmaps = λ place size is within. unmaps_by s place (pages_in size);
    }

    -- every act of a hart alone
    pub walk_cases : (s : State) (a : Act) → ActCases (Leads R s) s h a
    walk_cases s a = record {
      next = λ hart write is. next_by s hart write;
      fault = λ name. tt;
      call = λ call is. call_cases s call;
      arrived = λ point is. tt;
    }

    pub walked_act : (s : State) → Leads R s (act_of s h)
    walked_act s = act_of_by (Leads R s) s h tt (λ slot is. walk_cases s _)

  -- what leads on where each act does

  pub moved_by : (s : State) (a : StateAct) → Leads R s a → R s (moved s a)
  moved_by s (Ordinary t) leads = joined s t _ leads (own.rest t t.memory t.brk t.waiting t.next_tid (s.steps + 1))
  moved_by s (Fault name) leads = own.same s
  moved_by s (Request w port asked place) leads = own.same s
  moved_by s (Arrival point) leads = own.same s
  moved_by s (End code) leads = own.same s
  moved_by s Absent leads = own.same s

  pub next_walked : (s : State) → Leads R s (act_of s h) → R s (next s h)
  unfolding next
  next_walked s leads = moved_by s (act_of s h) leads

  pub ran_walked : (n : ℕ) (s : State) → ((t : State) → Leads R t (act_of t h)) → R s (ran s h n)
  unfolding ran
  ran_walked zero s leads = own.same s
  ran_walked (suc n) s leads = joined s (next s h) _ (next_walked s (leads s)) (ran_walked n (next s h) leads)

  -- entries that change the records

  module _ (records : (s : State) (rs : List Record) → R s (record s { records = rs })) where
    placed_by : (s : State) (w : Way) (place : ℕ) (bytes : List ℕ) → R s (placed s w place bytes)
    placed_by s way.Read place bytes = stored_by s place bytes
    placed_by s way.Write place bytes = own.same s
    placed_by s way.Close place bytes = own.same s

    with_record_by : (s : State) (r : Record) → R s (with_record s r)
    with_record_by s r =
        let t : State = record s { records = s.records ++ r ∷ [] } in
        joined s t _ (records s t.records) (own.rest t t.memory t.brk t.waiting t.next_tid (s.steps + 1))

    pub called_walked : (s : State) (r : Record) → R s (called s h r)
    unfolding called
    called_walked s r =
        let t : State = with_record s r in
        let u : State = placed t r.way (read_place (act_of s h)) r.bytes in
        joined s t _ (with_record_by s r) (joined t u _ (placed_by t r.way (read_place (act_of s h)) r.bytes) (value_by u (answered r.answer)))

    pub rescued_walked : ((s : State) (ps : List Point) → R s (record s { points = ps })) → (s t : State) (point : PointRef) (fault : FaultAt) → R s (rescued_from s h point fault t)
    unfolding rescued_from
    rescued_walked points s t point fault =
        let back = given_back (code_of s.points point.entry fault.name) in
        let u : State = record s { slots = on_each unreserved s.slots } in
        let v : State = with_hart u h back in
        let w : State = record v { records = t.records } in
        let x : State = record w { steps = t.steps } in
        let y : State = record x { points = spent t.points point.entry } in
        joined s u _ (own.each s unreserved (λ hart. refl)) (joined u v _ (own.hart u back)
        (joined v w _ (records v t.records) (joined w x _ (own.rest w w.memory w.brk w.waiting w.next_tid t.steps) (joined x y _ (points x y.points) (own.closes y)))))

  -- entering, where opening a frame leads on too
  pub entered_walked : (s : State) (point : PointRef) → R s (record s { slots = changed (opened point) h s.slots }) → R s (enter s h point)
  unfolding enter
  entered_walked s point opens =
      let t : State = record s { slots = changed (opened point) h s.slots } in
      joined s t _ opens (own.each t unreserved (λ hart. refl))
