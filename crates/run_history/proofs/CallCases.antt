-- What a call does, by its rules: an eliminator for what is said of the act of a hart in a state.
use Rattle.std.proofs.Common.{◌≡◌, ℕ, ◌+◌, ◌≤◌, ◌||◌, ◌%◌, ℤ, pos, Bool, true, false, not, ◌==◌, nat_lt, if◌then◌else◌, length, Option, Some, None, refl, slice_get, arith}
use Rattle.std.proofs.lemmas.Bool.Decides.{nat_tests}
use Rattle.guest_words.specs.declared.act.Act.{Act}
use Rattle.guest_words.specs.declared.act.Act.TheVariants as act
use Rattle.guest_words.specs.declared.act.Write.{Write}
use Rattle.guest_words.specs.declared.call.Reply.{Reply}
use Rattle.guest_words.specs.declared.call.Reply.TheVariants as reply
use Rattle.guest_words.specs.declared.call.Request.{Request as Call}
use Rattle.guest_words.specs.declared.call.Request.TheVariants as request
use Rattle.guest_words.specs.declared.fault.FaultName.{FaultName}
use Rattle.guest_words.specs.declared.fault.FaultName.TheVariants.{BlockedInPoint}
use Rattle.guest_words.specs.declared.hart.Hart.{Hart}
use Rattle.guest_words.specs.declared.hart.Slot.{Slot}
use Rattle.guest_words.specs.declared.point.PointRef.{PointRef}
use Rattle.guest_words.specs.declared.record.Way.TheVariants as way
use Rattle.guest_words.specs.declared.limits.TheConstants.{HEAP_BYTES, MAP_PAGES, PAGE}
use Rattle.guest_words.specs.declared.linux.TheConstants.{EAGAIN, EBADF, EFAULT, EINVAL, ENOMEM, ENOSYS}
use Rattle.guest_words.specs.Word.{low_32}
use Rattle.guest_words.specs.Act.{StateAct, Fault, Request, Arrival, End, Absent, act_of, act_of_call, act_of_slot, in_state, ordinary, replied, written}
use Rattle.guest_words.specs.CallChanges.{breaks, maps, unmaps, free_place, mapped_pages, answered, any_other, clones, exits, facts_of, free_slot, is_live, is_readable, is_usable, queued, tid_of, wakes, word_at}
use Rattle.guest_words.specs.Calls.{child_in, cut, makes_hart, reply_of, reply_of_transfer, is_map_known, is_in_area, mapped_at, mapped_rights}
use Rattle.guest_words.specs.HartAct.{hart_act}
use Rattle.guest_words.specs.Space.{pages_in, can_read, can_write}
use Rattle.guest_words.specs.State.{State, frames_at, is_open, with_hart}
use Rattle.run_history.proofs.Ands.{if_by}

-- what has to be shown of each thing that a call can do
pub record CallCases (P : StateAct → Type 0) (s : State) (h : ℕ) (call : Call) : Type 0 where
  pub value : (v : ℤ) → P (ordinary (with_hart s h (answered v)) h)
  pub read : (fd place size : ℕ) → call ≡ request.Read fd place size → is_usable s (request.Read fd place size) ≡ true → 1 ≤ cut size
      → can_write s.memory place (cut size) ≡ true → P (Request way.Read fd (cut size) place)
  pub write : (fd place size : ℕ) → call ≡ request.Write fd place size → is_usable s (request.Write fd place size) ≡ true → 1 ≤ cut size
      → can_read s.memory place (cut size) ≡ true → P (Request way.Write fd (cut size) place)
  pub close : (fd : ℕ) → call ≡ request.Close fd → is_open s fd ≡ true → P (Request way.Close fd 0 0)
  pub gone : (code : ℕ) → call ≡ request.Exit code → any_other is_live h s.slots ≡ true → P (ordinary (exits s h code) h)
  pub last : (code : ℕ) → call ≡ request.Exit code → P (End (code % 256))
  pub ends : (code : ℕ) → call ≡ request.ExitGroup code → P (End (code % 256))
  pub queue : (place value timeout : ℕ) → call ≡ request.Wait place value timeout → nat_lt 0 (frames_at s h) ≡ false → P (ordinary (queued s h place) h)
  pub blocked : P (Fault BlockedInPoint)
  pub rouse : (place value : ℕ) → call ≡ request.Wake place value → P (ordinary (wakes s h place (low_32 value)) h)
  pub child : (flags stack parent tls child slot : ℕ) → call ≡ request.Clone flags stack parent tls child → free_slot s.slots ≡ Some slot
      → P (ordinary (clones s h slot flags stack parent tls child) h)
  -- the break comes to lie in the heap, or stays
  pub breaks : (asked to : ℕ) → call ≡ request.Break asked → to ≡ (if nat_lt asked s.low || nat_lt (s.low + HEAP_BYTES) asked then s.brk else asked) → P (ordinary (breaks s h to) h)
  pub maps : (size prot flags place : ℕ) → call ≡ request.Map size prot flags → ((size == 0) || not (is_map_known prot flags)) ≡ false
      → nat_lt MAP_PAGES (mapped_pages s.memory + pages_in size) ≡ false → free_place s.memory (pages_in size) ≡ Some place
      → P (ordinary (maps s h place (pages_in size) (mapped_rights prot)) h)
  pub unmaps : (place size : ℕ) → call ≡ request.Unmap place size → (not (place % PAGE == 0) || (size == 0) || not (is_in_area place (pages_in size))) ≡ false
      → P (ordinary (unmaps s h place (pages_in size)) h)

-- what has to be shown of each act of a hart alone, as one in the state
pub record ActCases (P : StateAct → Type 0) (s : State) (h : ℕ) (a : Act) : Type 0 where
  pub next : (hart : Hart) (write : Option Write) → a ≡ act.Next hart write → P (ordinary (written (with_hart s h (λ before. hart)) write) h)
  pub fault : (name : FaultName) → P (Fault name)
  pub call : (call : Call) → a ≡ act.Call call → CallCases P s h call
  pub arrived : (point : PointRef) → a ≡ act.Arrived point → P (Arrival point)

module _ (P : StateAct → Type 0) (s : State) (h : ℕ) where
  either : (call : Call) (b : Bool) (x y : Reply) → (b ≡ true → P (replied s h x call)) → (b ≡ false → P (replied s h y call)) → P (replied s h (if b then x else y) call)
  either call b x y p q = if_by (λ (r : Reply). P (replied s h r call)) b x y p q

  transfer : (call : Call) (size : ℕ) (usable reached : Bool) → ((v : ℤ) → P (replied s h (reply.Value v) call))
      → (usable ≡ true → 1 ≤ cut size → reached ≡ true → P (replied s h (reply.Port (cut size)) call)) → P (replied s h (reply_of_transfer size usable reached) call)
  transfer call size false reached values goes = values EBADF
  transfer call size true false values goes = either call (size == 0) _ _ (λ e. values (pos 0)) (λ e. values EFAULT)
  transfer call size true true values goes = either call (size == 0) _ _ (λ e. values (pos 0)) (λ e. goes refl (grind (arith, nat_tests, e)) refl)

  -- every call, by the rules of its row in their order
  pub call_by : (call : Call) → CallCases P s h call → P (act_of_call s h call)
  unfolding act_of_call reply_of facts_of
  call_by (request.Read fd place size) cases =
      transfer (request.Read fd place size) size (is_usable s (request.Read fd place size)) (can_write s.memory place (cut size)) cases.value (cases.read fd place size refl)
  call_by (request.Write fd place size) cases =
      transfer (request.Write fd place size) size (is_usable s (request.Write fd place size)) (can_read s.memory place (cut size)) cases.value (cases.write fd place size refl)
  call_by (request.Close fd) cases = either (request.Close fd) (is_usable s (request.Close fd)) _ _ (cases.close fd refl) (λ e. cases.value EBADF)
  call_by (request.Exit code) cases = either (request.Exit code) (any_other is_live h s.slots) _ _ (cases.gone code refl) (λ e. cases.last code refl)
  call_by (request.ExitGroup code) cases = cases.ends code refl
  call_by (request.Wait place value timeout) cases =
      let wait = request.Wait place value timeout in
      either wait (not (place % 4 == 0)) _ _ (λ e. cases.value EINVAL) (λ e. either wait (not (timeout == 0)) _ _ (λ e. cases.value EINVAL)
      (λ e. either wait (not (is_readable s wait)) _ _ (λ e. cases.value EFAULT) (λ e. either wait (not (word_at s wait == low_32 value)) _ _ (λ e. cases.value EAGAIN)
      (λ e. either wait (nat_lt 0 (frames_at s h)) _ _ (λ e. cases.blocked) (cases.queue place value timeout refl)))))
  call_by (request.Wake place value) cases = either (request.Wake place value) (not (place % 4 == 0)) _ _ (λ e. cases.value EINVAL) (λ e. cases.rouse place value refl)
  call_by (request.Clone flags stack parent tls child) cases =
      either (request.Clone flags stack parent tls child) (makes_hart flags) _ _ (λ e. by (free_slot s.slots) refl) (λ e. cases.value EINVAL)
    where
      by : (o : Option ℕ) → free_slot s.slots ≡ o → P (replied s h (child_in o) (request.Clone flags stack parent tls child))
      by None is = cases.value EAGAIN
      by (Some slot) is = cases.child flags stack parent tls child slot refl is
  call_by (request.Break asked) cases = cases.breaks asked _ refl refl
  call_by (request.Map size prot flags) cases =
      let map = request.Map size prot flags in
      either map ((size == 0) || not (is_map_known prot flags)) _ _ (λ e. cases.value EINVAL)
      (λ asked. either map (nat_lt MAP_PAGES (mapped_pages s.memory + pages_in size)) _ _ (λ e. cases.value ENOMEM)
      (λ few. by (free_place s.memory (pages_in size)) (λ place. cases.maps size prot flags place refl asked few)))
    where
      by : (o : Option ℕ) → ((place : ℕ) → o ≡ Some place → P (ordinary (maps s h place (pages_in size) (mapped_rights prot)) h))
          → P (replied s h (mapped_at (pages_in size) prot o) (request.Map size prot flags))
      by None goes = cases.value ENOMEM
      by (Some place) goes = goes place refl
  call_by (request.Unmap place size) cases =
      either (request.Unmap place size) (not (place % PAGE == 0) || (size == 0) || not (is_in_area place (pages_in size))) _ _ (λ e. cases.value EINVAL)
      (cases.unmaps place size refl)
  call_by request.Yield cases = cases.value (pos 0)
  call_by request.Tid cases = cases.value (pos (tid_of (slice_get s.slots h)))
  call_by request.Unknown cases = cases.value ENOSYS

  pub in_state_by : (a : Act) → ActCases P s h a → P (in_state s h a)
  in_state_by (act.Next hart write) cases = cases.next hart write refl
  in_state_by (act.Fault name) cases = cases.fault name
  in_state_by (act.Call call) cases = call_by call (cases.call call refl)
  in_state_by (act.Arrived point) cases = cases.arrived point refl

  -- the act of the hart in a slot
  pub act_of_by : P Absent → ((slot : Slot) → slice_get s.slots h ≡ Some slot → ActCases P s h (hart_act s.memory s.points (length slot.frames) slot.hart)) → P (act_of s h)
  unfolding act_of
  act_of_by absent cases = by (slice_get s.slots h) cases
    where
      by : (o : Option Slot) → ((slot : Slot) → o ≡ Some slot → ActCases P s h (hart_act s.memory s.points (length slot.frames) slot.hart)) → P (act_of_slot s h o)
      by None cases = absent
      by (Some slot) cases = in_state_by _ (cases slot refl)
