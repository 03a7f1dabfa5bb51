-- No act of a hart changes the text.
use Rattle.std.proofs.Common.{◌≡◌, ℕ, zero, suc, ◌+◌, ◌-◌, ◌*◌, ◌%◌, ◌<◌, ◌≤◌, ◌==◌, ◌&&◌, ◌||◌, not, nat_le, nat_lt, Bool, true, false, if◌then◌else◌, List, find, option_map, length, slice_get, Option, Some, None, refl, sym, ◌∙◌, subst, arith}
use Rattle.std.proofs.lemmas.Bool.{not-false, or_parts}
use Rattle.std.proofs.lemmas.Bool.Decides.{nat_tests}
use Rattle.std.specs.List.{range_with_len}
use Rattle.guest_words.specs.declared.act.Act.{Act}
use Rattle.guest_words.specs.declared.act.Act.TheVariants as act
use Rattle.guest_words.specs.declared.act.Write.{Write}
use Rattle.guest_words.specs.declared.call.Request.{Request as Call}
use Rattle.guest_words.specs.declared.hart.Hart.{Hart}
use Rattle.guest_words.specs.declared.image.Rights.{Rights}
use Rattle.guest_words.specs.declared.limits.TheConstants.{HEAP_BYTES, PAGE}
use Rattle.guest_words.specs.declared.point.Point.{Point}
use Rattle.guest_words.specs.Act.{StateAct, Ordinary, Fault, Request, Arrival, End, Absent, act_of, written}
use Rattle.guest_words.specs.CallChanges.{are_free, area, area_pages, clear_of, clones, exits, free_place, gained, heap_rights, lost, with_break}
use Rattle.guest_words.specs.Calls.{is_in_area, mapped_rights, sets_parent_tid}
use Rattle.guest_words.specs.HartAct.{hart_act}
use Rattle.guest_words.specs.Space.{Space, can_write, low_bytes, page_up, pages_in, with_zeros}
use Rattle.guest_words.specs.State.{State, stored, with_hart}
use Rattle.guest_words.specs.Widths.{bytes_in}
use Rattle.run_history.specs.After.{moved, next}
use Rattle.run_history.proofs.Ands.{and_left, and_right, if_by}
use Rattle.run_history.proofs.CallCases.{ActCases, CallCases, act_of_by}
use Rattle.run_history.proofs.InstCases.{hart_act_by}
use Rattle.run_history.proofs.Walk.{Leads}
use Rattle.text_laws.specs.Texts.{IsTextSafe}
use Rattle.text_laws.proofs.Memories.{IsApart, KeepsText, apart_kept, below_kept, keeps_both, keeps_same, lacks_above, number_keeps, without_keeps, zeros_keep}

-- the text stays, and the heap begins where it began and ends no lower than that
abbrev pub TextKept : State → State → Type 0
TextKept s t = KeepsText s.memory t.memory × (t.low ≡ s.low) × (s.low ≤ t.brk)

pub safe_after : (s t : State) → IsTextSafe s → TextKept s t → IsTextSafe t
safe_after s t safe kept = record {
  apart = apart_kept s.memory t.memory kept.0 safe.apart;
  below = λ a may. subst (λ low. a < low) (sym kept.1) (below_kept s.memory t.memory s.low kept.0 safe.below a may);
  heap = let low = kept.1 in let brk = kept.2 in omega (arith, low, brk);
  area = let low = kept.1 in let area = safe.area in omega (arith, low, area);
}

pub kept_both : (s t u : State) → TextKept s t → TextKept t u → TextKept s u
kept_both s t u first second = (
  keeps_both s.memory t.memory u.memory first.0 second.0,
  second.1 ∙ first.1,
  let low = first.1 in let brk = second.2 in omega (arith, low, brk),
)

-- an instruction stores only where it may write

Stores : Space → Act → Type 0
Stores m (act.Next hart None) = Unit {0}
Stores m (act.Next hart (Some write)) = can_write m write.address (bytes_in write.width) ≡ true
Stores m _ = Unit {0}

hart_stores : (m : Space) (points : List Point) (frames : ℕ) (hart : Hart) → Stores m (hart_act m points frames hart)
unfolding Stores
hart_stores m points frames hart =
    hart_act_by (Stores m) m hart (record {
      next = λ after same. tt;
      store = λ after place width value same may. may;
      fault = λ name. tt;
      call = λ inst at kind. tt;
    }) points frames (λ point is. tt)

written_keeps : (s : State) (hart : Hart) (write : Option Write) → Stores s.memory (act.Next hart write) → IsApart s.memory → KeepsText s.memory (written s write).memory
unfolding Stores
written_keeps s hart None may apart = keeps_same s.memory
written_keeps s hart (Some write) may apart = number_keeps s.memory write.address (bytes_in write.width) write.value apart may

-- mapped pages lie in their area

find_from : (test : ℕ → Bool) (from size page : ℕ) → find test (range_with_len from size) ≡ Some page → from ≤ page
find_from test from zero page is = cc
find_from test from (suc size) page is = by (test from) is (find_from test (from + 1) size page)
  where
    by : (b : Bool) → (if b then Some from else find test (range_with_len (from + 1) size)) ≡ Some page
        → (find test (range_with_len (from + 1) size) ≡ Some page → from + 1 ≤ page) → from ≤ page
    by true e later = let same : from ≡ page = cc in omega (arith, same)
    by false e later = let past = later e in omega (arith, past)

place_from : (m : Space) (count place : ℕ) → free_place m count ≡ Some place → 0x3f80000000 ≤ place
unfolding free_place area
place_from m count place is = by (find (are_free m count) area) refl is
  where
    by : (o : Option ℕ) → find (are_free m count) area ≡ o → option_map (λ page. PAGE * page) o ≡ Some place → 0x3f80000000 ≤ place
    by None at e = cc
    by (Some page) at e =
        let same : 4096 * page ≡ place = cc in
        let low = find_from (are_free m count) 0x3f80000 area_pages page at in
        omega (arith, same, low)

module _ (s : State) (h : ℕ) (safe : IsTextSafe s) where
  still : TextKept s s
  still = (keeps_same s.memory, refl, safe.heap)

  number_kept : (place value : ℕ) → can_write s.memory place 4 ≡ true → TextKept s (stored s place (low_bytes 4 value))
  number_kept place value may = (number_keeps s.memory place 4 value safe.apart may, refl, safe.heap)

  exits_kept : (code : ℕ) → TextKept s (exits s h code)
  exits_kept code =
      let place = clear_of (slice_get s.slots h) in
      if_by (TextKept s) (not (place == 0) && can_write s.memory place 4) _ _ (λ is. number_kept place 0 (and_right _ _ is)) (λ is. still)

  clones_kept : (flags stack parent tls child slot : ℕ) → TextKept s (clones s h slot flags stack parent tls child)
  clones_kept flags stack parent tls child slot =
      if_by (TextKept s) (sets_parent_tid flags && can_write s.memory parent 4) _ _ (λ is. number_kept parent s.next_tid (and_right _ _ is)) (λ is. still)

  -- the heap's pages come and go above its beginning
  breaks_kept : (to : ℕ) → s.low ≤ to → TextKept s (with_break s to)
  breaks_kept to past =
      let m : Space = s.memory in
      let from = page_up s.brk in
      let grown = page_up to - from in
      let n : Space = with_zeros m from grown heap_rights in
      let above : s.low ≤ from = let heap = safe.heap in omega (arith, heap) in
      let first : KeepsText m n = zeros_keep m from grown heap_rights (lacks_above m s.low from grown safe.below above) refl in
      let beyond : s.low ≤ page_up to = omega (arith, past) in
      let below = below_kept m n s.low first safe.below in
      let second = without_keeps n (page_up to) (from - page_up to) (lacks_above n s.low (page_up to) (from - page_up to) below beyond) in
      (keeps_both m n _ first second, refl, past)

  maps_kept : (place count : ℕ) (rights : Rights) → 0x3f80000000 ≤ place → rights.exec ≡ false → TextKept s (gained s place (PAGE * count) rights)
  maps_kept place count rights past sealed =
      let above : s.low ≤ place = let area = safe.area in omega (arith, area, past) in
      (zeros_keep s.memory place (PAGE * count) rights (lacks_above s.memory s.low place (PAGE * count) safe.below above) sealed, refl, safe.heap)

  unmaps_kept : (place count : ℕ) → 0x3f80000000 ≤ place → TextKept s (lost s place (PAGE * count))
  unmaps_kept place count past =
      let above : s.low ≤ place = let area = safe.area in omega (arith, area, past) in
      (without_keeps s.memory place (PAGE * count) (lacks_above s.memory s.low place (PAGE * count) safe.below above), refl, safe.heap)

  -- a break outside the heap stays
  break_past : (asked : ℕ) → s.low ≤ (if nat_lt asked s.low || nat_lt (s.low + HEAP_BYTES) asked then s.brk else asked)
  break_past asked =
      if_by (λ to. s.low ≤ to) (nat_lt asked s.low || nat_lt (s.low + HEAP_BYTES) asked) s.brk asked (λ is. safe.heap)
      (λ is. let least : nat_lt asked s.low ≡ false = (or_parts _ _ is).0 in grind (arith, nat_tests, least))

  area_past : (place size : ℕ) → (not (place % PAGE == 0) || (size == 0) || not (is_in_area place (pages_in size))) ≡ false → 0x3f80000000 ≤ place
  area_past place size is =
      let inside : is_in_area place (pages_in size) ≡ true = not-false _ ((or_parts (not (place % PAGE == 0) || (size == 0)) _ is).1) in
      let low : nat_le 0x3f80000000 place ≡ true = and_left _ _ inside in
      grind (arith, nat_tests, low)

  calls_kept : (call : Call) → CallCases (Leads TextKept s) s h call
  calls_kept call = record {
    value = λ v. still;
    read = λ fd place size is usable some may. tt;
    write = λ fd place size is usable some may. tt;
    close = λ fd is usable. tt;
    gone = λ code is live. exits_kept code;
    last = λ code is. tt;
    ends = λ code is. tt;
    queue = λ place value timeout is none. still;
    blocked = tt;
    rouse = λ place value is. still;
    child = λ flags stack parent tls child slot is free. clones_kept flags stack parent tls child slot;
    breaks = λ asked to is at. breaks_kept to (subst (λ n. s.low ≤ n) (sym at) (break_past asked));
    maps = λ size prot flags place is asked few free. maps_kept place (pages_in size) (mapped_rights prot) (place_from s.memory (pages_in size) place free) refl;
    unmaps = λ place size is within. unmaps_kept place (pages_in size) (area_past place size within);
  }

  acts_kept : (a : Act) → Stores s.memory a → ActCases (Leads TextKept s) s h a
  acts_kept a stores = record {
    next = λ hart write is. (written_keeps (with_hart s h (λ before. hart)) hart write (subst (Stores s.memory) is stores) safe.apart, low_written hart write, heap_written hart write);
    fault = λ name. tt;
    call = λ call is. calls_kept call;
    arrived = λ point is. tt;
  }
    where
      low_written : (hart : Hart) (write : Option Write) → (written (with_hart s h (λ before. hart)) write).low ≡ s.low
      low_written hart None = refl
      low_written hart (Some write) = refl

      heap_written : (hart : Hart) (write : Option Write) → s.low ≤ (written (with_hart s h (λ before. hart)) write).brk
      heap_written hart None = safe.heap
      heap_written hart (Some write) = safe.heap

  pub next_kept : TextKept s (next s h)
  unfolding next
  next_kept = by (act_of s h) (act_of_by (Leads TextKept s) s h tt (λ slot is. acts_kept _ (hart_stores s.memory s.points (length slot.frames) slot.hart)))
    where
      by : (a : StateAct) → Leads TextKept s a → TextKept s (moved s a)
      by (Ordinary t) kept = kept
      by (Fault name) kept = still
      by (Request way fd asked place) kept = still
      by (Arrival point) kept = still
      by (End code) kept = still
      by Absent kept = still
