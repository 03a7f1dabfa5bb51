-- What the reply to a call depends on in a state, and how a call changes the state.
use Rattle.std.specs.Prelude.{ℕ, zero, suc, ◌+◌, ◌-◌, ◌*◌, ◌/◌, ℤ, pos, Bool, true, false, not, ◌&&◌, ◌||◌, ◌==◌, nat_lt, nat_le, if◌then◌else◌, List, [], ◌∷◌, ◌++◌, length, take, drop, Option, Some, None, slice_get, slice_set, find}
use Rattle.std.specs.Option.{option_map}
use Rattle.std.specs.List.{filter, list_any, list_all, count_by, position_from, range_with_len}
use Rattle.std.specs.FinMap.{contains_key}
use Rattle.guest_words.specs.declared.image.Rights.{Rights}
use Rattle.guest_words.specs.declared.hart.Hart.{Hart}
use Rattle.guest_words.specs.declared.hart.HartState.TheVariants.{Ready, Waiting, Gone}
use Rattle.guest_words.specs.declared.hart.Slot.{Slot}
use Rattle.guest_words.specs.declared.hart.Waiter.{Waiter}
use Rattle.guest_words.specs.declared.call.Request.{Request}
use Rattle.guest_words.specs.declared.call.Request.TheVariants as request
use Rattle.guest_words.specs.declared.call.Facts.{Facts}
use Rattle.guest_words.specs.declared.limits.TheConstants.{PAGE, MAP_FROM, MAP_END}
use Rattle.guest_words.specs.declared.abi.TheConstants.{SP, TP, A0}
use Rattle.guest_words.specs.Word.{word_of}
use Rattle.guest_words.specs.Space.{Space, can_read, can_write, number_at, low_bytes, page_up, pages_in, with_zeros, without}
use Rattle.guest_words.specs.Harts.{with_reg, past, touched, is_ready, is_waiting, is_free}
use Rattle.guest_words.specs.Calls.{cut, sets_tls, sets_parent_tid, clears_child_tid}
use Rattle.guest_words.specs.State.{State, changed, on_hart, on_each, with_hart, stored, frames_at, is_open}

-- tests of the slots beside one

abbrev pub any_other : (Slot → Bool) → ℕ → List Slot → Bool
any_other test h slots = list_any test (take h slots) || list_any test (drop (h + 1) slots)

abbrev pub each_other : (Slot → Bool) → ℕ → List Slot → Bool
each_other test h slots = list_all test (take h slots) && list_all test (drop (h + 1) slots)

abbrev pub is_live : Slot → Bool
is_live slot = is_ready slot.hart.state || is_waiting slot.hart.state

-- the facts that the rules of a call look at

-- descriptor 0 is read alone, 1 and 2 are written alone, a port is both
abbrev pub is_usable : State → Request → Bool
is_usable s (request.Read fd place size) = is_open s fd && not (fd == 1) && not (fd == 2)
is_usable s (request.Write fd place size) = is_open s fd && not (fd == 0)
is_usable s (request.Close fd) = is_open s fd
is_usable s _ = false

abbrev pub is_readable : State → Request → Bool
is_readable s (request.Write fd place size) = can_read s.memory place (cut size)
is_readable s (request.Wait place value timeout) = can_read s.memory place 4
is_readable s _ = false

abbrev pub is_writable : State → Request → Bool
is_writable s (request.Read fd place size) = can_write s.memory place (cut size)
is_writable s _ = false

-- the word that a wait compares, or 0
abbrev pub word_at : State → Request → ℕ
word_at s (request.Wait place value timeout) =
    if can_read s.memory place 4 then number_at s.memory place 4 else 0
word_at s _ = 0

-- the first slot that can take a new hart; slot 0 is never taken again
abbrev pub free_slot : List Slot → Option ℕ
free_slot slots = position_from (λ slot. is_free slot.hart.state) 1 (drop 1 slots)

abbrev pub tid_of : Option Slot → ℕ
tid_of None = 0
tid_of (Some slot) = slot.hart.tid

-- how many pages the area of mapped pages has
unfoldable pub area_pages : ℕ
area_pages = (MAP_END - MAP_FROM) / PAGE

-- their numbers
unfoldable pub area : List ℕ
area = range_with_len (MAP_FROM / PAGE) area_pages

-- a page of this number is there: memory is in whole pages, so its first byte tells
abbrev pub has_page : Space → ℕ → Bool
has_page m page = contains_key m (PAGE * page)

-- how many pages of the area are there
unfoldable pub mapped_pages : Space → ℕ
mapped_pages m = count_by (has_page m) area

-- so many pages from this number on lie in the area, and none is there
abbrev pub are_free : Space → ℕ → ℕ → Bool
are_free m count page =
    nat_le (PAGE * (page + count)) MAP_END
    && list_all (λ other. not (has_page m other)) (range_with_len page count)

-- the lowest place in the area for so many pages in a row
unfoldable pub free_place : Space → ℕ → Option ℕ
free_place m count = option_map (λ page. PAGE * page) (find (are_free m count) area)

-- where the pages fit that a map asks for
abbrev pub place_for : State → Request → Option ℕ
place_for s (request.Map length prot flags) = free_place s.memory (pages_in length)
place_for s _ = None

unfoldable pub facts_of : State → ℕ → Request → Facts
facts_of s h call =
    record {
      other_live = any_other is_live h s.slots;
      usable = is_usable s call;
      readable = is_readable s call;
      writable = is_writable s call;
      word = word_at s call;
      free_slot = free_slot s.slots;
      next_tid = s.next_tid;
      tid = tid_of (slice_get s.slots h);
      frames = nat_lt 0 (frames_at s h);
      low = s.low;
      brk = s.brk;
      mapped = mapped_pages s.memory;
      place = place_for s call;
    }

-- an answer goes to x10, and the hart goes on behind the call
abbrev pub answered : ℤ → Hart → Hart
answered value hart = with_reg (past hart) A0 (word_of value)

-- waiting and waking

abbrev pub waits_at : ℕ → Waiter → Bool
waits_at place waiter = waiter.place == place

-- of the waiters at a place the first ones, at most so many
abbrev pub woken : ℕ → ℕ → List Waiter → List Waiter
woken place most waiting = take most (filter (waits_at place) waiting)

-- the others, in their order
unfoldable pub unwoken : ℕ → ℕ → List Waiter → List Waiter
unwoken place most [] = []
unwoken place zero (waiter ∷ waiting) = waiter ∷ waiting
unwoken place (suc most) (waiter ∷ waiting) =
    if waits_at place waiter then unwoken place most waiting
    else waiter ∷ unwoken place (suc most) waiting

abbrev pub ready : Hart → Hart
ready hart = record hart { state = Ready }

-- the slots with the harts of these waiters ready
unfoldable pub readied : List Waiter → List Slot → List Slot
readied [] slots = slots
readied (waiter ∷ waiting) slots = readied waiting (changed (on_hart ready) waiter.slot slots)

abbrev pub roused : State → ℕ → ℕ → State
roused s place most =
    record s {
      slots = readied (woken place most s.waiting) s.slots;
      waiting = unwoken place most s.waiting;
    }

abbrev pub wakes : State → ℕ → ℕ → ℕ → State
wakes s h place most =
    with_hart (roused s place most) h (answered (pos (length (woken place most s.waiting))))

-- the hart waits behind its call, whose answer 0 is already there
abbrev pub asleep : ℕ → Hart → Hart
asleep place hart = record (answered (pos 0) hart) { state = Waiting place }

abbrev pub queued : State → ℕ → ℕ → State
queued s h place =
    with_hart (record s { waiting = s.waiting ++ (record { slot = h; place = place }) ∷ [] })
    h (asleep place)

-- exit

-- the hart is gone, its pc and registers as they were, and its frames are closed
abbrev pub departed : ℕ → Slot → Slot
departed code slot =
    record {
      hart = record slot.hart { arrived = false; reservation = None; state = Gone code };
      frames = [];
    }

abbrev pub clear_of : Option Slot → ℕ
clear_of None = 0
clear_of (Some slot) = slot.hart.clear

-- the word at a clear place becomes 0, and one waiter there is woken
abbrev pub cleared : State → ℕ → State
cleared s place =
    if not (place == 0) && can_write s.memory place 4
    then roused (stored s place (low_bytes 4 0)) place 1 else s

abbrev pub exits : State → ℕ → ℕ → State
exits s h code =
    cleared (record s { slots = changed (departed code) h s.slots })
    (clear_of (slice_get s.slots h))

-- clone

abbrev pub with_stack : ℕ → Hart → Hart
with_stack stack hart = if stack == 0 then hart else with_reg hart SP stack

abbrev pub with_tls : ℕ → ℕ → Hart → Hart
with_tls flags tls hart = if sets_tls flags then with_reg hart TP tls else hart

-- the new hart: its parent's registers behind the call, with x10 = 0
abbrev pub child_of : ℕ → ℕ → ℕ → ℕ → ℕ → Hart → Hart
child_of flags stack tls child tid hart =
    record (with_tls flags tls (with_stack stack (answered (pos 0) hart))) {
      reservation = None;
      state = Ready;
      tid = tid;
      clear = if clears_child_tid flags then child else 0;
    }

abbrev pub child_slot : ℕ → ℕ → ℕ → ℕ → ℕ → Slot → Slot
child_slot flags stack tls child tid parent =
    record { hart = child_of flags stack tls child tid parent.hart; frames = [] }

abbrev pub with_child : ℕ → (Slot → Slot) → Option Slot → List Slot → List Slot
with_child slot child None slots = slots
with_child slot child (Some parent) slots = slice_set slots slot (child parent)

-- the tid at the parent's place, where the flags ask for it and the word can be written
abbrev pub with_parent_tid : State → ℕ → ℕ → ℕ → State
with_parent_tid s flags place tid =
    if sets_parent_tid flags && can_write s.memory place 4
    then stored s place (low_bytes 4 tid) else s

-- the state with the child's hart in a slot
abbrev pub with_new_hart : State → ℕ → ℕ → (Slot → Slot) → State
with_new_hart s h slot child =
    record s {
      slots = with_child slot child (slice_get s.slots h) s.slots;
      next_tid = s.next_tid + 1;
    }

abbrev pub clones : State → ℕ → ℕ → ℕ → ℕ → ℕ → ℕ → ℕ → State
clones s h slot flags stack parent tls child =
    with_parent_tid
    (with_hart (with_new_hart s h slot (child_slot flags stack tls child s.next_tid))
    h (answered (pos s.next_tid)))
    flags parent s.next_tid

-- pages that come and go

-- so many zeros come from an address on, and end the reservations that they touch
abbrev pub gained : State → ℕ → ℕ → Rights → State
gained s from size rights =
    record s {
      memory = with_zeros s.memory from size rights;
      slots = on_each (touched from size) s.slots;
    }

-- so many bytes go from an address on, those of them that are there; a reservation with a byte
-- among them ends
abbrev pub lost : State → ℕ → ℕ → State
lost s from size =
    record s {
      memory = without s.memory from size;
      slots = on_each (touched from size) s.slots;
    }

abbrev pub heap_rights : Rights
heap_rights = record { read = true; write = true; exec = false }

-- the heap's pages end at its break, so they come or go between the old break and the new one
abbrev pub with_break : State → ℕ → State
with_break s to =
    record (lost (gained s (page_up s.brk) (page_up to - page_up s.brk) heap_rights)
    (page_up to) (page_up s.brk - page_up to)) { brk = to }

abbrev pub breaks : State → ℕ → ℕ → State
breaks s h to = with_hart (with_break s to) h (answered (pos to))

abbrev pub maps : State → ℕ → ℕ → ℕ → Rights → State
maps s h place count rights =
    with_hart (gained s place (PAGE * count) rights) h (answered (pos place))

abbrev pub unmaps : State → ℕ → ℕ → ℕ → State
unmaps s h place count = with_hart (lost s place (PAGE * count)) h (answered (pos 0))
