-- Legal entries, and the licence of a rescue.
use Rattle.std.specs.Prelude.{ℕ, zero, suc, ◌+◌, Bool, true, false, not, ◌&&◌, ◌==◌, nat_lt, List, [], ◌∷◌, length, Option, Some, None, is_none, slice_get, IsTrue}
use Rattle.guest_words.specs.declared.point.PointRef.{PointRef}
use Rattle.guest_words.specs.declared.fault.Fault.{Fault as FaultAt}
use Rattle.guest_words.specs.declared.ending.Ending.{Ending}
use Rattle.guest_words.specs.declared.ending.Ending.TheVariants as ending
use Rattle.guest_words.specs.declared.hart.Slot.{Slot}
use Rattle.guest_words.specs.Harts.{is_ready}
use Rattle.guest_words.specs.State.{State, frames_at, enter}
use Rattle.guest_words.specs.CallChanges.{each_other}
use Rattle.guest_words.specs.Act.{StateAct, Ordinary, Arrival, act_of, fits}
use Rattle.guest_words.specs.Endings.{is_budget_spent, faults, ends_by}
use Rattle.run_history.specs.declared.entry.Entry.{Entry, Ran, Entered, Called, Rescued', Ended, Row_of-Entry, end_of-Entry, more_of-Entry}
use Rattle.run_history.specs.After.{next, after, after_row, state_after}

abbrev pub is_ordinary : StateAct → Bool
is_ordinary (Ordinary t) = true
is_ordinary _ = false

abbrev pub is_arrival : PointRef → StateAct → Bool
is_arrival point (Arrival other) = point.entry == other.entry
is_arrival point _ = false

abbrev pub is_ready_slot : Option Slot → Bool
is_ready_slot None = false
is_ready_slot (Some slot) = is_ready slot.hart.state

abbrev pub is_ready_at : State → ℕ → Bool
is_ready_at s h = is_ready_slot (slice_get s.slots h)

-- no hart but this one has a frame open
abbrev pub is_alone : State → ℕ → Bool
is_alone s h = each_other (λ slot. length slot.frames == 0) h s.slots

-- the run goes on
abbrev pub is_going : State → Bool
is_going s = is_none s.ending && not (is_budget_spent s)

-- a hart may act: the run goes on, it is ready, and no other is under a point
abbrev pub may_act : State → ℕ → Bool
may_act s h = is_going s && is_ready_at s h && is_alone s h

-- a hart can go on by an ordinary act
abbrev pub can_go : State → ℕ → Bool
can_go s h = not (is_budget_spent s) && is_ready_at s h && is_ordinary (act_of s h)

-- so many acts of a hart in a row are ordinary, and each finds it ready and the budget not spent
unfoldable pub can_run : State → ℕ → ℕ → Bool
can_run s h zero = true
can_run s h (suc count) = can_go s h && can_run (next s h) h count

-- an ending may stand: it is due, the run goes on, and a hart that it names may act
abbrev pub is_ending : State → Ending → Bool
is_ending s (ending.Exit h code) = may_act s h && ends_by s (ending.Exit h code)
is_ending s (ending.Fault h fault) = may_act s h && ends_by s (ending.Fault h fault)
is_ending s ending.Stuck = is_going s && ends_by s ending.Stuck
is_ending s ending.Budget = is_none s.ending && ends_by s ending.Budget

-- an entry is of a hart, and no ending
abbrev pub is_of : ℕ → Entry → Bool
is_of h (Ran hart count) = hart == h
is_of h (Entered hart point) = hart == h
is_of h (Called hart call) = hart == h
is_of h (Rescued' hart point fault shape inside) = hart == h
is_of h (Ended ending) = false

-- a rescued call ends at its fault, in the frame that it opened over so many others
abbrev pub ends_in : State → ℕ → FaultAt → ℕ → Bool
ends_in s h fault frames =
    (frames_at s h == frames + 1) && not (is_budget_spent s) && faults s h fault

-- the licence of a rescue of a call that began in s, by whether its entries are legal, and by the
-- state t that they give: the call, run from its entry by this hart alone, meets the fault
abbrev pub licence : State → ℕ → FaultAt → Bool → State → Bool
licence s h fault are_legal t = are_legal && ends_in t h fault (frames_at s h)

unfoldable mutual
  pub legal : State → Entry → Bool
  legal s (Ran h count) = may_act s h && nat_lt 0 count && can_run s h count
  legal s (Entered h point) = may_act s h && is_arrival point (act_of s h)
  legal s (Called h call) = may_act s h && fits s (act_of s h) call
  legal s (Rescued' h point fault shape inside) =
      may_act s h && is_arrival point (act_of s h)
      && licence s h fault (legal_row (enter s h point) h (frames_at s h) inside)
      (after_row (enter s h point) inside)
  legal s (Ended ending) = is_ending s ending

  -- each entry of an inside is legal and of the hart, and leaves more than so many frames open
  pub legal_row : State → ℕ → ℕ → {m : _} → Row_of-Entry m → Bool
  legal_row s h frames end_of-Entry = true
  legal_row s h frames (more_of-Entry e rest) =
      is_of h e && legal s e && nat_lt frames (frames_at (after s e) h)
      && legal_row (after s e) h frames rest

-- the same of a list of entries (proofs/Insides shows that they agree)
abbrev pub legal_inside : State → ℕ → ℕ → List Entry → Bool
legal_inside s h frames [] = true
legal_inside s h frames (e ∷ es) =
    is_of h e && legal s e && nat_lt frames (frames_at (after s e) h)
    && legal_inside (after s e) h frames es

abbrev pub is_licensed : State → ℕ → PointRef → FaultAt → List Entry → Bool
is_licensed s h point fault inside =
    licence s h fault (legal_inside (enter s h point) h (frames_at s h) inside)
    (state_after (enter s h point) inside)

abbrev pub IsLicensed : State → ℕ → PointRef → FaultAt → List Entry → Type 0
IsLicensed s h point fault inside = IsTrue (is_licensed s h point fault inside)

-- the condition of a rescued call, by the list of its inside
abbrev pub legal_rescue : State → ℕ → PointRef → FaultAt → List Entry → Bool
legal_rescue s h point fault inside =
    may_act s h && is_arrival point (act_of s h) && is_licensed s h point fault inside

-- an entry may stand in a state
abbrev pub IsLegal : State → Entry → Type 0
IsLegal s e = IsTrue (legal s e)
