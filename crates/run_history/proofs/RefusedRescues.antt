-- Why a rescue has no licence: each reason makes its entry illegal, also where it lies in an inside.
use Rattle.std.proofs.Common.{◌≡◌, ℕ, ◌+◌, true, false, not, ◌&&◌, ◌==◌, nat_lt, List, ◌∷◌, ◌++◌, refl, ap, ◌∙◌, slice_get}
use Rattle.std.proofs.lemmas.Bool.{and_left, and_right}
use Rattle.guest_words.specs.declared.ending.Ending.{Ending}
use Rattle.guest_words.specs.declared.fault.Fault.{Fault as FaultAt}
use Rattle.guest_words.specs.declared.fault.FaultName.{FaultName}
use Rattle.guest_words.specs.declared.point.PointRef.{PointRef}
use Rattle.guest_words.specs.declared.record.Way.{Way}
use Rattle.guest_words.specs.Act.{StateAct, Ordinary, Fault, Request, Arrival, End, act_of}
use Rattle.guest_words.specs.Endings.{faults, is_budget_spent, is_fault, stands_at}
use Rattle.guest_words.specs.State.{State, enter, frames_at}
use Rattle.run_history.specs.declared.entry.Entry.{Entry, Ended}
use Rattle.run_history.specs.declared.entry.Entry.TheViews as v
use Rattle.run_history.specs.After.{after, state_after}
use Rattle.run_history.specs.Legal.{ends_in, is_arrival, is_licensed, is_of, legal, legal_inside, may_act}
use Rattle.run_history.proofs.Appends.{legal_inside-append}
use Rattle.run_history.proofs.Insides.{legal-Rescued}

-- the end of the inside

no_fault : (s : State) (h : ℕ) (fault : FaultAt) (frames : ℕ) → faults s h fault ≡ false → ends_in s h fault frames ≡ false
no_fault s h fault frames absent = and_right ((frames_at s h == frames + 1) && not (is_budget_spent s)) (faults s h fault) absent

no_fault_in : (s : State) (a : StateAct) (h : ℕ) (fault : FaultAt) (frames : ℕ) → act_of s h ≡ a → is_fault fault.name a ≡ false → ends_in s h fault frames ≡ false
no_fault_in s a h fault frames act other =
    no_fault s h fault frames (and_right (stands_at fault.pc (slice_get s.slots h)) (is_fault fault.name (act_of s h)) (ap (is_fault fault.name) act ∙ other))

-- a call that would go on needs no rescue
pub no_licence-at_an_ordinary_act : (s t : State) (h : ℕ) (fault : FaultAt) (frames : ℕ) → act_of s h ≡ Ordinary t → ends_in s h fault frames ≡ false
no_licence-at_an_ordinary_act s t h fault frames act = no_fault_in s (Ordinary t) h fault frames act refl

-- nor does one that makes a request, arrives or ends the run
pub no_licence-at_a_request : (s : State) (w : Way) (port asked place h : ℕ) (fault : FaultAt) (frames : ℕ) → act_of s h ≡ Request w port asked place → ends_in s h fault frames ≡ false
no_licence-at_a_request s w port asked place h fault frames act = no_fault_in s (Request w port asked place) h fault frames act refl

pub no_licence-at_an_arrival : (s : State) (point : PointRef) (h : ℕ) (fault : FaultAt) (frames : ℕ) → act_of s h ≡ Arrival point → ends_in s h fault frames ≡ false
no_licence-at_an_arrival s point h fault frames act = no_fault_in s (Arrival point) h fault frames act refl

pub no_licence-at_an_end : (s : State) (code h : ℕ) (fault : FaultAt) (frames : ℕ) → act_of s h ≡ End code → ends_in s h fault frames ≡ false
no_licence-at_an_end s code h fault frames act = no_fault_in s (End code) h fault frames act refl

-- the fault that is named has to be the one that is met
pub no_licence-for_another_name : (s : State) (name : FaultName) (h : ℕ) (fault : FaultAt) (frames : ℕ) → act_of s h ≡ Fault name → is_fault fault.name (Fault name) ≡ false → ends_in s h fault frames ≡ false
no_licence-for_another_name s name h fault frames act other = no_fault_in s (Fault name) h fault frames act other

-- and where it is met
pub no_licence-for_another_place : (s : State) (h : ℕ) (fault : FaultAt) (frames : ℕ) → stands_at fault.pc (slice_get s.slots h) ≡ false → ends_in s h fault frames ≡ false
no_licence-for_another_place s h fault frames elsewhere =
    no_fault s h fault frames (and_left (stands_at fault.pc (slice_get s.slots h)) (is_fault fault.name (act_of s h)) elsewhere)

-- a fault in a frame further in or out is another frame's
pub no_licence-in_another_frame : (s : State) (h : ℕ) (fault : FaultAt) (frames : ℕ) → (frames_at s h == frames + 1) ≡ false → ends_in s h fault frames ≡ false
no_licence-in_another_frame s h fault frames other = ap (λ b. b && not (is_budget_spent s) && faults s h fault) other

-- a budget that is spent ends the run, and rescues nothing
pub no_licence-past_the_budget : (s : State) (h : ℕ) (fault : FaultAt) (frames : ℕ) → is_budget_spent s ≡ true → ends_in s h fault frames ≡ false
no_licence-past_the_budget s h fault frames spent =
    ap (λ b. (frames_at s h == frames + 1) && not b && faults s h fault) spent
    ∙ ap (λ b. b && faults s h fault) (and_right (frames_at s h == frames + 1) false refl)

-- the entries of the inside

-- none is of another hart, or an ending
pub no_licence-of_another_hart : (s : State) (h frames : ℕ) (e : Entry) (es : List Entry) → is_of h e ≡ false → legal_inside s h frames (e ∷ es) ≡ false
no_licence-of_another_hart s h frames e es other =
    ap (λ b. b && legal s e && nat_lt frames (frames_at (after s e) h) && legal_inside (after s e) h frames es) other

pub no_licence-with_an_ending : (s : State) (h frames : ℕ) (x : Ending) (es : List Entry) → legal_inside s h frames (Ended x ∷ es) ≡ false
no_licence-with_an_ending s h frames x es = refl

-- each is legal
pub no_licence-with_an_illegal_entry : (s : State) (h frames : ℕ) (e : Entry) (es : List Entry) → legal s e ≡ false → legal_inside s h frames (e ∷ es) ≡ false
no_licence-with_an_illegal_entry s h frames e es illegal =
    ap (λ b. b && nat_lt frames (frames_at (after s e) h) && legal_inside (after s e) h frames es) (and_right (is_of h e) (legal s e) illegal)

-- none leaves the point's frame
pub no_licence-out_of_the_frame : (s : State) (h frames : ℕ) (e : Entry) (es : List Entry) → nat_lt frames (frames_at (after s e) h) ≡ false → legal_inside s h frames (e ∷ es) ≡ false
no_licence-out_of_the_frame s h frames e es out =
    ap (λ b. b && legal_inside (after s e) h frames es) (and_right (is_of h e && legal s e) (nat_lt frames (frames_at (after s e) h)) out)

-- and what holds of the first holds of each that comes later
pub no_licence-later : (s : State) (h frames : ℕ) (es fs : List Entry) → legal_inside (state_after s es) h frames fs ≡ false → legal_inside s h frames (es ++ fs) ≡ false
no_licence-later s h frames es fs illegal = legal_inside-append s h frames es fs ∙ and_right (legal_inside s h frames es) _ illegal

-- the entry of the rescue

pub rescue_without_a_licence : (s : State) (h : ℕ) (point : PointRef) (fault : FaultAt) (inside : List Entry) → is_licensed s h point fault inside ≡ false
    → legal s (v.Rescued h point fault inside) ≡ false
rescue_without_a_licence s h point fault inside absent =
    legal-Rescued s h point fault inside ∙ and_right (may_act s h && is_arrival point (act_of s h)) (is_licensed s h point fault inside) absent

pub rescue_without_a_fault : (s : State) (h : ℕ) (point : PointRef) (fault : FaultAt) (inside : List Entry)
    → ends_in (state_after (enter s h point) inside) h fault (frames_at s h) ≡ false → legal s (v.Rescued h point fault inside) ≡ false
rescue_without_a_fault s h point fault inside absent =
    rescue_without_a_licence s h point fault inside (and_right (legal_inside (enter s h point) h (frames_at s h) inside) _ absent)

pub rescue_of_an_illegal_inside : (s : State) (h : ℕ) (point : PointRef) (fault : FaultAt) (inside : List Entry)
    → legal_inside (enter s h point) h (frames_at s h) inside ≡ false → legal s (v.Rescued h point fault inside) ≡ false
rescue_of_an_illegal_inside s h point fault inside illegal =
    rescue_without_a_licence s h point fault inside (and_left _ (ends_in (state_after (enter s h point) inside) h fault (frames_at s h)) illegal)

-- one that doesn't begin at an arrival at its point
pub rescue_without_an_arrival : (s : State) (h : ℕ) (point : PointRef) (fault : FaultAt) (inside : List Entry)
    → is_arrival point (act_of s h) ≡ false → legal s (v.Rescued h point fault inside) ≡ false
rescue_without_an_arrival s h point fault inside absent =
    legal-Rescued s h point fault inside
    ∙ ap (λ b. b && is_licensed s h point fault inside) (and_right (may_act s h) (is_arrival point (act_of s h)) absent)

-- a rescue without a licence in the inside of another takes that one's licence too
pub rescue_round_one_without_a_licence : (s : State) (h : ℕ) (outer inner : PointRef) (fault met : FaultAt) (before within behind : List Entry)
    → is_licensed (state_after (enter s h outer) before) h inner met within ≡ false
    → legal s (v.Rescued h outer fault (before ++ v.Rescued h inner met within ∷ behind)) ≡ false
rescue_round_one_without_a_licence s h outer inner fault met before within behind absent =
    let t = state_after (enter s h outer) before in
    rescue_of_an_illegal_inside s h outer fault (before ++ v.Rescued h inner met within ∷ behind)
    (no_licence-later (enter s h outer) h (frames_at s h) before (v.Rescued h inner met within ∷ behind)
    (no_licence-with_an_illegal_entry t h (frames_at s h) (v.Rescued h inner met within) behind (rescue_without_a_licence t h inner met within absent)))
