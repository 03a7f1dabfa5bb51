-- Calls on devices: where a read puts its bytes, and what the state is behind it.
use Rattle.std.proofs.Common.{◌≡◌, ◌≢◌, inl, inr, ℕ, zero, suc, ◌+◌, ◌-◌, ◌^◌, ◌≤◌, Bool, true, false, ◌&&◌, ◌||◌, ◌==◌, nat_le, if◌then◌else◌, List, [], ◌∷◌, ◌++◌, length, set, min, ap, sym, ◌∙◌, refl, subst, Option, Some, option_map, slice_get, sum_by, arith}
use Rattle.std.proofs.lemmas.Bool.Decides.{nat_tests, eqb_tells}
use Rattle.std.proofs.lemmas.List.Sums.{sum_by_push}
use Rattle.guest_words.specs.declared.act.Act.{Act}
use Rattle.guest_words.specs.declared.act.Act.TheVariants as act
use Rattle.guest_words.specs.declared.call.Request.{Request as Call}
use Rattle.guest_words.specs.declared.hart.Hart.{Hart}
use Rattle.guest_words.specs.declared.hart.Slot.{Slot}
use Rattle.guest_words.specs.declared.image.Rights.{Rights}
use Rattle.guest_words.specs.declared.record.Record.{Record}
use Rattle.guest_words.specs.declared.record.Way.{Way}
use Rattle.guest_words.specs.declared.record.Way.TheVariants as way
use Rattle.guest_words.specs.Act.{StateAct, Ordinary, Fault, Request, Arrival, End, Absent, act_of, fits, is_same_way}
use Rattle.guest_words.specs.Calls.{request_of}
use Rattle.guest_words.specs.CallChanges.{answered}
use Rattle.guest_words.specs.HartAct.{hart_act}
use Rattle.guest_words.specs.Space.{Space, can_write, each_has}
use Rattle.guest_words.specs.State.{State, changed, closed, is_close, is_closed, on_hart, with_closed, with_hart}
use Rattle.hart_slots.specs.Rejoined.{hart_of}
use Rattle.run_history.specs.After.{called, placed, read_place, with_record}
use Rattle.run_history.proofs.Ands.{and_left, and_right}
use Rattle.run_history.proofs.CallCases.{CallCases, act_of_by}
use Rattle.run_history.proofs.InstCases.{hart_act_by}
use Rattle.run_history.proofs.Requests.{fits_short, request_servable}
use Rattle.hart_step.specs.DeviceAnswers.{closed_with, place_in, place_named, read_into, read_over, shut_by, slots_with, space_with}

-- a call is the one that the hart's registers tell

abbrev IsAsked : Hart → Act → Type 0
IsAsked hart (act.Call call) = call ≡ request_of hart
IsAsked hart _ = Unit {0}

asked_by : (s : State) (slot : Slot) → IsAsked slot.hart (hart_act s.memory s.points (length slot.frames) slot.hart)
asked_by s slot =
    hart_act_by (IsAsked slot.hart) s.memory slot.hart (record {
      next = λ after same. tt;
      store = λ after place width value same may. tt;
      fault = λ name. tt;
      call = λ inst at kind. refl;
    }) s.points (length slot.frames) (λ point at. tt)

-- a read that a hart asks for is for the place that its call names
abbrev IsNamed : Option Hart → StateAct → Type 0
IsNamed hart (Request way.Read fd asked place) = place ≡ place_named hart
IsNamed hart _ = Unit {0}

call_named : (s : State) (h : ℕ) (hart : Option Hart) (call : Call) → place_in call ≡ place_named hart → CallCases (IsNamed hart) s h call
call_named s h hart call is = record {
  value = λ v. tt;
  read = λ fd place size which usable some may. sym (ap place_in which) ∙ is;
  write = λ fd place size which usable some may. tt;
  close = λ fd which usable. tt;
  gone = λ code which live. tt;
  last = λ code which. tt;
  ends = λ code which. tt;
  queue = λ place value timeout which none. tt;
  blocked = tt;
  rouse = λ place value which. tt;
  child = λ flags stack parent tls child slot which free. tt;
  breaks = λ asked to which at. tt;
  maps = λ size prot flags place which asked few free. tt;
  unmaps = λ place size which within. tt;
}

pub act_named : (s : State) (h : ℕ) → IsNamed (option_map hart_of (slice_get s.slots h)) (act_of s h)
act_named s h =
    let hart = option_map hart_of (slice_get s.slots h) in
    act_of_by (IsNamed hart) s h tt (λ slot is.
    let own : IsAsked slot.hart (hart_act s.memory s.points (length slot.frames) slot.hart) = asked_by s slot in
    record {
      next = λ next write does. tt;
      fault = λ name. tt;
      call = λ call does.
          let asks : call ≡ request_of slot.hart = subst (IsAsked slot.hart) does own in
          call_named s h hart call (ap place_in asks ∙ sym (ap (λ (o : Option Slot). place_named (option_map hart_of o)) is));
      arrived = λ point does. tt;
    })

-- the place of a record that fits

same_read : (w : Way) → is_same_way way.Read w ≡ true → w ≡ way.Read
same_read way.Read e = refl
same_read way.Write e = cc
same_read way.Close e = cc

same_close : (w : Way) → is_same_way way.Close w ≡ true → w ≡ way.Close
same_close way.Read e = cc
same_close way.Write e = cc
same_close way.Close e = refl

fewer_has : (right : Rights → Bool) (m : Space) (from most size : ℕ) → size ≤ most → each_has right m from most ≡ true → each_has right m from size ≡ true
unfolding each_has
fewer_has right m from most zero few all = refl
fewer_has right m from zero (suc size) few all = absurd (omega (arith, few))
fewer_has right m from (suc most) (suc size) few all =
    let first = and_left _ _ all in
    let rest = fewer_has right m (from + 1) most size (omega (arith, few)) (and_right _ _ all) in
    λ i. first i && rest i

pub can_write-fewer : (m : Space) (from most size : ℕ) → size ≤ most → can_write m from most ≡ true → can_write m from size ≡ true
can_write-fewer m from most size few may =
    let fits : nat_le (from + most) (2 ^ 64) ≡ true = and_left _ _ may in
    let less : nat_le (from + size) (2 ^ 64) ≡ true = grind (arith, nat_tests, fits, few) in
    let has = fewer_has (λ rights. rights.write) m from most size few (and_right _ _ may) in
    λ i. less i && has i

-- the bytes of a read can be placed
pub read_writable : (s : State) (h : ℕ) (call : Record) → fits s (act_of s h) call ≡ true → call.way ≡ way.Read
    → can_write s.memory (place_named (option_map hart_of (slice_get s.slots h))) (length call.bytes) ≡ true
read_writable s h call fit reads = by (act_of s h) refl fit (act_named s h)
  where
    hart : Option Hart
    hart = option_map hart_of (slice_get s.slots h)

    by_way : (w : Way) (fd asked place : ℕ) → act_of s h ≡ Request w fd asked place → fits s (Request w fd asked place) call ≡ true → w ≡ way.Read → IsNamed hart (Request w fd asked place)
        → can_write s.memory (place_named hart) (length call.bytes) ≡ true
    by_way way.Write fd asked place is fit e named = cc
    by_way way.Close fd asked place is fit e named = cc
    by_way way.Read fd asked place is fit e named =
        let short = fits_short s way.Read fd asked place call fit in
        let may = (request_servable s h way.Read fd asked place is).way.2 in
        subst (λ (p : ℕ). can_write s.memory p (length call.bytes) ≡ true) named (can_write-fewer s.memory place asked (length call.bytes) short may)

    by : (a : StateAct) → act_of s h ≡ a → fits s a call ≡ true → IsNamed hart a → can_write s.memory (place_named hart) (length call.bytes) ≡ true
    by (Request w fd asked place) is fit named =
        let first : is_same_way call.way w ≡ true = and_left _ _ (and_left _ _ (and_left _ _ fit)) in
        by_way w fd asked place is fit (same_read w (sym (ap (λ (x : Way). is_same_way x w) reads) ∙ first)) named
    by (Ordinary t) is fit named = cc
    by (Fault name) is fit named = cc
    by (Arrival point) is fit named = cc
    by (End code) is fit named = cc
    by Absent is fit named = cc

-- a read that fits is for that place
pub read_place-is : (s : State) (h : ℕ) (call : Record) → fits s (act_of s h) call ≡ true → call.way ≡ way.Read → read_place (act_of s h) ≡ place_named (option_map hart_of (slice_get s.slots h))
read_place-is s h call fit reads = by (act_of s h) fit (act_named s h)
  where
    hart : Option Hart
    hart = option_map hart_of (slice_get s.slots h)

    by_way : (w : Way) (fd asked place : ℕ) → w ≡ way.Read → IsNamed hart (Request w fd asked place) → place ≡ place_named hart
    by_way way.Write fd asked place e named = cc
    by_way way.Close fd asked place e named = cc
    by_way way.Read fd asked place e named = named

    by : (a : StateAct) → fits s a call ≡ true → IsNamed hart a → read_place a ≡ place_named hart
    by (Request w fd asked place) fit named =
        let first : is_same_way call.way w ≡ true = and_left _ _ (and_left _ _ (and_left _ _ fit)) in
        by_way w fd asked place (same_read w (sym (ap (λ (x : Way). is_same_way x w) reads) ∙ first)) named
    by (Ordinary t) fit named = cc
    by (Fault name) fit named = cc
    by (Arrival point) fit named = cc
    by (End code) fit named = cc
    by Absent fit named = cc

-- the state behind a call, by its parts

abbrev pub answered_slots : List Slot → ℕ → ℕ → Record → List Slot
answered_slots slots h place call = changed closed h (changed (on_hart (answered call.answer)) h (read_over slots place call))

abbrev pub called_parts : State → ℕ → ℕ → Record → State
called_parts s h place call =
    record s {
      memory = read_into s.memory place call;
      slots = answered_slots s.slots h place call;
      records = s.records ++ call ∷ [];
      steps = s.steps + 1;
    }

placed_by : (s : State) (h : ℕ) (call : Record) (w : Way) (p q : ℕ) → (w ≡ way.Read → p ≡ q)
    → record s {
      memory = space_with w s.memory q call.bytes;
      slots = changed closed h (changed (on_hart (answered call.answer)) h (slots_with w s.slots q (length call.bytes)));
      records = s.records ++ call ∷ [];
      steps = s.steps + 1;
    } ≡ with_closed (with_hart (placed (with_record s call) w p call.bytes) h (answered call.answer)) h
placed_by s h call way.Read p q same = ap (λ r. with_closed (with_hart (placed (with_record s call) way.Read r call.bytes) h (answered call.answer)) h) (sym (same refl))
placed_by s h call way.Write p q same = refl
placed_by s h call way.Close p q same = refl

pub called_by : (s : State) (h : ℕ) (call : Record) → fits s (act_of s h) call ≡ true
    → called_parts s h (place_named (option_map hart_of (slice_get s.slots h))) call ≡ called s h call
unfolding called
called_by s h call fit = placed_by s h call call.way (read_place (act_of s h)) (place_named (option_map hart_of (slice_get s.slots h))) (read_place-is s h call fit)

-- descriptors that are closed

set_here : (xs : List Bool) (j : ℕ) (x y : Bool) → slice_get xs j ≡ Some y → slice_get (set xs j x) j ≡ Some x
set_here [] j x y is = cc
set_here (z ∷ zs) zero x y is = refl
set_here (z ∷ zs) (suc j) x y is = set_here zs j x y is

set_there : (xs : List Bool) (k j : ℕ) (x : Bool) → k ≢ j → slice_get (set xs k x) j ≡ slice_get xs j
set_there [] k j x apart = refl
set_there (z ∷ zs) zero zero x apart = absurd (apart refl)
set_there (z ∷ zs) zero (suc j) x apart = refl
set_there (z ∷ zs) (suc k) zero x apart = refl
set_there (z ∷ zs) (suc k) (suc j) x apart = set_there zs k j x (λ e. apart (ap suc e))

set_bool : (xs : List Bool) (k j : ℕ) (x y : Bool) → slice_get xs j ≡ Some y → slice_get (set xs k x) j ≡ Some (if k == j then x else y)
set_bool xs k j x y is = elim (eqb_tells k j) [
  | inl at ↦ ap (λ n. slice_get (set xs n x) j) at.1 ∙ set_here xs j x y is ∙ sym (ap (λ b. Some (if b then x else y)) at.0)
  | inr at ↦ set_there xs k j x at.1 ∙ is ∙ sym (ap (λ b. Some (if b then x else y)) at.0)
]

any_last : (fd : ℕ) (records : List Record) (call : Record) → is_closed fd (records ++ call ∷ []) ≡ (is_closed fd records || (is_close call.way && (call.port == fd)))
any_last fd [] call = or_none (is_close call.way && (call.port == fd))
  where
    or_none : (b : Bool) → (b || false) ≡ b
    or_none true = refl
    or_none false = refl
any_last fd (r ∷ records) call = ap (λ b. (is_close r.way && (r.port == fd)) || b) (any_last fd records call) ∙ or_assoc (is_close r.way && (r.port == fd)) (is_closed fd records) _
  where
    or_assoc : (a b c : Bool) → (a || (b || c)) ≡ ((a || b) || c)
    or_assoc true b c = refl
    or_assoc false b c = refl

-- behind a call the list tells of each descriptor what the records do
pub shut_tells : (closed : List Bool) (records : List Record) (call : Record) (fd : ℕ) → slice_get closed fd ≡ Some (is_closed fd records)
    → slice_get (shut_by call closed) fd ≡ Some (is_closed fd (records ++ call ∷ []))
shut_tells closed records call fd is = by call.way ∙ sym (ap Some (any_last fd records call))
  where
    or_none : (b : Bool) → b ≡ (b || false)
    or_none true = refl
    or_none false = refl

    turn : (b c : Bool) → (if b then true else c) ≡ (c || b)
    turn true true = refl
    turn true false = refl
    turn false true = refl
    turn false false = refl

    by : (w : Way) → slice_get (closed_with w call.port closed) fd ≡ Some (is_closed fd records || (is_close w && (call.port == fd)))
    by way.Read = is ∙ ap Some (or_none (is_closed fd records))
    by way.Write = is ∙ ap Some (or_none (is_closed fd records))
    by way.Close = set_bool closed call.port fd true (is_closed fd records) is ∙ ap Some (turn (call.port == fd) (is_closed fd records))

-- the bytes of all records, of which one more came
pub sum_more : (records : List Record) (call : Record) (bytes more new : ℕ) → bytes ≡ min (sum_by (λ (r : Record). length r.bytes) records) (2 ^ 64 - 1) → more ≡ length call.bytes
    → new ≡ min (bytes + more) (2 ^ 64 - 1) → new ≡ min (sum_by (λ (r : Record). length r.bytes) (records ++ call ∷ [])) (2 ^ 64 - 1)
sum_more records call bytes more new is one grown =
    let pushed = sum_by_push (λ (r : Record). length r.bytes) records call in
    omega (arith, is, one, grown, pushed)
