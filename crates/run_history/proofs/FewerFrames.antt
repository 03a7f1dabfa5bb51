-- No act of a hart opens a frame: each slot has at most as many frames after it as before.
use Rattle.std.proofs.Common.{◌≡◌, ℕ, zero, suc, ◌≤◌, Bool, true, false, if◌then◌else◌, List, [], ◌∷◌, length, set, Option, Some, None, refl, ap, sym, slice_get, subst, arith}
use Rattle.guest_words.specs.declared.fault.Fault.{Fault as FaultAt}
use Rattle.guest_words.specs.declared.hart.Frame.{Frame}
use Rattle.guest_words.specs.declared.hart.Hart.{Hart}
use Rattle.guest_words.specs.declared.hart.Slot.{Slot}
use Rattle.guest_words.specs.declared.point.PointRef.{PointRef}
use Rattle.guest_words.specs.declared.record.Record.{Record}
use Rattle.guest_words.specs.CallChanges.{departed, ready, with_child}
use Rattle.guest_words.specs.Harts.{close_frames, is_over, kept_below}
use Rattle.guest_words.specs.State.{State, changed, changed_by, closed, frame_count, on_each, on_hart}
use Rattle.run_history.specs.After.{called, next, ran, rescued_from}
use Rattle.run_history.proofs.Walk.{OtherChanges, OwnChanges, called_walked, next_walked, ran_walked, rescued_walked, walked_act}

-- each slot of the second list has at most as many frames as in the first
abbrev pub HasFewer : List Slot → List Slot → Type 0
HasFewer slots after = (k : ℕ) → frame_count (slice_get after k) ≤ frame_count (slice_get slots k)

abbrev pub OpensNone : State → State → Type 0
OpensNone s t = HasFewer s.slots t.slots

pub fewer_same : (slots : List Slot) → HasFewer slots slots
fewer_same slots = λ k. omega arith

pub fewer_both : (a b c : List Slot) → HasFewer a b → HasFewer b c → HasFewer a c
fewer_both a b c first second = λ k. let p = first k in let q = second k in omega (arith, p, q)

cons_fewer : (y x : Slot) (ys xs : List Slot) → length x.frames ≤ length y.frames → HasFewer ys xs → (k : ℕ) → frame_count (slice_get (x ∷ xs) k) ≤ frame_count (slice_get (y ∷ ys) k)
cons_fewer y x ys xs first rest zero = first
cons_fewer y x ys xs first rest (suc k) = rest k

set_fewer : (slots : List Slot) (h : ℕ) (x : Slot) → length x.frames ≤ frame_count (slice_get slots h) → HasFewer slots (set slots h x)
set_fewer [] h x less = λ k. omega arith
set_fewer (y ∷ ys) zero x less = cons_fewer y x ys ys less (fewer_same ys)
set_fewer (y ∷ ys) (suc h) x less = cons_fewer y y ys (set ys h x) (omega arith) (set_fewer ys h x less)

-- a change of one slot that opens no frame
pub changed_fewer : (f : Slot → Slot) (h : ℕ) (slots : List Slot) → ((slot : Slot) → length (f slot).frames ≤ length slot.frames) → HasFewer slots (changed f h slots)
unfolding changed
changed_fewer f h slots less = by (slice_get slots h) refl
  where
    by : (o : Option Slot) → slice_get slots h ≡ o → HasFewer slots (changed_by f h slots o)
    by None is = fewer_same slots
    by (Some slot) is = set_fewer slots h (f slot) (subst (λ (o : Option Slot). length (f slot).frames ≤ frame_count o) (sym is) (less slot))

-- a change of every hart
pub each_fewer : (f : Hart → Hart) (slots : List Slot) → HasFewer slots (on_each f slots)
each_fewer f [] = λ k. omega arith
each_fewer f (x ∷ xs) = cons_fewer x (on_hart f x) xs (on_each f xs) (omega arith) (each_fewer f xs)

pub length-close_frames : (hart : Hart) (frames : List Frame) → length (close_frames hart frames) ≤ length frames
unfolding close_frames
length-close_frames hart [] = omega arith
length-close_frames hart (frame ∷ frames) = let below = length-close_frames hart frames in by (close_frames hart frames) below
  where
    one : (b : Bool) → length (if b then [] else frame ∷ []) ≤ 1
    one true = omega arith
    one false = omega arith

    by : (kept : List Frame) → length kept ≤ length frames → length (kept_below hart frame kept) ≤ suc (length frames)
    by [] less = let few = one (is_over hart frame) in omega (arith, few)
    by (inner ∷ rest) less = omega (arith, less)

child_fewer : (slot : ℕ) (child : Slot → Slot) (o : Option Slot) (slots : List Slot) → ((parent : Slot) → (child parent).frames ≡ []) → HasFewer slots (with_child slot child o slots)
child_fewer slot child None slots none = fewer_same slots
child_fewer slot child (Some parent) slots none = let new : length (child parent).frames ≡ 0 = ap length (none parent) in set_fewer slots slot (child parent) (omega (arith, new))

-- no change of an act opens a frame
pub opens_none : (h : ℕ) → OwnChanges h OpensNone
opens_none h = record {
  same = λ s. fewer_same s.slots;
  both = λ a b c p q. fewer_both a.slots b.slots c.slots p q;
  rest = λ s m brk waiting tid steps. fewer_same s.slots;
  hart = λ s f. changed_fewer (on_hart f) h s.slots (λ slot. omega arith);
  closes = λ s. changed_fewer closed h s.slots (λ slot. length-close_frames slot.hart slot.frames);
  leaves = λ s code. changed_fewer (departed code) h s.slots (λ slot. omega arith);
  each = λ s f same. each_fewer f s.slots;
}

pub opens_none_other : OtherChanges OpensNone
opens_none_other = record {
  wakes = λ s k. changed_fewer (on_hart ready) k s.slots (λ slot. omega arith);
  bears = λ s slot child parent none. child_fewer slot child parent s.slots none;
}

pub next_fewer : (s : State) (h : ℕ) → OpensNone s (next s h)
next_fewer s h = next_walked h OpensNone (opens_none h) s (walked_act h OpensNone (opens_none h) opens_none_other s)

pub ran_fewer : (s : State) (h n : ℕ) → OpensNone s (ran s h n)
ran_fewer s h n = ran_walked h OpensNone (opens_none h) n s (λ t. walked_act h OpensNone (opens_none h) opens_none_other t)

pub called_fewer : (s : State) (h : ℕ) (r : Record) → OpensNone s (called s h r)
called_fewer s h r = called_walked h OpensNone (opens_none h) (λ t rs. fewer_same t.slots) s r

pub rescued_fewer : (s : State) (h : ℕ) (p : PointRef) (f : FaultAt) (t : State) → OpensNone s (rescued_from s h p f t)
rescued_fewer s h p f t = rescued_walked h OpensNone (opens_none h) (λ t rs. fewer_same t.slots) (λ t ps. fewer_same t.slots) s t p f
