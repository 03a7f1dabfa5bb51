-- No entry changes the number of slots.
use Rattle.std.proofs.Common.{◌≡◌, ℕ, List, [], ◌∷◌, length, Option, Some, None, refl, ◌∙◌}
use Rattle.std.proofs.lemmas.List.{length-map, length-set}
use Rattle.guest_words.specs.declared.fault.Fault.{Fault as FaultAt}
use Rattle.guest_words.specs.declared.hart.Slot.{Slot}
use Rattle.guest_words.specs.declared.point.PointRef.{PointRef}
use Rattle.guest_words.specs.declared.record.Record.{Record}
use Rattle.guest_words.specs.CallChanges.{departed, ready, with_child}
use Rattle.guest_words.specs.Harts.{opened}
use Rattle.guest_words.specs.State.{State, closed, enter, on_hart}
use Rattle.run_history.specs.declared.entry.Entry.{Entry, Ran, Entered, Called, Rescued', Ended}
use Rattle.run_history.specs.After.{after, after_row, called, next, ran, rescued_from, state_after}
use Rattle.run_history.proofs.Slots.{length-changed}
use Rattle.run_history.proofs.Walk.{OtherChanges, OwnChanges, called_walked, entered_walked, next_walked, ran_walked, rescued_walked, walked_act}

-- the second state has as many slots as the first
abbrev pub SameCount : State → State → Type 0
SameCount s t = length t.slots ≡ length s.slots

own : (h : ℕ) → OwnChanges h SameCount
own h = record {
  same = λ s. refl;
  both = λ a b c p q. q ∙ p;
  rest = λ s m brk waiting tid steps. refl;
  hart = λ s f. length-changed (on_hart f) h s.slots;
  closes = λ s. length-changed closed h s.slots;
  leaves = λ s code. length-changed (departed code) h s.slots;
  each = λ s f same. length-map s.slots (on_hart f);
}

child_same : (slot : ℕ) (child : Slot → Slot) (o : Option Slot) (slots : List Slot) → length (with_child slot child o slots) ≡ length slots
child_same slot child None slots = refl
child_same slot child (Some parent) slots = length-set slots slot (child parent)

other : OtherChanges SameCount
other = record {
  wakes = λ s k. length-changed (on_hart ready) k s.slots;
  bears = λ s slot child parent none. child_same slot child parent s.slots;
}

pub next_count : (s : State) (h : ℕ) → SameCount s (next s h)
next_count s h = next_walked h SameCount (own h) s (walked_act h SameCount (own h) other s)

pub ran_count : (s : State) (h n : ℕ) → SameCount s (ran s h n)
ran_count s h n = ran_walked h SameCount (own h) n s (λ t. walked_act h SameCount (own h) other t)

pub entered_count : (s : State) (h : ℕ) (p : PointRef) → SameCount s (enter s h p)
entered_count s h p = entered_walked h SameCount (own h) s p (length-changed (opened p) h s.slots)

pub called_count : (s : State) (h : ℕ) (call : Record) → SameCount s (called s h call)
called_count s h call = called_walked h SameCount (own h) (λ t rs. refl) s call

pub rescued_count : (s : State) (h : ℕ) (p : PointRef) (f : FaultAt) (t : State) → SameCount s (rescued_from s h p f t)
rescued_count s h p f t = rescued_walked h SameCount (own h) (λ u rs. refl) (λ u ps. refl) s t p f

pub after_count : (s : State) (e : Entry) → SameCount s (after s e)
unfolding after
after_count s (Ran h n) = ran_count s h n
after_count s (Entered h p) = entered_count s h p
after_count s (Called h call) = called_count s h call
after_count s (Rescued' h p f shape inside) = rescued_count s h p f (after_row _ inside)
after_count s (Ended x) = refl

pub state_after_count : (s : State) (es : List Entry) → SameCount s (state_after s es)
state_after_count s [] = refl
state_after_count s (e ∷ es) = state_after_count (after s e) es ∙ after_count s e
