-- What stays of a state along its entries: the number of slots, the heap's place, the ports and the
-- budget; and the ending, until there is one.
use Rattle.std.proofs.Common.{◌≡◌, ℕ, List, length, ap, ◌∙◌}
use Rattle.guest_words.specs.declared.fault.Fault.{Fault as FaultAt}
use Rattle.guest_words.specs.declared.point.PointRef.{PointRef}
use Rattle.guest_words.specs.declared.record.Record.{Record}
use Rattle.guest_words.specs.State.{State, enter}
use Rattle.run_history.specs.declared.entry.Entry.{Entry}
use Rattle.run_history.specs.After.{after, called, next, ran, rescued_from, state_after}
use Rattle.run_history.proofs.Kept.{Fixed, Rest, after_fixed, called_keeps, enter_keeps, fixed_of, next_keeps, ran_keeps, rescued_keeps, state_after_fixed}
use Rattle.run_history.proofs.SlotCount.{after_count, called_count, entered_count, next_count, ran_count, rescued_count, state_after_count}

pub record Stays (s t : State) : Type 0 where
  pub low : t.low ≡ s.low
  pub ports : t.ports ≡ s.ports
  pub budget : t.budget ≡ s.budget
  pub slots : length t.slots ≡ length s.slots

pub stays_both : (s t u : State) → Stays s t → Stays t u → Stays s u
stays_both s t u p q = record { low = q.low ∙ p.low; ports = q.ports ∙ p.ports; budget = q.budget ∙ p.budget; slots = q.slots ∙ p.slots }

by_fixed : (s t : State) → fixed_of t ≡ fixed_of s → length t.slots ≡ length s.slots → Stays s t
by_fixed s t same count = record { low = ap (λ (f : Fixed). f.low) same; ports = ap (λ (f : Fixed). f.ports) same; budget = ap (λ (f : Fixed). f.budget) same; slots = count }

pub next_stays : (s : State) (h : ℕ) → Stays s (next s h)
next_stays s h = let r = next_keeps s h in record { low = ap (λ (x : Rest). x.low) r; ports = ap (λ (x : Rest). x.ports) r; budget = ap (λ (x : Rest). x.budget) r; slots = next_count s h }

pub ran_stays : (s : State) (h n : ℕ) → Stays s (ran s h n)
ran_stays s h n = let r = ran_keeps s h n in record { low = ap (λ (x : Rest). x.low) r; ports = ap (λ (x : Rest). x.ports) r; budget = ap (λ (x : Rest). x.budget) r; slots = ran_count s h n }

pub called_stays : (s : State) (h : ℕ) (call : Record) → Stays s (called s h call)
called_stays s h call =
    let r = called_keeps s h call in record { low = ap (λ (x : Rest). x.low) r; ports = ap (λ (x : Rest). x.ports) r; budget = ap (λ (x : Rest). x.budget) r; slots = called_count s h call }

pub entered_stays : (s : State) (h : ℕ) (p : PointRef) → Stays s (enter s h p)
entered_stays s h p =
    let r = enter_keeps s h p in record { low = ap (λ (x : Rest). x.low) r; ports = ap (λ (x : Rest). x.ports) r; budget = ap (λ (x : Rest). x.budget) r; slots = entered_count s h p }

-- a call that is taken back leaves what was there at its entry
pub rescued_stays : (s : State) (h : ℕ) (p : PointRef) (f : FaultAt) (t : State) → Stays s (rescued_from s h p f t)
rescued_stays s h p f t =
    let r = rescued_keeps s h p f t in
    record { low = ap (λ (x : Rest). x.low) r; ports = ap (λ (x : Rest). x.ports) r; budget = ap (λ (x : Rest). x.budget) r; slots = rescued_count s h p f t }

pub after_stays : (s : State) (e : Entry) → Stays s (after s e)
after_stays s e = by_fixed s (after s e) (after_fixed s e) (after_count s e)

pub state_after_stays : (s : State) (es : List Entry) → Stays s (state_after s es)
state_after_stays s es = by_fixed s (state_after s es) (state_after_fixed s es) (state_after_count s es)

-- the ending

pub next_ending : (s : State) (h : ℕ) → (next s h).ending ≡ s.ending
next_ending s h = ap (λ (r : Rest). r.ending) (next_keeps s h)

pub ran_ending : (s : State) (h n : ℕ) → (ran s h n).ending ≡ s.ending
ran_ending s h n = ap (λ (r : Rest). r.ending) (ran_keeps s h n)

pub called_ending : (s : State) (h : ℕ) (call : Record) → (called s h call).ending ≡ s.ending
called_ending s h call = ap (λ (r : Rest). r.ending) (called_keeps s h call)

pub entered_ending : (s : State) (h : ℕ) (p : PointRef) → (enter s h p).ending ≡ s.ending
entered_ending s h p = ap (λ (r : Rest). r.ending) (enter_keeps s h p)

pub rescued_ending : (s : State) (h : ℕ) (p : PointRef) (f : FaultAt) (t : State) → (rescued_from s h p f t).ending ≡ s.ending
rescued_ending s h p f t = ap (λ (r : Rest). r.ending) (rescued_keeps s h p f t)
