-- The frames of the other harts, and states with no frame at all.
use Rattle.std.proofs.Common.{◌≡◌, ◌≢◌, ℕ, zero, suc, ◌+◌, ◌-◌, Bool, true, false, ◌&&◌, ◌==◌, List, [], ◌∷◌, length, take, drop, replicate, refl, ap, sym, ◌∙◌, slice_get, arith, ◌≢◌}
use Rattle.std.proofs.lemmas.Bool.{and_from, eq-eqb, eqb-true}
use Rattle.std.proofs.lemmas.Bool.Decides.{nat_tests}
use Rattle.std.specs.List.{list_all}
use Rattle.guest_words.specs.declared.hart.Slot.{Slot}
use Rattle.guest_words.specs.declared.image.Image.{Image}
use Rattle.guest_words.specs.declared.point.Point.{Point}
use Rattle.guest_words.specs.declared.point.PointRef.{PointRef}
use Rattle.guest_words.specs.declared.fault.Fault.{Fault as FaultAt}
use Rattle.guest_words.specs.declared.record.Record.{Record}
use Rattle.guest_words.specs.State.{State, frame_count, frames_at}
use Rattle.guest_words.specs.CallChanges.{each_other}
use Rattle.guest_words.specs.Start.{start_of, slot_of, empty_hart}
use Rattle.run_history.specs.After.{next, ran, called, rescued_from}
use Rattle.run_history.specs.Legal.{is_alone}
use Rattle.run_history.specs.Quiet.{are_quiet, is_quiet}
use Rattle.run_history.proofs.Ands.{and_left, and_right}
use Rattle.run_history.proofs.Slots.{drop_next}
use Rattle.run_history.proofs.FewerFrames.{HasFewer, next_fewer, ran_fewer, called_fewer, rescued_fewer}

-- the tests of the slots, by number

abbrev frameless : Slot → Bool
frameless slot = length slot.frames == 0

pub quiet_each : (slots : List Slot) → are_quiet slots ≡ true → (k : ℕ) → frame_count (slice_get slots k) ≡ 0
quiet_each [] is k = refl
quiet_each (x ∷ xs) is zero = eqb-true (length x.frames) 0 (and_left _ _ is)
quiet_each (x ∷ xs) is (suc k) = quiet_each xs (and_right (frameless x) _ is) k

pub each_quiet : (slots : List Slot) → ((k : ℕ) → frame_count (slice_get slots k) ≡ 0) → are_quiet slots ≡ true
each_quiet [] each = refl
each_quiet (x ∷ xs) each = and_from _ _ (eq-eqb (length x.frames) 0 (each zero)) (each_quiet xs (λ k. each (suc k)))

abbrev are_alone : ℕ → List Slot → Bool
are_alone h slots = each_other frameless h slots

alone_next : (h : ℕ) (x : Slot) (xs : List Slot) → are_alone (suc h) (x ∷ xs) ≡ (frameless x && list_all frameless (take h xs) && list_all frameless (drop (h + 1) xs))
alone_next h x xs = ap (λ ys. frameless x && list_all frameless (take h xs) && list_all frameless ys) (drop_next h x xs)

pub alone_each : (h : ℕ) (slots : List Slot) → are_alone h slots ≡ true → (k : ℕ) → k ≢ h → frame_count (slice_get slots k) ≡ 0
alone_each h [] is k apart = refl
alone_each zero (x ∷ xs) is zero apart = absurd (apart refl)
alone_each zero (x ∷ xs) is (suc k) apart = quiet_each xs is k
alone_each (suc h) (x ∷ xs) is zero apart = eqb-true (length x.frames) 0 (and_left _ _ (and_left _ _ (sym (alone_next h x xs) ∙ is)))
alone_each (suc h) (x ∷ xs) is (suc k) apart =
    let split = sym (alone_next h x xs) ∙ is in
    alone_each h xs (and_from _ _ (and_right (frameless x) _ (and_left _ _ split)) (and_right (frameless x && list_all frameless (take h xs)) _ split)) k
    (λ e. apart (ap suc e))

pub each_alone : (h : ℕ) (slots : List Slot) → ((k : ℕ) → k ≢ h → frame_count (slice_get slots k) ≡ 0) → are_alone h slots ≡ true
each_alone zero [] each = refl
each_alone (suc h) [] each = let next : suc h + 1 ≡ suc (suc h) = omega arith in ap (λ n. list_all frameless (drop {A = Slot} n [])) next
each_alone zero (x ∷ xs) each = each_quiet xs (λ k. each (suc k) (λ e. omega (arith, e)))
each_alone (suc h) (x ∷ xs) each =
    let rest = each_alone h xs (λ k apart. each (suc k) (λ e. apart (omega (arith, e)))) in
    alone_next h x xs
    ∙ and_from _ _ (and_from _ _ (eq-eqb (length x.frames) 0 (each zero (λ e. omega (arith, e)))) (and_left _ _ rest)) (and_right (list_all frameless (take h xs)) _ rest)

-- what opens no frame leaves the others without one

pub alone_kept : (h : ℕ) (s t : State) → HasFewer s.slots t.slots → is_alone s h ≡ true → is_alone t h ≡ true
alone_kept h s t fewer is =
    each_alone h t.slots (λ k apart. let before = alone_each h s.slots is k apart in let less = fewer k in omega (arith, before, less))

pub quiet_kept : (s t : State) → HasFewer s.slots t.slots → is_quiet s ≡ true → is_quiet t ≡ true
quiet_kept s t fewer is = each_quiet t.slots (λ k. let before = quiet_each s.slots is k in let less = fewer k in omega (arith, before, less))

pub alone_next_act : (s : State) (k h : ℕ) → is_alone s h ≡ true → is_alone (next s k) h ≡ true
alone_next_act s k h is = alone_kept h s (next s k) (next_fewer s k) is

pub alone_ran : (s : State) (k n h : ℕ) → is_alone s h ≡ true → is_alone (ran s k n) h ≡ true
alone_ran s k n h is = alone_kept h s (ran s k n) (ran_fewer s k n) is

pub alone_called : (s : State) (k h : ℕ) (call : Record) → is_alone s h ≡ true → is_alone (called s k call) h ≡ true
alone_called s k h call is = alone_kept h s (called s k call) (called_fewer s k call) is

pub alone_rescued : (s : State) (k h : ℕ) (p : PointRef) (f : FaultAt) (t : State) → is_alone s h ≡ true → is_alone (rescued_from s k p f t) h ≡ true
alone_rescued s k h p f t is = alone_kept h s (rescued_from s k p f t) (rescued_fewer s k p f t) is

pub quiet_next : (s : State) (h : ℕ) → is_quiet s ≡ true → is_quiet (next s h) ≡ true
quiet_next s h is = quiet_kept s (next s h) (next_fewer s h) is

pub quiet_ran : (s : State) (h n : ℕ) → is_quiet s ≡ true → is_quiet (ran s h n) ≡ true
quiet_ran s h n is = quiet_kept s (ran s h n) (ran_fewer s h n) is

pub quiet_called : (s : State) (h : ℕ) (call : Record) → is_quiet s ≡ true → is_quiet (called s h call) ≡ true
quiet_called s h call is = quiet_kept s (called s h call) (called_fewer s h call) is

pub quiet_rescued : (s : State) (h : ℕ) (p : PointRef) (f : FaultAt) (t : State) → is_quiet s ≡ true → is_quiet (rescued_from s h p f t) ≡ true
quiet_rescued s h p f t is = quiet_kept s (rescued_from s h p f t) (rescued_fewer s h p f t) is

-- a state is quiet where a hart is alone and has no frame either

pub quiet_alone : (s : State) (h : ℕ) → is_quiet s ≡ true → is_alone s h ≡ true
quiet_alone s h is = each_alone h s.slots (λ k apart. quiet_each s.slots is k)

pub quiet_frames : (s : State) (h : ℕ) → is_quiet s ≡ true → frames_at s h ≡ 0
quiet_frames s h is = quiet_each s.slots is h

pub alone_quiet : (s : State) (h : ℕ) → is_alone s h ≡ true → frames_at s h ≡ 0 → is_quiet s ≡ true
alone_quiet s h is none = each_quiet s.slots (λ k. by k (k == h) refl)
  where
    by : (k : ℕ) (b : Bool) → (k == h) ≡ b → frame_count (slice_get s.slots k) ≡ 0
    by k true e = let at : k ≡ h = grind (arith, nat_tests, e) in ap (λ i. frame_count (slice_get s.slots i)) at ∙ none
    by k false e = alone_each h s.slots is k (λ same. grind (arith, nat_tests, e, same))

replicate_quiet : (n : ℕ) → are_quiet (replicate n (slot_of empty_hart)) ≡ true
replicate_quiet zero = refl
replicate_quiet (suc n) = replicate_quiet n

pub start_quiet : (image : Image) (points : List Point) (harts ports budget : ℕ) → is_quiet (start_of image points harts ports budget) ≡ true
start_quiet image points harts ports budget = replicate_quiet (harts - 1)
