-- Along the inside of a call the frames further out stay: acts close frames from the innermost on,
-- and an entering opens one behind them.
use Rattle.std.proofs.Common.{◌≡◌, ℕ, zero, suc, ◌≤◌, Bool, true, false, ◌&&◌, nat_lt, if◌then◌else◌, List, [], ◌∷◌, ◌++◌, length, take, set, Option, Some, None, option_map, inl, inr, refl, ap, sym, ◌∙◌, slice_get, subst, arith}
use Rattle.std.proofs.lemmas.Bool.{eqb-true}
use Rattle.std.proofs.lemmas.Bool.Decides.{nat_tests}
use Rattle.std.proofs.lemmas.List.{append_assoc, append-nil, take-append-le}
use Rattle.std.proofs.lemmas.Option.{slice_get-map}
use Rattle.guest_words.specs.declared.fault.Fault.{Fault as FaultAt}
use Rattle.guest_words.specs.declared.hart.Frame.{Frame}
use Rattle.guest_words.specs.declared.hart.Hart.{Hart}
use Rattle.guest_words.specs.declared.hart.Slot.{Slot}
use Rattle.guest_words.specs.declared.point.PointRef.{PointRef}
use Rattle.guest_words.specs.declared.record.Record.{Record}
use Rattle.guest_words.specs.CallChanges.{departed, ready, with_child}
use Rattle.guest_words.specs.Harts.{close_frames, frame_of, is_over, kept_below, opened, unreserved}
use Rattle.guest_words.specs.State.{State, changed, closed, enter, frame_count, frames_at, on_each, on_hart}
use Rattle.hart_slots.specs.Rejoined.{frames_of}
use Rattle.run_history.specs.declared.entry.Entry.{Entry, Ran, Entered, Called, Rescued', Ended}
use Rattle.run_history.specs.After.{after, after_row, called, ran, rescued_from, state_after}
use Rattle.run_history.specs.Legal.{is_of, legal, legal_inside}
use Rattle.run_history.proofs.Ands.{and_left, and_right, same_or}
use Rattle.run_history.proofs.Nested.{frames-Entered}
use Rattle.run_history.proofs.Slots.{changed-get, changed-other}
use Rattle.run_history.proofs.Walk.{OtherChanges, OwnChanges, called_walked, ran_walked, rescued_walked, walked_act}

-- frames with more of them behind
pub record Front (xs ys : List Frame) : Type 0 where
  pub rest : List Frame
  pub is : ys ≡ xs ++ rest

front_same : (xs : List Frame) → Front xs xs
front_same xs = record { rest = []; is = sym (append-nil xs) }

front_none : (ys : List Frame) → Front [] ys
front_none ys = record { rest = ys; is = refl }

front_both : (xs ys zs : List Frame) → Front xs ys → Front ys zs → Front xs zs
front_both xs ys zs p q = record { rest = p.rest ++ q.rest; is = q.is ∙ ap (λ fs. fs ++ q.rest) p.is ∙ append_assoc xs p.rest q.rest }

front_take : (d : ℕ) (xs ys : List Frame) → Front xs ys → d ≤ length xs → take d xs ≡ take d ys
front_take d xs ys f few = sym (take-append-le d xs f.rest few) ∙ ap (take d) (sym f.is)

-- the frames of a hart
abbrev pub frames_in : State → ℕ → List Frame
frames_in s h = frames_of (slice_get s.slots h)

length-of : (o : Option Slot) → length (frames_of o) ≡ frame_count o
length-of None = refl
length-of (Some slot) = refl

pub length-frames_in : (s : State) (h : ℕ) → length (frames_in s h) ≡ frames_at s h
length-frames_in s h = length-of (slice_get s.slots h)

-- the frames of a hart are those that it had, or the outermost of them
abbrev pub KeepsFront : ℕ → List Slot → List Slot → Type 0
KeepsFront h slots after = Front (frames_of (slice_get after h)) (frames_of (slice_get slots h))

by_option : (f : Slot → Slot) (o : Option Slot) → ((slot : Slot) → Front (f slot).frames slot.frames) → Front (frames_of (option_map f o)) (frames_of o)
by_option f None each = front_same []
by_option f (Some slot) each = each slot

front_changed : (f : Slot → Slot) (h : ℕ) (slots : List Slot) → ((slot : Slot) → Front (f slot).frames slot.frames) → KeepsFront h slots (changed f h slots)
front_changed f h slots each =
    subst (λ (o : Option Slot). Front (frames_of o) (frames_of (slice_get slots h))) (sym (changed-get f h slots)) (by_option f (slice_get slots h) each)

front_each : (f : Hart → Hart) (h : ℕ) (slots : List Slot) → KeepsFront h slots (on_each f slots)
front_each f h slots =
    subst (λ (o : Option Slot). Front (frames_of o) (frames_of (slice_get slots h))) (sym (slice_get-map (on_hart f) slots h))
    (by_option (on_hart f) (slice_get slots h) (λ slot. front_same slot.frames))

front_other : (f : Hart → Hart) (k h : ℕ) (slots : List Slot) → KeepsFront h slots (changed (on_hart f) k slots)
front_other f k h slots = elim (same_or h k) [
  | inl same ↦ subst (λ (i : ℕ). KeepsFront h slots (changed (on_hart f) i slots)) same (front_changed (on_hart f) h slots (λ slot. front_same slot.frames))
  | inr apart ↦ subst (λ (o : Option Slot). Front (frames_of o) (frames_of (slice_get slots h))) (sym (changed-other (on_hart f) k slots h apart)) (front_same (frames_of (slice_get slots h)))
]

front_set : (slots : List Slot) (k : ℕ) (x : Slot) (h : ℕ) → x.frames ≡ [] → KeepsFront h slots (set slots k x)
front_set [] k x h none = front_same []
front_set (y ∷ ys) zero x zero none = record { rest = y.frames; is = ap (λ fs. fs ++ y.frames) (sym none) }
front_set (y ∷ ys) zero x (suc h) none = front_same (frames_of (slice_get ys h))
front_set (y ∷ ys) (suc k) x zero none = front_same y.frames
front_set (y ∷ ys) (suc k) x (suc h) none = front_set ys k x h none

front_child : (k : ℕ) (child : Slot → Slot) (o : Option Slot) (slots : List Slot) (h : ℕ) → ((parent : Slot) → (child parent).frames ≡ []) → KeepsFront h slots (with_child k child o slots)
front_child k child None slots h none = front_same (frames_of (slice_get slots h))
front_child k child (Some parent) slots h none = front_set slots k (child parent) h (none parent)

front_closed : (hart : Hart) (frames : List Frame) → Front (close_frames hart frames) frames
unfolding close_frames
front_closed hart [] = front_same []
front_closed hart (frame ∷ frames) = by (close_frames hart frames) (front_closed hart frames)
  where
    one : (b : Bool) → Front (if b then [] else frame ∷ []) (frame ∷ frames)
    one true = front_none (frame ∷ frames)
    one false = record { rest = frames; is = refl }

    by : (kept : List Frame) → Front kept frames → Front (kept_below hart frame kept) (frame ∷ frames)
    by [] f = one (is_over hart frame)
    by (inner ∷ rest) f = record { rest = f.rest; is = ap (λ fs. frame ∷ fs) f.is }

abbrev Fronts : ℕ → State → State → Type 0
Fronts h s t = KeepsFront h s.slots t.slots

own : (h : ℕ) → OwnChanges h (Fronts h)
own h = record {
  same = λ s. front_same (frames_in s h);
  both = λ a b c p q. front_both (frames_in c h) (frames_in b h) (frames_in a h) q p;
  rest = λ s m brk waiting tid steps. front_same (frames_in s h);
  hart = λ s f. front_changed (on_hart f) h s.slots (λ slot. front_same slot.frames);
  closes = λ s. front_changed closed h s.slots (λ slot. front_closed slot.hart slot.frames);
  leaves = λ s code. front_changed (departed code) h s.slots (λ slot. front_none slot.frames);
  each = λ s f same. front_each f h s.slots;
}

other : (h : ℕ) → OtherChanges (Fronts h)
other h = record {
  wakes = λ s k. front_other ready k h s.slots;
  bears = λ s slot child parent none. front_child slot child parent s.slots h none;
}

-- where an entry of a hart leaves so many frames open, so many of the outermost are as before
pub ran_front : (s : State) (h n : ℕ) → Front (frames_in (ran s h n) h) (frames_in s h)
ran_front s h n = ran_walked h (Fronts h) (own h) n s (λ t. walked_act h (Fronts h) (own h) (other h) t)

pub called_front : (s : State) (h : ℕ) (call : Record) → Front (frames_in (called s h call) h) (frames_in s h)
called_front s h call = called_walked h (Fronts h) (own h) (λ t rs. front_same (frames_in t h)) s call

pub rescued_front : (s : State) (h : ℕ) (p : PointRef) (f : FaultAt) (t : State) → Front (frames_in (rescued_from s h p f t) h) (frames_in s h)
rescued_front s h p f t = rescued_walked h (Fronts h) (own h) (λ u rs. front_same (frames_in u h)) (λ u ps. front_same (frames_in u h)) s t p f

entered_option : (p : PointRef) (o : Option Slot) → Front (frames_of o) (frames_of (option_map (on_hart unreserved) (option_map (opened p) o)))
entered_option p None = front_same []
entered_option p (Some slot) = record { rest = frame_of slot.hart p ∷ []; is = refl }

pub entered_front : (s : State) (h : ℕ) (p : PointRef) → Front (frames_in s h) (frames_in (enter s h p) h)
unfolding enter
entered_front s h p =
    subst (λ (o : Option Slot). Front (frames_in s h) (frames_of o))
    (sym (slice_get-map (on_hart unreserved) (changed (opened p) h s.slots) h ∙ ap (option_map (on_hart unreserved)) (changed-get (opened p) h s.slots)))
    (entered_option p (slice_get s.slots h))

-- so many of the outermost frames of a hart are the same
abbrev pub SameBelow : ℕ → ℕ → State → State → Type 0
SameBelow d h s t = take d (frames_in t h) ≡ take d (frames_in s h)

fewer : (d h : ℕ) (s t : State) → Front (frames_in t h) (frames_in s h) → d ≤ frames_at t h → SameBelow d h s t
fewer d h s t f few = let l = length-frames_in t h in front_take d (frames_in t h) (frames_in s h) f (omega (arith, l, few))

more : (d h : ℕ) (s t : State) → Front (frames_in s h) (frames_in t h) → d ≤ frames_at s h → SameBelow d h s t
more d h s t f few = let l = length-frames_in s h in sym (front_take d (frames_in s h) (frames_in t h) f (omega (arith, l, few)))

after_below : (d h : ℕ) (s : State) (e : Entry) → is_of h e ≡ true → d ≤ frames_at s h → d ≤ frames_at (after s e) h → SameBelow d h s (after s e)
unfolding after
after_below d h s (Ran k n) of few left = let at = eqb-true k h of in
    subst (λ (i : ℕ). d ≤ frames_at (ran s i n) h → SameBelow d h s (ran s i n)) (sym at) (λ l. fewer d h s (ran s h n) (ran_front s h n) l) left
after_below d h s (Entered k p) of few left = let at = eqb-true k h of in
    subst (λ (i : ℕ). SameBelow d h s (enter s i p)) (sym at) (more d h s (enter s h p) (entered_front s h p) few)
after_below d h s (Called k call) of few left = let at = eqb-true k h of in
    subst (λ (i : ℕ). d ≤ frames_at (called s i call) h → SameBelow d h s (called s i call)) (sym at) (λ l. fewer d h s (called s h call) (called_front s h call) l) left
after_below d h s (Rescued' k p f shape inside) of few left = let at = eqb-true k h of in
    let t = λ (i : ℕ). after_row (enter s i p) inside in
    subst (λ (i : ℕ). d ≤ frames_at (rescued_from s i p f (t i)) h → SameBelow d h s (rescued_from s i p f (t i))) (sym at)
    (λ l. fewer d h s (rescued_from s h p f (t h)) (rescued_front s h p f (t h)) l) left
after_below d h s (Ended x) of few left = cc

-- along an inside that leaves more frames open
pub inside_below : (d h : ℕ) (s : State) (es : List Entry) → legal_inside s h d es ≡ true → d ≤ frames_at s h → SameBelow d h s (state_after s es)
inside_below d h s [] is few = refl
inside_below d h s (e ∷ es) is few =
    let here = and_left (is_of h e && legal s e && nat_lt d (frames_at (after s e) h)) _ is in
    let over = below d (frames_at (after s e) h) (and_right (is_of h e && legal s e) _ here) in
    inside_below d h (after s e) es (and_right (is_of h e && legal s e && nat_lt d (frames_at (after s e) h)) _ is) over
    ∙ after_below d h s e (and_left (is_of h e) _ (and_left _ _ here)) few over
  where
    below : (m n : ℕ) → nat_lt m n ≡ true → m ≤ n
    below m n is = grind (arith, nat_tests, is)

-- over a whole call
pub call_below : (h : ℕ) (b t : State) (p : PointRef) (es : List Entry) → legal b (Entered h p) ≡ true → legal_inside (enter b h p) h (frames_at b h) es ≡ true
    → state_after (enter b h p) es ≡ t → take (frames_at b h) (frames_in t h) ≡ frames_in b h
call_below h b t p es enters goes reaches =
    let d = frames_at b h in
    let one = frames-Entered b h p enters in
    let l = length-frames_in b h in
    ap (λ (s : State). take d (frames_in s h)) (sym reaches)
    ∙ inside_below d h (enter b h p) es goes (omega (arith, one))
    ∙ more d h b (enter b h p) (entered_front b h p) (omega arith)
    ∙ whole d (frames_in b h) (omega (arith, l))
  where
    whole : (d : ℕ) (xs : List Frame) → length xs ≤ d → take d xs ≡ xs
    whole zero [] few = refl
    whole zero (x ∷ xs) few = absurd (omega (arith, few))
    whole (suc d) [] few = refl
    whole (suc d) (x ∷ xs) few = ap (λ ys. x ∷ ys) (whole d xs (omega (arith, few)))
