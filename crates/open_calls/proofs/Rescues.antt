-- A call that is taken back: what was kept and its notes give the state in which it was entered, and
-- one entry may stand for all that it did.
use Rattle.std.proofs.Common.{◌≡◌, ◌≢◌, ℕ, zero, suc, ◌+◌, ◌-◌, true, false, List, [], ◌∷◌, ◌++◌, drop, length, map, take, Option, Some, None, refl, ap, sym, ◌∙◌, slice_get, arith}
use Rattle.std.proofs.lemmas.List.{length-map}
use Rattle.guest_words.specs.declared.fault.Fault.{Fault as FaultAt}
use Rattle.guest_words.specs.declared.hart.Frame.{Frame}
use Rattle.guest_words.specs.declared.hart.Slot.{Slot}
use Rattle.guest_words.specs.declared.point.PointRef.{PointRef}
use Rattle.guest_words.specs.Endings.{faults, is_budget_spent}
use Rattle.guest_words.specs.Harts.{unreserved}
use Rattle.guest_words.specs.Points.{code_of, spent}
use Rattle.guest_words.specs.State.{State, changed, changed_by, closed, enter, frame_count, frames_at, on_each, on_hart}
use Rattle.guest_memory.specs.Kept.{AddressSpace}
use Rattle.guest_memory.specs.Returning.{put_back}
use Rattle.hart_slots.specs.Rejoined.{frames_of, hart_of, rejoined, reopened}
use Rattle.undo_log.specs.declared.note.Note.{Note}
use Rattle.undo_log.specs.Undo.{undone}
use Rattle.run_history.specs.declared.entry.Entry.{Entry, Entered}
use Rattle.run_history.specs.declared.entry.Entry.TheViews as entry
use Rattle.run_history.specs.After.{after, given_back, rescued_from, state_after}
use Rattle.run_history.specs.Legal.{is_alone, legal, legal_inside, may_act}
use Rattle.run_history.proofs.Entries.{after-rescue, legal-Entered-may, legal-rescue, may-alone}
use Rattle.run_history.proofs.Kept.{Rest, enter_keeps, legal_inside_ending, state_after_codes}
use Rattle.run_history.proofs.Quietness.{alone_each}
use Rattle.run_history.proofs.Staying.{entered_ending, entered_stays, state_after_stays, stays_both}
use Rattle.open_calls.specs.Nest.{Level, flat_from}
use Rattle.open_calls.specs.Stacked.{Fact, IsOpen, IsSpaceOf, Keeps, Stacked, brought_back}
use Rattle.open_calls.proofs.Frames.{call_below, frames_in, length-frames_in}
use Rattle.open_calls.proofs.Nests.{flat_push}
use Rattle.open_calls.proofs.Stacks.{flat_run}

-- slots with the harts of others and their own frames

changed_next : (f : Slot → Slot) (h : ℕ) (x : Slot) (xs : List Slot) → changed f (suc h) (x ∷ xs) ≡ x ∷ changed f h xs
unfolding changed
changed_next f h x xs = by (slice_get xs h)
  where
    by : (o : Option Slot) → changed_by f (suc h) (x ∷ xs) o ≡ x ∷ changed_by f h xs o
    by None = refl
    by (Some slot) = refl

changed_none : (f : Slot → Slot) (h : ℕ) → changed f h [] ≡ []
unfolding changed
changed_none f h = refl

changed_first : (f : Slot → Slot) (x : Slot) (xs : List Slot) → changed f 0 (x ∷ xs) ≡ f x ∷ xs
unfolding changed
changed_first f x xs = refl

-- the same frames in each slot
rejoined_same : (xs ys : List Slot) → length ys ≡ length xs → ((k : ℕ) → frames_of (slice_get ys k) ≡ frames_of (slice_get xs k)) → rejoined (map hart_of xs) ys ≡ xs
rejoined_same [] [] count each = refl
rejoined_same [] (y ∷ ys) count each = absurd (omega (arith, count))
rejoined_same (x ∷ xs) [] count each = absurd (omega (arith, count))
rejoined_same (x ∷ xs) (y ∷ ys) count each = λ i. record { hart = x.hart; frames = each 0 i } ∷ rejoined_same xs ys (omega (arith, count)) (λ k. each (suc k)) i

-- but for one, which has a frame more
rejoined_but : (h : ℕ) (xs ys : List Slot) → length ys ≡ length xs → ((k : ℕ) → k ≢ h → frames_of (slice_get ys k) ≡ frames_of (slice_get xs k))
    → take (length (frames_of (slice_get ys h)) - 1) (frames_of (slice_get ys h)) ≡ frames_of (slice_get xs h) → changed reopened h (rejoined (map hart_of xs) ys) ≡ xs
rejoined_but h [] [] count each front = changed_none reopened h
rejoined_but h [] (y ∷ ys) count each front = absurd (omega (arith, count))
rejoined_but h (x ∷ xs) [] count each front = absurd (omega (arith, count))
rejoined_but zero (x ∷ xs) (y ∷ ys) count each front =
    changed_first reopened (record { hart = x.hart; frames = y.frames }) (rejoined (map hart_of xs) ys)
    ∙ (λ i. record { hart = x.hart; frames = front i } ∷ rejoined_same xs ys (omega (arith, count)) (λ k. each (suc k) (λ e. omega (arith, e))) i)
rejoined_but (suc h) (x ∷ xs) (y ∷ ys) count each front =
    changed_next reopened h (record { hart = x.hart; frames = y.frames }) (rejoined (map hart_of xs) ys)
    ∙ (λ i. record { hart = x.hart; frames = each 0 (λ e. omega (arith, e)) i } ∷ rejoined_but h xs ys (omega (arith, count)) (λ k apart. each (suc k) (λ e. apart (omega (arith, e)))) front i)

no_frames : (o : Option Slot) → frame_count o ≡ 0 → frames_of o ≡ []
no_frames None none = refl
no_frames (Some slot) none = by slot.frames none
  where
    by : (fs : List Frame) → length fs ≡ 0 → fs ≡ []
    by [] none = refl
    by (f ∷ fs) none = absurd (omega (arith, none))

-- at the fault of a call, the harts as they were at its entering, each with its frames but for the
-- one that the call opened, are the slots of then
pub slots_before : (h : ℕ) (b t : State) (p : PointRef) (es : List Entry) → legal b (Entered h p) ≡ true → legal_inside (enter b h p) h (frames_at b h) es ≡ true
    → state_after (enter b h p) es ≡ t → frames_at t h ≡ frames_at b h + 1 → is_alone t h ≡ true → changed reopened h (rejoined (map hart_of b.slots) t.slots) ≡ b.slots
slots_before h b t p es enters goes reaches one alone =
    let count : length t.slots ≡ length b.slots =
    ap (λ (s : State). length s.slots) (sym reaches) ∙ (stays_both b (enter b h p) (state_after (enter b h p) es) (entered_stays b h p) (state_after_stays (enter b h p) es)).slots in
    let calm = may-alone b h (legal-Entered-may b h p enters) in
    let l = length-frames_in t h in
    let depth : length (frames_in t h) - 1 ≡ frames_at b h = omega (arith, l, one) in
    rejoined_but h b.slots t.slots count
    (λ k apart. no_frames (slice_get t.slots k) (alone_each h t.slots alone k apart) ∙ sym (no_frames (slice_get b.slots k) (alone_each h b.slots calm k apart)))
    (ap (λ d. take d (frames_in t h)) depth ∙ call_below h b t p es enters goes reaches)

-- two states alike but for their records, steps and what is left of the points
record Alike (s t : State) : Type 0 where
  memory : s.memory ≡ t.memory
  low : s.low ≡ t.low
  brk : s.brk ≡ t.brk
  slots : s.slots ≡ t.slots
  waiting : s.waiting ≡ t.waiting
  next_tid : s.next_tid ≡ t.next_tid
  ending : s.ending ≡ t.ending
  ports : s.ports ≡ t.ports
  budget : s.budget ≡ t.budget

-- a rescue gives the same from both
rescued_alike : (x y : State) (h : ℕ) (p : PointRef) (f : FaultAt) (t : State) → Alike x y → code_of x.points p.entry f.name ≡ code_of y.points p.entry f.name
    → rescued_from x h p f t ≡ rescued_from y h p f t
unfolding rescued_from
rescued_alike x y h p f t a codes = λ i. record {
  memory = a.memory i;
  low = a.low i;
  brk = a.brk i;
  slots = changed closed h (changed (on_hart (given_back (codes i))) h (on_each unreserved (a.slots i)));
  waiting = a.waiting i;
  next_tid = a.next_tid i;
  records = t.records;
  steps = t.steps;
  ending = a.ending i;
  points = spent t.points p.entry;
  ports = a.ports i;
  budget = a.budget i;
}

-- what is known of the innermost call that is taken back for its fault: it was entered in the state
-- b with the memory m
pub record IsTaken (Back : Fact) (start : State) (h : ℕ) (o : Level) (os : List Level) (es : List Entry) (ns : List Note) (fault : FaultAt) (t : State) (n : AddressSpace) : Type 0 where
  pub b : State
  pub m : AddressSpace
  pub outer : Stacked Back start h os o.entries (take o.mark ns) b m
  pub may : may_act b h ≡ true
  pub level : frames_at b h ≡ length os
  pub keeps : Keeps o.kept b
  pub undoes : undone put_back (drop o.mark ns) n ≡ m
  pub space : IsSpaceOf m b
  pub back : Back o.kept m b.steps
  pub count : length o.kept.harts ≡ length t.slots
  -- what was kept and the notes give that state, but for what a rescue leaves as it is
  pub brought : rescued_from (brought_back t h o.kept (undone put_back (drop o.mark ns) n)) h o.point fault t ≡ rescued_from b h o.point fault t
  pub legal : legal b (entry.Rescued h o.point fault es) ≡ true
  pub after : after b (entry.Rescued h o.point fault es) ≡ rescued_from b h o.point fault t

module _ (Back : Fact) (start : State) (h : ℕ) (o : Level) (os : List Level) (es : List Entry) (ns : List Note) (fault : FaultAt) (t : State) (n : AddressSpace) where
  brings_back : (b : State) (m : AddressSpace) → IsOpen Back h b m o (length os) es ns t n → frames_at t h ≡ frames_at b h + 1 → is_alone t h ≡ true
      → rescued_from (brought_back t h o.kept (undone put_back (drop o.mark ns) n)) h o.point fault t ≡ rescued_from b h o.point fault t
  brings_back b m is one alone =
      let e = enter b h o.point in
      let to = state_after e es in
      let goes = ap (λ d. legal_inside e h d es) is.depth_is ∙ is.goes in
      let stays = stays_both b e to (entered_stays b h o.point) (state_after_stays e es) in
      rescued_alike (brought_back t h o.kept (undone put_back (drop o.mark ns) n)) b h o.point fault t (record {
        memory = ap (λ (k : AddressSpace). k.space) is.undoes ∙ is.space.space;
        low = ap (λ (s : State). s.low) (sym is.reaches) ∙ stays.low;
        brk = ap (λ (k : AddressSpace). k.brk) is.undoes ∙ is.space.brk;
        slots = ap (λ hs. changed reopened h (rejoined hs t.slots)) is.keeps.harts ∙ slots_before h b t o.point es is.enters goes is.reaches one alone;
        waiting = is.keeps.queue;
        next_tid = is.keeps.next_tid;
        ending = ap (λ (s : State). s.ending) (sym is.reaches) ∙ legal_inside_ending e h (length os) es is.goes ∙ entered_ending b h o.point;
        ports = ap (λ (s : State). s.ports) (sym is.reaches) ∙ stays.ports;
        budget = ap (λ (s : State). s.budget) (sym is.reaches) ∙ stays.budget;
      })
      (ap (λ (s : State). code_of s.points o.point.entry fault.name) (sym is.reaches) ∙ state_after_codes e es o.point.entry fault.name
      ∙ ap (λ (r : Rest). code_of r.points o.point.entry fault.name) (enter_keeps b h o.point))

  -- the innermost call is taken back for its fault
  pub taken : Stacked Back start h (o ∷ os) es ns t n → frames_at t h ≡ length (o ∷ os) → is_alone t h ≡ true → is_budget_spent t ≡ false → faults t h fault ≡ true
      → IsTaken Back start h o os es ns fault t n
  taken (b, m, is, outer) level alone fresh faulty =
      let depth = is.depth_is in
      let e = enter b h o.point in
      let one : frames_at t h ≡ frames_at b h + 1 = omega (arith, depth, level) in
      record {
        b = b;
        m = m;
        outer = outer;
        may = legal-Entered-may b h o.point is.enters;
        level = depth;
        keeps = is.keeps;
        undoes = is.undoes;
        space = is.space;
        back = is.back;
        count = let a = ap length is.keeps.harts in let c = length-map b.slots hart_of in
            let r = ap (λ (s : State). length s.slots) (sym is.reaches) in
            let d = (stays_both b e (state_after e es) (entered_stays b h o.point) (state_after_stays e es)).slots in omega (arith, a, c, r, d);
        brought = brings_back b m is one alone;
        legal = legal-rescue b t h o.point fault es is.enters (ap (λ d. legal_inside e h d es) depth ∙ is.goes) is.reaches one fresh faulty;
        after = after-rescue b t h o.point fault es is.reaches;
      }

-- in the whole history the entries before the call, its entering, and those since
pub flat_open : (h : ℕ) (o : Level) (os : List Level) (es : List Entry) → flat_from h (o ∷ os) es ≡ flat_from h os o.entries ++ Entered h o.point ∷ es
flat_open h o os es = flat_push h os o.entries (Entered h o.point ∷ es)

-- and one Rescued entry is legal in place of the entering and those
pub legal_erased : (Back : Fact) (start : State) (h : ℕ) (o : Level) (os : List Level) (es : List Entry) (ns : List Note) (fault : FaultAt) (t : State) (n : AddressSpace)
    → IsTaken Back start h o os es ns fault t n → legal (state_after start (flat_from h os o.entries)) (entry.Rescued h o.point fault es) ≡ true
legal_erased Back start h o os es ns fault t n is =
    ap (λ s. legal s (entry.Rescued h o.point fault es)) (flat_run Back start h os o.entries (take o.mark ns) is.b is.m is.outer).1 ∙ is.legal
