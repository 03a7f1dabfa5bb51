-- Instructions of a hart in a row, as acts in a state.
use Rattle.std.proofs.Common.{◌≡◌, ◌≢◌, ℕ, zero, suc, ◌+◌, ◌-◌, ◌<◌, ◌≤◌, Bool, true, false, not, ◌==◌, List, [], ◌∷◌, length, get_or, set, map, slice_get, if◌then◌else◌, Option, Some, None, option_map, refl, ap, sym, ◌∙◌, subst, arith}
use Rattle.std.proofs.lemmas.Bool.{and_from, and_parts, or_from, or_parts}
use Rattle.std.proofs.lemmas.Bool.Decides.{nat_tests}
use Rattle.std.proofs.lemmas.List.{get_or-map, length-map, set-get_or}
use Rattle.std.proofs.lemmas.Option.{get_or_from_slice_get}
use Rattle.guest_words.specs.declared.act.Act.{Act}
use Rattle.guest_words.specs.declared.act.Act.TheVariants as act
use Rattle.guest_words.specs.declared.act.Write.{Write}
use Rattle.guest_words.specs.declared.hart.Frame.{Frame}
use Rattle.guest_words.specs.declared.hart.Hart.{Hart}
use Rattle.guest_words.specs.declared.hart.Reserved.{Reserved}
use Rattle.guest_words.specs.declared.hart.Slot.{Slot}
use Rattle.guest_words.specs.declared.point.Point.{Point}
use Rattle.guest_words.specs.Act.{Ordinary, act_of, act_of_slot, in_state, written}
use Rattle.guest_words.specs.Endings.{is_budget_spent}
use Rattle.guest_words.specs.HartAct.{hart_act}
use Rattle.guest_words.specs.Harts.{close_frames, is_over, is_ready, kept_below, kept_reservation, touched}
use Rattle.guest_words.specs.Space.{Space, low_bytes, with_bytes}
use Rattle.guest_words.specs.State.{State, changed, changed_by, closed, frame_count, frames_at, on_each, on_hart, with_closed, with_hart}
use Rattle.guest_words.specs.Widths.{bytes_in}
use Rattle.guest_atomics.specs.Free.{IsFreeBut}
use Rattle.guest_pages.proofs.Lows.{length-low_bytes}
use Rattle.hart_slots.specs.Rejoined.{hart_of, last_of}
use Rattle.run_history.specs.After.{next, ran}
use Rattle.run_history.specs.Legal.{can_go, can_run, is_ordinary, is_ready_slot}
use Rattle.run_history.proofs.InstCases.{InstCases, hart_act_by}
use Rattle.run_history.proofs.RunSteps.{can_run-more, can_run-none, next-ordinary, ran-more, ran-none}
use Rattle.hart_step.specs.InARow.{Lone, act_at, after_act, after_acts, all_go, closes, is_next, lone, stays_open, IsRow}
use Rattle.hart_step.specs.InPlace.{did_of, hart_after, touched_by, written_by}
use Rattle.hart_step.specs.Legs.{did_at, IsLeg}
use Rattle.hart_step.specs.SlotActs.{slot_act}
use Rattle.hart_step.specs.Stops.{act_wants, slot_wants, wants_memory, IsPlainRow}

-- slots with one of them replaced

pub set_set : {A : Type 0} (xs : List A) (h : ℕ) (x y : A) → set (set xs h x) h y ≡ set xs h y
set_set [] h x y = refl
set_set (z ∷ xs) zero x y = refl
set_set (z ∷ xs) (suc h) x y = ap (λ ys. z ∷ ys) (set_set xs h x y)

pub set_get : {A : Type 0} (xs : List A) (h : ℕ) (x z : A) → slice_get xs h ≡ Some z → slice_get (set xs h x) h ≡ Some x
set_get [] h x z is = cc
set_get (y ∷ xs) zero x z is = refl
set_get (y ∷ xs) (suc h) x z is = set_get xs h x z is

pub set_same : {A : Type 0} (xs : List A) (h : ℕ) (x : A) → slice_get xs h ≡ Some x → set xs h x ≡ xs
set_same xs h x is = ap (set xs h) (sym (get_or_from_slice_get xs h x x is)) ∙ set-get_or xs h x

pub changed_is : (f : Slot → Slot) (h : ℕ) (slots : List Slot) (slot : Slot) → slice_get slots h ≡ Some slot → changed f h slots ≡ set slots h (f slot)
unfolding changed
changed_is f h slots slot is = ap (changed_by f h slots) is

-- the slot with another hart
abbrev pub standing : Slot → Hart → Slot
standing slot hart = record slot { hart = hart }

-- a change of every slot that matters to one alone
map_still : {A : Type 0} (f : A → A) (xs : List A) → ((k : ℕ) (d : A) → k < length xs → f (get_or xs k d) ≡ get_or xs k d) → map f xs ≡ xs
map_still f [] still = refl
map_still f (x ∷ xs) still =
    let here : f x ≡ x = still 0 x (omega arith) in
    let rest : map f xs ≡ xs = map_still f xs (λ k d less. still (suc k) d (omega (arith, less))) in
    λ i. here i ∷ rest i

map_set : {A : Type 0} (f : A → A) (xs : List A) (h : ℕ) (z : A) → ((k : ℕ) (d : A) → k ≢ h → k < length xs → f (get_or xs k d) ≡ get_or xs k d) → map f (set xs h z) ≡ set xs h (f z)
map_set f [] h z still = refl
map_set f (x ∷ xs) zero z still = ap (λ ys. f z ∷ ys) (map_still f xs (λ k d less. still (suc k) d (λ e. omega (arith, e)) (omega (arith, less))))
map_set f (x ∷ xs) (suc h) z still =
    let here : f x ≡ x = still 0 x (λ e. omega (arith, e)) (omega arith) in
    let rest : map f (set xs h z) ≡ set xs h (f z) = map_set f xs h z (λ k d apart less. still (suc k) d (λ e. apart (omega (arith, e))) (omega (arith, less))) in
    λ i. here i ∷ rest i

-- a store doesn't matter to a hart without a reservation
touched_free : (from size : ℕ) (hart : Hart) → hart.reservation ≡ None → touched from size hart ≡ hart
touched_free from size hart free =
    ap (λ (r : Option Reserved). record hart { reservation = kept_reservation from size r }) free ∙ ap (λ (r : Option Reserved). record hart { reservation = r }) (sym free)

touched_others : (from size h : ℕ) (slots : List Slot) (slot : Slot) (hart : Hart) → IsFreeBut h (map hart_of slots)
    → on_each (touched from size) (set slots h (standing slot hart)) ≡ set slots h (standing slot (touched from size hart))
touched_others from size h slots slot hart free =
    map_set (on_hart (touched from size)) slots h (standing slot hart) (λ k d apart less.
    let other = get_or slots k d in
    let reads : get_or (map hart_of slots) k d.hart ≡ other.hart = get_or-map hart_of slots k d d.hart less in
    let count : length (map hart_of slots) ≡ length slots = length-map slots hart_of in
    let none : other.hart.reservation ≡ None = ap (λ (x : Hart). x.reservation) (sym reads) ∙ free k apart d.hart (omega (arith, less, count)) in
    ap (standing other) (touched_free from size other.hart none))

-- frames that close

last_open : (hart : Hart) (frames : List Frame) → closes (last_of frames) hart ≡ false → close_frames hart frames ≡ frames
unfolding close_frames
last_open hart [] stays = refl
last_open hart (frame ∷ []) stays = ap (λ b. if b then [] else frame ∷ []) stays
last_open hart (frame ∷ (inner ∷ rest)) stays = ap (kept_below hart frame) (last_open hart (inner ∷ rest) stays)

kept_few : (hart : Hart) (frame : Frame) (rest : List Frame) → length (kept_below hart frame rest) ≤ length rest + 1
kept_few hart frame [] = by (is_over hart frame)
  where
    by : (b : Bool) → length (if b then [] else frame ∷ []) ≤ 1
    by true = omega arith
    by false = omega arith
kept_few hart frame (inner ∷ rest) = omega arith

last_closes : (hart : Hart) (frames : List Frame) → closes (last_of frames) hart ≡ true → length (close_frames hart frames) < length frames
unfolding close_frames
last_closes hart [] over = cc
last_closes hart (frame ∷ []) over =
    let none : length (if is_over hart frame then [] else frame ∷ []) ≡ 0 = ap (λ b. length (if b then [] else frame ∷ [])) over in
    omega (arith, none)
last_closes hart (frame ∷ (inner ∷ rest)) over =
    let fewer = last_closes hart (inner ∷ rest) over in
    let few = kept_few hart frame (close_frames hart (inner ∷ rest)) in
    omega (arith, fewer, few)

-- an act of a hart in a row

abbrev LeavesState : Hart → Act → Type 0
LeavesState hart a = (hart_after a hart).state ≡ hart.state

-- a hart is as ready after an instruction as before
pub same_state : (m : Space) (points : List Point) (frames : ℕ) (hart : Hart) → (hart_after (hart_act m points frames hart) hart).state ≡ hart.state
same_state m points frames hart = hart_act_by (LeavesState hart) m hart cases points frames (λ point at. refl)
  where
    cases : InstCases (LeavesState hart) m hart
    cases = record {
      next = λ after same. same;
      store = λ after place width value same may. same;
      fault = λ name. refl;
      call = λ inst at kind. refl;
    }

module _ (s : State) (h : ℕ) (slot : Slot) (at : slice_get s.slots h ≡ Some slot) where
  abbrev frames : ℕ
  frames = length slot.frames

  -- the state with the hart and memory after so many acts
  unfoldable pub in_row : Lone → ℕ → State
  in_row l n = record s { memory = l.memory.space; slots = set s.slots h (standing slot l.hart); steps = s.steps + n }

  slot_in_row : (l : Lone) (n : ℕ) → slice_get (in_row l n).slots h ≡ Some (standing slot l.hart)
  unfolding in_row
  slot_in_row l n = set_get s.slots h (standing slot l.hart) slot at

  -- with its frames closed

  pub closed_standing : (hart : Hart) → changed closed h (set s.slots h (standing slot hart)) ≡ set s.slots h (closed (standing slot hart))
  closed_standing hart =
      changed_is closed h (set s.slots h (standing slot hart)) (standing slot hart) (set_get s.slots h (standing slot hart) slot at) ∙ set_set s.slots h (standing slot hart) (closed (standing slot hart))

  closed_in_row : (l : Lone) (n : ℕ) → with_closed (in_row l n) h ≡ record (in_row l n) { slots = set s.slots h (closed (standing slot l.hart)) }
  unfolding in_row
  closed_in_row l n = ap (λ slots. record (in_row l n) { slots = slots }) (closed_standing l.hart)

  open_in_row : (l : Lone) (n : ℕ) → closes (last_of slot.frames) l.hart ≡ false → with_closed (in_row l n) h ≡ in_row l n
  unfolding in_row
  open_in_row l n stays =
      closed_in_row l n
      ∙ ap (λ frames. record (in_row l n) { slots = set s.slots h (record { hart = l.hart; frames = frames }) }) (last_open l.hart slot.frames stays)

  module _ (free : IsFreeBut h (map hart_of s.slots)) where
    -- the hart and a store of its act
    stored_in_row : (l : Lone) (n : ℕ) (hart : Hart) (write : Option Write)
        → written (with_hart (in_row l n) h (λ before. hart)) write ≡ in_row (lone (touched_by write hart) (written_by write l.memory)) n
    unfolding in_row
    stored_in_row l n hart write = by write
      where
        put : (with_hart (in_row l n) h (λ before. hart)).slots ≡ set s.slots h (standing slot hart)
        put = changed_is (on_hart (λ before. hart)) h (in_row l n).slots (standing slot l.hart) (slot_in_row l n) ∙ set_set s.slots h (standing slot l.hart) (standing slot hart)

        by : (write : Option Write) → written (with_hart (in_row l n) h (λ before. hart)) write ≡ in_row (lone (touched_by write hart) (written_by write l.memory)) n
        by None = ap (λ slots. record (in_row l n) { slots = slots }) put
        by (Some write) =
            let width = bytes_in write.width in
            let m = with_bytes l.memory.space write.address (low_bytes width write.value) in
            ap (λ slots. record (in_row l n) { memory = m; slots = slots })
            (ap (λ k. on_each (touched write.address k) (with_hart (in_row l n) h (λ before. hart)).slots) (length-low_bytes width write.value)
            ∙ ap (on_each (touched write.address width)) put ∙ touched_others write.address width h s.slots slot hart free)

    -- the act of the hart there
    act_in_row : (l : Lone) (n : ℕ) → is_next (act_at s.points frames l) ≡ true
        → act_of (in_row l n) h ≡ Ordinary (with_closed (in_row (after_act (act_at s.points frames l) l) n) h)
    unfolding act_of in_row
    act_in_row l n goes = ap (act_of_slot (in_row l n) h) (slot_in_row l n) ∙ by (act_at s.points frames l) goes
      where
        by : (a : Act) → is_next a ≡ true → in_state (in_row l n) h a ≡ Ordinary (with_closed (in_row (after_act a l) n) h)
        by (act.Next hart write) e = ap (λ (t : State). Ordinary (with_closed t h)) (stored_in_row l n hart write)
        by (act.Fault name) e = cc
        by (act.Call call) e = cc
        by (act.Arrived point) e = cc

    next_in_row : (l : Lone) (n : ℕ) → is_next (act_at s.points frames l) ≡ true
        → next (in_row l n) h ≡ with_closed (in_row (after_act (act_at s.points frames l) l) (n + 1)) h
    unfolding in_row
    next_in_row l n goes =
        let l2 = after_act (act_at s.points frames l) l in
        let one : s.steps + n + 1 ≡ s.steps + (n + 1) = omega arith in
        next-ordinary (in_row l n) (with_closed (in_row l2 n) h) h (act_in_row l n goes)
        ∙ ap (λ (k : ℕ). record (with_closed (in_row l2 n) h) { steps = k }) one

    can_go_in_row : (l : Lone) (n : ℕ) → is_ready l.hart.state ≡ true → is_budget_spent s ≡ false → s.steps + n < s.budget → is_next (act_at s.points frames l) ≡ true
        → can_go (in_row l n) h ≡ true
    unfolding in_row
    can_go_in_row l n ready left below goes =
        let over = (or_parts (s.steps == s.budget) _ left).1 in
        let early : (s.steps + n == s.budget) ≡ false = grind (arith, nat_tests, below) in
        and_from _ _ (and_from _ _ (ap not (or_from _ _ early over)) (ap is_ready_slot (slot_in_row l n) ∙ ready)) (ap is_ordinary (act_in_row l n goes))

    module _ (start : Lone) (hart : start.hart ≡ slot.hart) (memory : start.memory.space ≡ s.memory) (ready : is_ready slot.hart.state ≡ true) (left : is_budget_spent s ≡ false) where
      abbrev top : Option Frame
      top = last_of slot.frames

      abbrev row : ℕ → Lone
      row n = after_acts s.points frames n start

      -- the state after so many acts
      pub record Reached (n : ℕ) : Type 0 where
        pub is : ran s h n ≡ in_row (row n) n
        pub legal : can_run s h n ≡ true
        pub goes_on : is_ready (row n).hart.state ≡ true

      starts : in_row start 0 ≡ s
      unfolding in_row
      starts =
          let none : s.steps + 0 ≡ s.steps = omega arith in
          ap (λ (m : Space). record s { memory = m; slots = set s.slots h (standing slot start.hart); steps = s.steps + 0 }) memory
          ∙ ap (λ (x : Hart). record s { slots = set s.slots h (standing slot x); steps = s.steps + 0 }) hart
          ∙ ap (λ (slots : List Slot). record s { slots = slots; steps = s.steps + 0 }) (set_same s.slots h slot at)
          ∙ ap (λ (k : ℕ). record s { steps = k }) none

      still_ready : (l : Lone) → is_ready l.hart.state ≡ true → is_ready (after_act (act_at s.points frames l) l).hart.state ≡ true
      still_ready l ready = ap is_ready (same_state l.memory.space s.points frames l.hart) ∙ ready

      not_true : (b : Bool) → not b ≡ true → b ≡ false
      not_true true e = cc
      not_true false e = refl

      pub reach : (n : ℕ) → s.steps + n ≤ s.budget → all_go s.points frames n start ≡ true → stays_open s.points frames top n start ≡ true → Reached n
      unfolding after_acts all_go stays_open
      reach zero within goes stays = record { is = ran-none s h ∙ sym starts; legal = can_run-none s h; goes_on = ap (λ (x : Hart). is_ready x.state) hart ∙ ready }
      reach (suc n) within goes stays =
          let going = and_parts (all_go s.points frames n start) _ goes in
          let opens = and_parts (stays_open s.points frames top n start) _ stays in
          let before = reach n (omega (arith, within)) going.0 opens.0 in
          let one : suc n ≡ n + 1 = omega arith in
          let l = row n in
          record {
            is = ap (ran s h) one ∙ ran-more s h n ∙ ap (λ (t : State). next t h) before.is ∙ next_in_row l n going.1
                ∙ open_in_row (row (suc n)) (n + 1) (not_true _ opens.1) ∙ ap (in_row (row (suc n))) (sym one);
            legal = ap (can_run s h) one ∙ can_run-more s h n before.legal (ap (λ (t : State). can_go t h) before.is ∙ can_go_in_row l n before.goes_on left (omega (arith, within)) going.1);
            goes_on = still_ready l before.goes_on;
          }

      -- the first of them

      go_fewer : (k d : ℕ) → all_go s.points frames (k + d) start ≡ true → all_go s.points frames k start ≡ true
      unfolding all_go
      go_fewer k zero goes = let none : k ≡ k + 0 = omega arith in ap (λ n. all_go s.points frames n start) none ∙ goes
      go_fewer k (suc d) goes =
          let one : suc (k + d) ≡ k + suc d = omega arith in
          go_fewer k d ((and_parts (all_go s.points frames (k + d) start) _ (ap (λ n. all_go s.points frames n start) one ∙ goes)).0)

      open_fewer : (k d : ℕ) → stays_open s.points frames top (k + d) start ≡ true → stays_open s.points frames top k start ≡ true
      unfolding stays_open
      open_fewer k zero stays = let none : k ≡ k + 0 = omega arith in ap (λ n. stays_open s.points frames top n start) none ∙ stays
      open_fewer k (suc d) stays =
          let one : suc (k + d) ≡ k + suc d = omega arith in
          open_fewer k d ((and_parts (stays_open s.points frames top (k + d) start) _ (ap (λ n. stays_open s.points frames top n start) one ∙ stays)).0)

      goes_at : (k : ℕ) → all_go s.points frames (suc k) start ≡ true → is_next (act_at s.points frames (row k)) ≡ true
      unfolding all_go
      goes_at k goes = (and_parts (all_go s.points frames k start) _ goes).1

      next_free : (noted : Bool) (a : Act) → is_next a ≡ true → act_wants noted a ≡ false
      next_free noted (act.Next hart write) e = refl
      next_free noted (act.Fault name) e = cc
      next_free noted (act.Call call) e = cc
      next_free noted (act.Arrived point) e = cc

      frames_before : frames_at s h ≡ frames
      frames_before = ap frame_count at

      plain_at : (noted : Bool) (k : ℕ) → Reached k → is_next (act_at s.points frames (row k)) ≡ true
          → (frames_at (ran s h k) h ≡ frames_at s h) × (wants_memory noted (ran s h k) h ≡ false)
      unfolding in_row
      plain_at noted k reached goes =
          let there = ap (λ (t : State). slice_get t.slots h) reached.is ∙ slot_in_row (row k) k in (
            ap frame_count there ∙ sym frames_before,
            ap (λ (t : State). wants_memory noted t h) reached.is ∙ ap (slot_wants noted (in_row (row k) k)) (slot_in_row (row k) k) ∙ next_free noted (act_at s.points frames (row k)) goes,
          )

      -- before each of so many acts, of which the last may close a frame
      pub plain_row : (noted : Bool) (n : ℕ) → s.steps + n ≤ s.budget → all_go s.points frames (n + 1) start ≡ true → stays_open s.points frames top n start ≡ true → IsPlainRow noted s h (n + 1)
      plain_row noted n within goes stays = λ k less.
          let d = n - k in
          let all : k + d ≡ n = omega (arith, less) in
          let more : suc k + d ≡ n + 1 = omega (arith, less) in
          let going = go_fewer (suc k) d (ap (λ j. all_go s.points frames j start) more ∙ goes) in
          let one : k + 1 ≡ suc k = omega arith in
          plain_at noted k
          (reach k (omega (arith, within, less)) (go_fewer k 1 (ap (λ j. all_go s.points frames j start) one ∙ going)) (open_fewer k d (ap (λ j. stays_open s.points frames top j start) all ∙ stays)))
          (goes_at k going)

      -- the state at the end of a row
      unfoldable pub row_end : Lone → ℕ → Bool → State
      row_end l n true = with_closed (in_row l n) h
      row_end l n false = in_row l n

      pub row_end_is : (end : Lone) (n : ℕ) (done : Bool) → row_end end n done
          ≡ record s { memory = end.memory.space; slots = if done then changed closed h (set s.slots h (standing slot end.hart)) else set s.slots h (standing slot end.hart); steps = s.steps + n }
      unfolding in_row row_end
      row_end_is end n true = refl
      row_end_is end n false = refl

      open_leg : (noted : Bool) (n : ℕ) → s.steps + n ≤ s.budget → all_go s.points frames n start ≡ true → stays_open s.points frames top n start ≡ true
          → IsLeg noted s (in_row (row n) n) h n
      open_leg noted zero within goes stays =
          let reached = reach 0 within goes stays in
          record { legal = reached.legal; after = sym reached.is; plain = λ fewer less. absurd (omega (arith, less)) }
      open_leg noted (suc n) within goes stays =
          let reached = reach (suc n) within goes stays in
          let one : n + 1 ≡ suc n = omega arith in
          record {
            legal = reached.legal;
            after = sym reached.is;
            plain = subst (IsPlainRow noted s h) one (plain_row noted n (omega (arith, within)) (ap (λ j. all_go s.points frames j start) one ∙ goes) (open_fewer n 1 (ap (λ j. stays_open s.points frames top j start) one ∙ stays)));
          }

      closed_leg : (noted : Bool) (n : ℕ) → s.steps + (n + 1) ≤ s.budget → all_go s.points frames (n + 1) start ≡ true → stays_open s.points frames top n start ≡ true
          → IsLeg noted s (with_closed (in_row (row (n + 1)) (n + 1)) h) h (n + 1)
      unfolding after_acts
      closed_leg noted n within goes stays =
          let one : n + 1 ≡ suc n = omega arith in
          let going = ap (λ j. all_go s.points frames j start) (sym one) ∙ goes in
          let before = reach n (omega (arith, within)) (go_fewer n 1 goes) stays in
          let l = row n in
          let next_goes = goes_at n going in
          record {
            legal = can_run-more s h n before.legal (ap (λ (t : State). can_go t h) before.is ∙ can_go_in_row l n before.goes_on left (omega (arith, within)) next_goes);
            after = sym (ran-more s h n ∙ ap (λ (t : State). next t h) before.is ∙ next_in_row l n next_goes ∙ ap (λ j. with_closed (in_row (row j) (n + 1)) h) (sym one));
            plain = plain_row noted n (omega (arith, within)) goes stays;
          }

      -- a row is part of a run
      pub leg_row : (noted : Bool) (end : Lone) (n : ℕ) (closed : Bool) → s.steps + n ≤ s.budget → IsRow s.points frames top start end n closed → IsLeg noted s (row_end end n closed) h n
      unfolding row_end
      leg_row noted end n false within is = subst (λ (l : Lone). IsLeg noted s (in_row l n) h n) (sym is.after) (open_leg noted n within is.goes (is.stays refl))
      leg_row noted end n true within is =
          let closing = is.closes refl in
          let some = closing.some in
          let one : n - 1 + 1 ≡ n = omega (arith, some) in
          subst (λ (l : Lone). IsLeg noted s (with_closed (in_row l n) h) h n) (sym is.after)
          (subst (λ j. IsLeg noted s (with_closed (in_row (row j) j) h) h j) one
          (closed_leg noted (n - 1) (omega (arith, within, some)) (ap (λ j. all_go s.points frames j start) one ∙ is.goes) closing.stays))

      pub row_open : (end : Lone) (n : ℕ) → frames_at (row_end end n false) h ≡ frames_at s h
      unfolding row_end in_row
      row_open end n = ap frame_count (slot_in_row end n) ∙ sym frames_before

      pub row_closed : (end : Lone) (n : ℕ) → closes top end.hart ≡ true → frames_at (row_end end n true) h < frames_at s h
      unfolding row_end in_row
      row_closed end n over =
          let fewer = last_closes end.hart slot.frames over in
          let here : frames_at (with_closed (in_row end n) h) h ≡ length (close_frames end.hart slot.frames) =
          ap (λ (t : State). frames_at t h) (closed_in_row end n) ∙ ap frame_count (set_get s.slots h (closed (standing slot end.hart)) slot at) in
          let before = frames_before in
          omega (arith, fewer, here, before)

      -- what the hart does behind a row that closes no frame
      pub row_did : (end : Lone) (n : ℕ) → did_at (row_end end n false) h ≡ Some (did_of (act_at s.points frames end))
      unfolding row_end in_row
      row_did end n = ap (λ o. option_map did_of (option_map (slot_act (in_row end n)) o)) (slot_in_row end n)
