-- Stretches of register acts: the text and the points of the start serve at any time of the run.
use Rattle.std.proofs.Common.{◌≡◌, ℕ, zero, suc, ◌≤◌, ◌==◌, true, List, [], ◌∷◌, length, Option, Some, None, Ok, Err, IfOk, option_map, refl, ap, sym, ◌∙◌, slice_get, arith}
use Rattle.std.proofs.lemmas.Bool.{eqb-true}
use Rattle.std.specs.declared.result.Result.{Result}
use Rattle.guest_words.specs.declared.hart.Frame.{Frame}
use Rattle.guest_words.specs.declared.hart.Hart.{Hart}
use Rattle.guest_words.specs.declared.hart.Slot.{Slot}
use Rattle.guest_words.specs.declared.point.Point.{Point}
use Rattle.guest_words.specs.declared.point.PointRef.{PointRef}
use Rattle.guest_words.specs.Harts.{is_ready}
use Rattle.guest_words.specs.HartAct.{arrival_of, inst_at}
use Rattle.guest_words.specs.Start.{slot_of}
use Rattle.guest_words.specs.State.{State}
use Rattle.edge_ports.specs.Seen.{Seen}
use Rattle.hart_slots.specs.Rejoined.{hart_of}
use Rattle.undo_log.specs.Noted.{Noted}
use Rattle.run_history.specs.Quiet.{are_quiet}
use Rattle.run_history.proofs.Ands.{and_left, and_right}
use Rattle.run_history.proofs.Staying.{state_after_stays}
use Rattle.hart_step.specs.Registers.{IsTextOf, Stretch, after_inst, inst_in, register_next, registers, then_next, unless_arrived}
use Rattle.hart_step.specs.Stretches.{IsStretch, steps_left}
use Rattle.open_calls.specs.Nest.{flat}
use Rattle.text_laws.proofs.Points.{fewer_arrivals}
use Rattle.text_laws.proofs.Runs.{text_stays}
use Rattle.machine_core.specs.Commits.{IsStretchFrom, hart_in}
use Rattle.machine_core.specs.Inner.{Holds, Inner}
use Rattle.machine_core.specs.Turns.{CanTurn}
use Rattle.machine_core.proofs.Holding.{run_so_far}
use Rattle.machine_core.proofs.Turning.{calm}

pub ok_map : {A E : Type 0} (r : Result A E) (P Q : A → Type 0) → ((x : A) → P x → Q x) → IfOk r P → IfOk r Q
ok_map (Ok x) P Q f p = f x p
ok_map (Err e) P Q f p = p

-- in a quiet state a hart has no frame
no_frames : (slots : List Slot) (h : ℕ) (hart : Hart) → are_quiet slots ≡ true → option_map hart_of (slice_get slots h) ≡ Some hart → slice_get slots h ≡ Some (slot_of hart)
no_frames [] h hart quiet is = cc
no_frames (slot ∷ slots) zero hart quiet is =
    let none = no_length slot.frames (eqb-true (length slot.frames) 0 (and_left _ _ quiet)) in
    let same : slot.hart ≡ hart = cc in
    (λ i. Some (record { hart = same i; frames = none i }))
  where
    no_length : (fs : List Frame) → length fs ≡ 0 → fs ≡ []
    no_length [] few = refl
    no_length (f ∷ fs) few = absurd (omega (arith, few))
no_frames (slot ∷ slots) (suc h) hart quiet is = no_frames slots h hart (and_right (length slot.frames == 0) _ quiet) is

-- no hart arrives by the second points that doesn't by the first
abbrev ArrivesNoMore : List Point → List Point → Type 0
ArrivesNoMore ps qs = (hart : Hart) → arrival_of ps 0 hart ≡ None → arrival_of qs 0 hart ≡ None

module _ (text : List Stretch) (ps qs : List Point) (fewer : ArrivesNoMore ps qs) where
  next_kept : (hart to : Hart) → register_next text ps hart ≡ Some to → register_next text qs hart ≡ Some to
  next_kept hart to is = by (arrival_of ps 0 hart) refl is
    where
      acts : Option Hart
      acts = after_inst hart (inst_in text hart.pc)

      by : (o : Option PointRef) → arrival_of ps 0 hart ≡ o → unless_arrived o acts ≡ Some to → unless_arrived (arrival_of qs 0 hart) acts ≡ Some to
      by None none goes = ap (λ o. unless_arrived o acts) (fewer hart none) ∙ goes
      by (Some point) some goes = absurd (cc)

  -- so register acts are the same by both
  registers_kept : (base to : Hart) (n : ℕ) → registers text ps base n ≡ Some to → registers text qs base n ≡ Some to
  unfolding registers
  registers_kept base to zero is = is
  registers_kept base to (suc n) is = by (registers text ps base n) (λ mid so_far. registers_kept base mid n so_far) is
    where
      by : (o : Option Hart) → ((mid : Hart) → o ≡ Some mid → registers text qs base n ≡ Some mid) → then_next text ps o ≡ Some to → then_next text qs (registers text qs base n) ≡ Some to
      by None before goes = absurd (cc)
      by (Some mid) before goes = ap (then_next text qs) (before mid refl) ∙ next_kept mid to goes

module _ (start : State) (told : Seen) (w : Inner) (p : Noted) (k : Holds start told w p) where
  -- the number of harts is that of the start
  pub slots_stay : length w.live.state.slots ≡ length start.slots
  slots_stay = ap (λ (s : State). length s.slots) (sym (run_so_far start told w p k).1) ∙ (state_after_stays start (flat w.hart w.nest)).slots

  module _ (text : List Stretch) where
    -- a text of the memory now is one of the memory at the start
    pub text_then : IsTextOf text w.live.state.memory → IsTextOf text start.memory
    text_then tells pc =
        let run = run_so_far start told w p k in
        tells pc ∙ ap (λ (s : State). inst_at s.memory pc) (sym run.1) ∙ text_stays start (flat w.hart w.nest) k.starts.text run.0 pc

    text_now : IsTextOf text start.memory → IsTextOf text w.live.state.memory
    text_now tells pc =
        let run = run_so_far start told w p k in
        tells pc ∙ sym (text_stays start (flat w.hart w.nest) k.starts.text run.0 pc) ∙ ap (λ (s : State). inst_at s.memory pc) run.1

  arrives_no_more : ArrivesNoMore start.points w.live.state.points
  arrives_no_more hart none =
      let run = run_so_far start told w p k in
      ap (λ (s : State). arrival_of s.points 0 hart) (sym run.1) ∙ fewer_arrivals start (flat w.hart w.nest) run.0 hart none

  -- a stretch from the kept hart, for which steps are left, is one of the state
  pub is_stretch : CanTurn w → (base to : Hart) (count : ℕ) → hart_in w.live.state w.hart ≡ Some base → is_ready base.state ≡ true → IsStretchFrom start base to count → count ≤ steps_left w.live.state
      → IsStretch w.live.state w.hart base to count
  is_stretch can base to count at ready from room = record {
    text = from.text;
    tells = text_now from.text from.tells;
    made = registers_kept from.text start.points w.live.state.points arrives_no_more base to count from.made;
    ready = ready;
    kept = no_frames w.live.state.slots w.hart base (calm start told w p k can) at;
    room = room;
  }
