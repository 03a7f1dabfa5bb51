-- Open calls that have been entered since a machine was ready, or have come to their end, are a turn.
use Rattle.std.proofs.Common.{◌≡◌, inl, inr, ℕ, ◌+◌, ◌<◌, ◌≤◌, true, false, List, [], length, Some, None, refl, ap, sym, ◌∙◌, subst, arith, eq-eqb}
use Rattle.std.proofs.lemmas.Bool.{and_from, both_ways}
use Rattle.guest_words.specs.declared.point.PointRef.{PointRef}
use Rattle.guest_words.specs.State.{State, enter, frames_at}
use Rattle.run_history.specs.declared.entry.Entry.{Entry, Entered}
use Rattle.run_history.specs.declared.entry.Entry.TheViews as v
use Rattle.run_history.specs.After.{state_after}
use Rattle.run_history.specs.Counts.{steps_of_all}
use Rattle.run_history.specs.Legal.{legal}
use Rattle.run_history.specs.Quiet.{is_quiet}
use Rattle.run_history.proofs.Entries.{after-Entered, legal-Entered-may}
use Rattle.run_history.proofs.FewerFrames.{rescued_fewer}
use Rattle.run_history.proofs.Insides.{after-Rescued}
use Rattle.run_history.proofs.Kept.{state_after_budget}
use Rattle.run_history.proofs.Nested.{frames-Entered}
use Rattle.run_history.proofs.Quietness.{quiet_frames}
use Rattle.run_history.proofs.SlotCount.{entered_count, state_after_count}
use Rattle.run_history.proofs.StepsAfter.{may_step, more_steps_run, steps_after_run}
use Rattle.open_calls.specs.Nest.{lowest}
use Rattle.machine_core.specs.Machine.{Machine, Opened, whole}
use Rattle.machine_core.specs.OpenSteps.{abandoned_of, HasBegun, LeavesAll, StaysUnder}
use Rattle.lone_schedule.specs.Ahead.{turns_ahead}
use Rattle.lone_schedule.specs.Drives.{CanTurn, InTurn, IsCalling, MakesTurn}
use Rattle.lone_schedule.specs.Turns.{goes_on, is_turn_of}
use Rattle.lone_schedule.proofs.Calling.{entered_apart, IsRescue, stepped}
use Rattle.lone_schedule.proofs.Entering.{entered_budget, entered_jumped, entered_steps}
use Rattle.lone_schedule.proofs.Measures.{rescue_nearer, step_nearer}
use Rattle.lone_schedule.proofs.Rescues.{rescue_begins}
use Rattle.lone_schedule.proofs.RestLaws.{rest_apart}

entered_turn : (s : State) (h : ℕ) (p : PointRef) (rest : List Entry) → goes_on (enter s h p) h false rest ≡ true → is_turn_of s (Some h) (Entered h p) rest ≡ true
entered_turn s h p rest goes =
    and_from _ _ (and_from _ _ (eq-eqb h h refl) (entered_apart h p)) (ap (λ t. goes_on t h false rest) (after-Entered s h p) ∙ goes)

-- what was entered in a turn is one, where a step has been made or the machine isn't to go on
module _ (h : ℕ) (m n : Machine) (within : m.state.steps ≤ m.state.budget) (t : InTurn h m.history m.state n) where
  abbrev s : State
  s = m.state

  abbrev p : PointRef
  p = t.point

  abbrev u : State
  u = enter s h p

  told : n.state.steps ≡ s.steps + steps_of_all t.rest
  told = ap (λ (x : State). x.steps) t.reaches ∙ steps_after_run u t.rest t.runs ∙ ap (λ k. k + steps_of_all t.rest) (entered_steps s h p)

  nearer : 0 < steps_of_all t.rest → turns_ahead n.state < turns_ahead s
  nearer some =
      let steps = told in
      step_nearer s n.state
      (ap (λ (x : State). length x.slots) t.reaches ∙ state_after_count u t.rest ∙ entered_count s h p)
      (ap (λ (x : State). x.budget) t.reaches ∙ state_after_budget u t.rest ∙ entered_budget s h p)
      (may_step s h (legal-Entered-may s h p t.enters) within)
      (omega (arith, steps, some))

  pub turn_made : (n.state.ending ≡ None → n.abandoned ≡ false → 0 < steps_of_all t.rest) → MakesTurn h m.history s n
  turn_made some = record {
    first = Entered h p;
    rest = t.rest;
    made = record {
      follows = t.follows;
      reaches = t.reaches ∙ ap (λ (x : State). state_after x t.rest) (sym (after-Entered s h p));
      nearer = λ going kept. nearer (some going kept);
    };
    is = entered_turn s h p t.rest t.goes;
  }

  -- with no frame open there was more than the entering
  pub turn_over : (n.state.ending ≡ None → is_quiet n.state ≡ true) → MakesTurn h m.history s n
  turn_over calm = turn_made (λ going kept. elim (t.moved going) [
    | inl empty ↦
        let here : n.state ≡ u = t.reaches ∙ ap (state_after u) empty in
        let none = quiet_frames n.state h (calm going) in
        let one = frames-Entered s h p t.enters in
        let same = ap (λ (x : State). frames_at x h) here in
        absurd (omega (arith, none, one, same))
    | inr some ↦ some
  ])

rescue_turn : (h : ℕ) (m n : Machine) → IsRescue h m.history m.state n → MakesTurn h m.history m.state n
rescue_turn h m n r =
    let s = m.state in
    let q = r.point in
    let t = state_after (enter s h q) r.inside in
    let e = v.Rescued h q r.fault r.inside in
    let apart = rest_apart (enter s h q) h false r.inside r.goes in
    let later : s.steps ≤ t.steps = subst (λ k. k ≤ t.steps) (entered_steps s h q) (more_steps_run (enter s h q) r.inside r.runs) in
    record {
      first = e;
      rest = [];
      made = record {
        follows = r.follows;
        reaches = r.reaches;
        nearer = λ going kept. subst (λ (x : State). turns_ahead x < turns_ahead s) (sym (r.reaches ∙ after-Rescued s h q r.fault r.inside))
            (rescue_nearer s h q r.fault t (entered_jumped s h q r.enters) later);
      };
      is = and_from _ true (rescue_begins s h q r.fault r.inside apart) refl;
    }

-- a call that was taken back whole leaves no frame open
rescue_quiet : (h : ℕ) (before : List Entry) (s : State) (m : Machine) → frames_at s h ≡ 0 → IsRescue h before s m → frames_at m.state h ≡ 0
rescue_quiet h before s m none r =
    let q = r.point in
    let t = state_after (enter s h q) r.inside in
    let few = rescued_fewer s h q r.fault t h in
    let same = ap (λ (x : State). frames_at x h) (r.reaches ∙ after-Rescued s h q r.fault r.inside) in
    omega (arith, none, few, same)

module _ (start : State) (a : Opened) (c : IsCalling start a) where
  calm_from : frames_at c.from.state a.hart ≡ 0
  calm_from = quiet_frames c.from.state a.hart (c.can.told.calm c.can.going c.can.kept)

  -- calls that are open still
  pub calls_on : (b : Opened) → StaysUnder start a b → IsCalling start b
  calls_on b stays = record {
    from = c.from;
    can = c.can;
    outermost = stays.outermost ∙ c.outermost;
    turn = subst (λ k. InTurn k c.from.history c.from.state (whole b)) (sym stays.hart) (elim (stepped start a c (whole b) stays.steps) [
      | inl turn ↦ turn
      | inr rescue ↦
          let none = rescue_quiet a.hart c.from.history c.from.state (whole b) calm_from rescue in
          let framed = stays.goes.framed in
          let some = stays.goes.some in
          let same = ap (frames_at b.state) stays.hart in
          absurd (omega (arith, none, framed, some, same))
    ]);
    goes = stays.goes;
  }

  -- none is open any more
  pub calls_end : (n : Machine) → LeavesAll start a n → MakesTurn a.hart c.from.history c.from.state n
  calls_end n leaves = elim (stepped start a c n leaves.steps) [
    | inl turn ↦ turn_over a.hart c.from n c.can.told.within turn leaves.calm
    | inr rescue ↦ rescue_turn a.hart c.from n rescue
  ]

  -- the machine isn't to go on
  pub calls_stop : (n : Machine) → n ≡ abandoned_of (whole a) → MakesTurn a.hart c.from.history c.from.state n
  calls_stop n is =
      let m = abandoned_of (whole a) in
      let turn : InTurn a.hart c.from.history c.from.state m = record {
        point = c.turn.point;
        rest = c.turn.rest;
        enters = c.turn.enters;
        follows = c.turn.follows;
        runs = c.turn.runs;
        reaches = c.turn.reaches;
        goes = c.turn.goes;
        moved = c.turn.moved;
      } in
      subst (MakesTurn a.hart c.from.history c.from.state) (sym is)
      (turn_made a.hart c.from m c.can.told.within turn (λ going kept. absurd (both_ways true kept refl)))

  -- the turn by the entries before the outermost call
  pub turn_of_calls : (n : Machine) → MakesTurn a.hart c.from.history c.from.state n → MakesTurn a.hart (lowest a.nest) (state_after start (lowest a.nest)) n
  turn_of_calls n turn =
      subst (λ es. MakesTurn a.hart es (state_after start es) n) (sym c.outermost)
      (subst (λ (x : State). MakesTurn a.hart c.from.history x n) c.can.told.reaches turn)

-- a call that was just begun
pub begun : (start : State) (h : ℕ) (p : PointRef) (m : Machine) (a : Opened) → CanTurn start m → HasBegun h p m a → IsCalling start a
begun start h p m a can b = record {
  from = m;
  can = can;
  outermost = b.outermost;
  turn = subst (λ k. InTurn k m.history m.state (whole a)) (sym b.hart) (record {
    point = p;
    rest = [];
    enters = b.legal;
    follows = ap (λ (x : Machine). x.history) b.same;
    runs = refl;
    reaches = ap (λ (x : Machine). x.state) b.same ∙ after-Entered m.state h p;
    goes = refl;
    moved = λ going. inl refl;
  });
  goes = b.goes;
}

-- its turn by what was there before
pub begun_turn : (start : State) (h : ℕ) (p : PointRef) (m n : Machine) (a : Opened) → CanTurn start m → HasBegun h p m a
    → MakesTurn a.hart (lowest a.nest) (state_after start (lowest a.nest)) n → MakesTurn h m.history m.state n
begun_turn start h p m n a can b turn =
    subst (λ k. MakesTurn k m.history m.state n) b.hart
    (subst (λ (x : State). MakesTurn a.hart m.history x n) (sym can.told.reaches)
    (subst (λ es. MakesTurn a.hart es (state_after start es) n) b.outermost turn))

-- and by where the calls stood at an earlier step
pub settled : (start : State) (a b : Opened) (n : Machine) → lowest a.nest ≡ lowest b.nest → a.hart ≡ b.hart
    → MakesTurn a.hart (lowest a.nest) (state_after start (lowest a.nest)) n → MakesTurn b.hart (lowest b.nest) (state_after start (lowest b.nest)) n
settled start a b n outermost hart turn =
    subst (λ k. MakesTurn k (lowest b.nest) (state_after start (lowest b.nest)) n) hart
    (subst (λ es. MakesTurn a.hart es (state_after start es) n) outermost turn)
