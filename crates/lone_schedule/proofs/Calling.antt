-- A step of open calls keeps to the rules of a turn, or takes back the call with which it began.
use Rattle.std.proofs.Common.{◌≡◌, ◌⊎◌, inl, inr, ℕ, ◌+◌, ◌<◌, ◌≤◌, Bool, true, false, ◌||◌, List, [], ◌∷◌, ◌++◌, Option, Some, None, refl, ap, sym, ◌∙◌, subst, arith, eq-eqb}
use Rattle.std.proofs.lemmas.Bool.{and_from, not-true}
use Rattle.std.proofs.lemmas.List.{append_assoc, append_cancel_left, append-nil}
use Rattle.guest_words.specs.declared.ending.Ending.{Ending}
use Rattle.guest_words.specs.declared.ending.Ending.TheVariants as ending
use Rattle.guest_words.specs.declared.fault.Fault.{Fault as FaultAt}
use Rattle.guest_words.specs.declared.point.PointRef.{PointRef}
use Rattle.guest_words.specs.declared.record.Record.{Record}
use Rattle.guest_words.specs.Act.{StateAct, Ordinary, Fault, Request, Arrival, End, Absent, act_of}
use Rattle.guest_words.specs.Endings.{is_budget_spent}
use Rattle.guest_words.specs.State.{State, enter}
use Rattle.run_history.specs.declared.entry.Entry.{Entry, Entered, Called, Ended}
use Rattle.run_history.specs.declared.entry.Entry.TheViews as v
use Rattle.run_history.specs.After.{after, ran, state_after}
use Rattle.run_history.specs.Counts.{steps_of, steps_of_all}
use Rattle.run_history.specs.LastEntry.{with_acts, with_ran}
use Rattle.run_history.specs.Legal.{legal}
use Rattle.run_history.specs.Run.{is_run}
use Rattle.run_history.proofs.Ands.{and_left}
use Rattle.run_history.proofs.Appends.{is_run-append, is_run-push, state_after-append, state_after-push}
use Rattle.run_history.proofs.Entries.{after-Ended, after-Entered, goes-first}
use Rattle.run_history.proofs.Insides.{steps_of-Rescued}
use Rattle.run_history.proofs.Kept.{state_after_budget}
use Rattle.run_history.proofs.LastEntries.{with_acts-some}
use Rattle.run_history.proofs.OneMore.{runs-acts}
use Rattle.run_history.proofs.StepsAfter.{ran_steps, ran_within, steps_after_run, within_run}
use Rattle.run_history.proofs.Under.{may_under}
use Rattle.machine_core.specs.Machine.{Machine, Opened, history_of, whole}
use Rattle.machine_core.specs.OpenSteps.{Acts, Asks, DoesBy, Does, Enters, Erases, StepsTo}
use Rattle.machine_core.specs.QuietSteps.{EndsBy}
use Rattle.lone_schedule.specs.Drives.{InTurn, IsCalling}
use Rattle.lone_schedule.specs.Insides.{is_ran, is_apart}
use Rattle.lone_schedule.specs.Turns.{ends_hart, follows, goes_on, is_budget, is_over, stays_open}
use Rattle.lone_schedule.proofs.Entering.{entered_budget, entered_steps, enters_once, is_open}
use Rattle.lone_schedule.proofs.InsideLaws.{ran-Rescued}
use Rattle.lone_schedule.proofs.Rescues.{rescue_follows}
use Rattle.lone_schedule.proofs.RestLaws.{acts_more, rest_apart, rest_cut, rest_push, stays-shown, with_ran-append, with_ran-entered}

-- the call with which a turn began was taken back
pub record IsRescue (h : ℕ) (before : List Entry) (s : State) (m : Machine) : Type 0 where
  pub point : PointRef
  pub fault : FaultAt
  pub inside : List Entry
  pub enters : legal s (Entered h point) ≡ true
  pub follows : m.history ≡ before ++ v.Rescued h point fault inside ∷ []
  pub reaches : m.state ≡ after s (v.Rescued h point fault inside)
  pub runs : is_run (enter s h point) inside ≡ true
  pub goes : goes_on (enter s h point) h false inside ≡ true

-- the acts that entries tell

pub steps-append : (xs ys : List Entry) → steps_of_all (xs ++ ys) ≡ steps_of_all xs + steps_of_all ys
steps-append [] ys = omega arith
steps-append (x ∷ xs) ys = let later = steps-append xs ys in omega (arith, later)

called_step : (h : ℕ) (r : Record) → steps_of (Called h r) ≡ 1
unfolding steps_of
called_step h r = refl

entered_step : (h : ℕ) (p : PointRef) → steps_of (Entered h p) ≡ 0
unfolding steps_of
entered_step h p = refl

called_apart : (h : ℕ) (r : Record) → is_apart (Called h r) ≡ true
unfolding is_apart
called_apart h r = refl

pub entered_apart : (h : ℕ) (p : PointRef) → is_apart (Entered h p) ≡ true
unfolding is_apart
entered_apart h p = refl

-- lists with one first item

first_of : (x y : Entry) (xs ys : List Entry) → x ∷ xs ≡ y ∷ ys → x ≡ y
first_of x y xs ys same = cc

rest_of : (x y : Entry) (xs ys : List Entry) → x ∷ xs ≡ y ∷ ys → xs ≡ ys
rest_of x y xs ys same = cc

some_behind : (xs ys : List Entry) (e : Entry) → xs ++ e ∷ ys ≡ [] → ⊥
some_behind [] ys e none = cc
some_behind (x ∷ xs) ys e none = cc

no_more : {A : Type 0} (x : Ending) → ◌≡◌ {A = Option Ending} (Some x) None → A
no_more x e = absurd (cc e)

module _ (start : State) (a : Opened) (c : IsCalling start a) where
  abbrev h : ℕ
  h = a.hart

  abbrev s : State
  s = c.from.state

  abbrev p : PointRef
  p = c.turn.point

  abbrev u : State
  u = enter s h p

  open_now : is_over (state_after u c.turn.rest) ≡ false
  open_now =
      let framed = c.goes.framed in
      let some = c.goes.some in
      ap is_over (sym c.turn.reaches) ∙ is_open a.state h c.goes.under.going (omega (arith, framed, some))

  -- an entry more behind those of the turn, or behind its first ones
  pushed : (xs : List Entry) (e : Entry) (m : Machine) → goes_on u h false xs ≡ true → is_run u xs ≡ true → is_over (state_after u xs) ≡ false
      → is_ran e ≡ false → follows (state_after u xs) h e ≡ true → legal (state_after u xs) e ≡ true
      → m.history ≡ c.from.history ++ Entered h p ∷ (xs ++ e ∷ []) → m.state ≡ after (state_after u xs) e
      → (m.state.ending ≡ None → 0 < steps_of_all (xs ++ e ∷ [])) → InTurn h c.from.history s m
  pushed xs e m goes runs going other fits may history state some = record {
    point = p;
    rest = xs ++ e ∷ [];
    enters = c.turn.enters;
    follows = history;
    runs = is_run-push u xs e runs may;
    reaches = state ∙ sym (state_after-push u xs e);
    goes = rest_push u h false xs e goes going other fits;
    moved = λ none. inr (some none);
  }

  last : (e : Entry) (m : Machine) → is_ran e ≡ false → follows a.state h e ≡ true → legal a.state e ≡ true
      → m.history ≡ history_of a ++ e ∷ [] → m.state ≡ after a.state e
      → (m.state.ending ≡ None → 0 < steps_of_all (c.turn.rest ++ e ∷ [])) → InTurn h c.from.history s m
  last e m other fits may history state some =
      let at = c.turn.reaches in
      pushed c.turn.rest e m c.turn.goes c.turn.runs open_now other
      (ap (λ (x : State). follows x h e) (sym at) ∙ fits)
      (ap (λ (x : State). legal x e) (sym at) ∙ may)
      (history ∙ ap (λ es. es ++ e ∷ []) c.turn.follows ∙ append_assoc c.from.history (Entered h p ∷ c.turn.rest) (e ∷ []))
      (state ∙ ap (λ (x : State). after x e) at)
      some

  ended : (x : Ending) (m : Machine) → (ends_hart h x || is_budget x) ≡ true → EndsBy x (whole a) m → InTurn h c.from.history s m
  ended x m fits ends =
      let state : m.state ≡ after a.state (Ended x) = ap (λ (y : Machine). y.state) ends.same in
      last (Ended x) m refl fits ends.legal (ap (λ (y : Machine). y.history) ends.same) state
      (λ none. no_more x (sym (ap (λ (t : State). t.ending) (state ∙ after-Ended a.state x)) ∙ none))

  asks : (m : Machine) → Asks a m → InTurn h c.from.history s m
  asks m asked =
      let e = Called h asked.call in
      let more = steps-append c.turn.rest (e ∷ []) in
      let one = called_step h asked.call in
      last e m refl (and_from _ _ (eq-eqb h h refl) (called_apart h asked.call)) asked.legal
      (ap (λ (y : Machine). y.history) asked.same) (ap (λ (y : Machine). y.state) asked.same)
      (λ none. omega (arith, more, one))

  -- a further point is entered only behind an act
  enters : (q : PointRef) (m : Machine) → Enters q a m → InTurn h c.from.history s m
  enters q m into =
      let e = Entered h q in
      let more = steps-append c.turn.rest (e ∷ []) in
      last e m refl (and_from _ _ (eq-eqb h h refl) (entered_apart h q)) into.legal
      (ap (λ (y : Machine). y.history) into.same) (ap (λ (y : Machine). y.state) into.same)
      (λ none. elim (c.turn.moved c.goes.under.going) [
        | inl empty ↦
            let here : a.state ≡ u = c.turn.reaches ∙ ap (state_after u) empty in
            absurd (enters_once s h p q (ap (λ (x : State). legal x e) (sym here) ∙ into.legal))
        | inr some ↦ omega (arith, more, some)
      ])

  told : a.state.steps ≡ s.steps + steps_of_all c.turn.rest
  told = ap (λ (x : State). x.steps) c.turn.reaches ∙ steps_after_run u c.turn.rest c.turn.runs ∙ ap (λ n. n + steps_of_all c.turn.rest) (entered_steps s h p)

  budget_now : a.state.budget ≡ s.budget
  budget_now = ap (λ (x : State). x.budget) c.turn.reaches ∙ state_after_budget u c.turn.rest ∙ entered_budget s h p

  within_now : a.state.steps ≤ a.state.budget
  within_now =
      let within = within_run u c.turn.rest c.turn.runs (subst (λ n. n ≤ u.budget) (sym (entered_steps s h p)) (subst (λ n. s.steps ≤ n) (sym (entered_budget s h p)) c.can.told.within)) in
      subst (λ (x : State). x.steps ≤ x.budget) (sym c.turn.reaches) within

  -- acts in a row
  acts : (m : Machine) → Acts a m → InTurn h c.from.history s m
  acts m acted =
      let n = acted.count in
      let rest = c.turn.rest in
      let some = acted.some in
      let positive : 0 < n = omega (arith, some) in
      let framed = c.goes.framed in
      let open_one = c.goes.some in
      let fresh : is_budget_spent a.state ≡ false = not-true _ (and_left _ _ (and_left _ _ (goes-first a.state h n positive acted.goes))) in
      let more = runs-acts u h n rest a.state (record { runs = c.turn.runs; reaches = c.turn.reaches }) (may_under a.state h c.goes.under fresh) acted.goes in
      let same = with_acts-some h n rest positive in
      let runs : is_run u (with_ran h n rest) ≡ true = ap (is_run u) (sym same) ∙ more.runs in
      let reaches : ran a.state h n ≡ state_after u (with_ran h n rest) = more.reaches ∙ ap (state_after u) same in
      let steps = ran_steps a.state h n acted.goes in
      let so_far = told in
      let most = ran_within a.state h n acted.goes within_now in
      let budget = budget_now in
      let limit = c.can.told.most in
      let stays = stays-shown a.state h n (λ i less. let e = acted.stays i less in omega (arith, e, framed, open_one)) in
      let goes = acts_more u h n false rest (λ is. refl) c.turn.goes open_now (ap (λ (x : State). stays_open x h n) (sym c.turn.reaches) ∙ stays)
      (omega (arith, so_far, most, budget, limit)) in
      let all = steps_after_run u (with_ran h n rest) runs in
      let first = entered_steps s h p in
      let end = ap (λ (x : State). x.steps) reaches in
      record {
        point = p;
        rest = with_ran h n rest;
        enters = c.turn.enters;
        follows = ap (λ (y : Machine). y.history) acted.same ∙ ap (with_acts h n) c.turn.follows ∙ with_acts-some h n (c.from.history ++ Entered h p ∷ rest) positive
            ∙ with_ran-append h n c.from.history (Entered h p) rest ∙ ap (λ es. c.from.history ++ es) (with_ran-entered h n h p rest);
        runs = runs;
        reaches = ap (λ (y : Machine). y.state) acted.same ∙ reaches;
        goes = goes.goes;
        moved = λ none. inr (omega (arith, all, first, end, steps, so_far, positive));
      }

  -- a rescue

  erased_all : (f : FaultAt) (m : Machine) (r : Erases start f a m) → r.since ≡ [] → Entered h p ∷ c.turn.rest ≡ Entered h r.outer.point ∷ a.nest.entries
      → r.before ≡ c.from.history ++ r.since → IsRescue h c.from.history s m
  erased_all f m r none same before =
      let q = r.outer.point in
      let e = v.Rescued h q f a.nest.entries in
      let heads = first_of (Entered h p) (Entered h q) c.turn.rest a.nest.entries same in
      let tails = rest_of (Entered h p) (Entered h q) c.turn.rest a.nest.entries same in
      let at : r.before ≡ c.from.history = before ∙ ap (λ es. c.from.history ++ es) none ∙ append-nil c.from.history in
      let here : u ≡ enter s h q = sym (after-Entered s h p) ∙ ap (after s) heads ∙ after-Entered s h q in
      record {
        point = q;
        fault = f;
        inside = a.nest.entries;
        enters = ap (legal s) (sym heads) ∙ c.turn.enters;
        follows = ap (λ (y : Machine). y.history) r.same ∙ ap (λ es. es ++ e ∷ []) at;
        reaches = ap (λ (y : Machine). y.state) r.same ∙ ap (λ es. after (state_after start es) e) at ∙ ap (λ (x : State). after x e) (sym c.can.told.reaches);
        runs = ap (λ es. is_run (enter s h q) es) (sym tails) ∙ ap (λ (x : State). is_run x c.turn.rest) (sym here) ∙ c.turn.runs;
        goes = ap (λ es. goes_on (enter s h q) h false es) (sym tails) ∙ ap (λ (x : State). goes_on x h false c.turn.rest) (sym here) ∙ c.turn.goes;
      }

  erased_inner : (f : FaultAt) (m : Machine) (r : Erases start f a m) (x : Entry) (xs : List Entry) → r.since ≡ x ∷ xs → Entered h p ≡ x
      → c.turn.rest ≡ xs ++ Entered h r.outer.point ∷ a.nest.entries → r.before ≡ c.from.history ++ r.since → InTurn h c.from.history s m
  erased_inner f m r x xs since first rest before =
      let q = r.outer.point in
      let inside = a.nest.entries in
      let e = v.Rescued h q f inside in
      let t = state_after u xs in
      let cut = rest_cut u h false xs (Entered h q) inside (ap (goes_on u h false) (sym rest) ∙ c.turn.goes) in
      let runs : is_run u xs ≡ true = and_left _ _ (sym (is_run-append u xs (Entered h q ∷ inside)) ∙ ap (is_run u) (sym rest) ∙ c.turn.runs) in
      let apart = rest_apart (after t (Entered h q)) h false inside cut.behind in
      let at : r.before ≡ c.from.history ++ Entered h p ∷ xs = before ∙ ap (λ es. c.from.history ++ es) (since ∙ ap (λ y. y ∷ xs) (sym first)) in
      let there : state_after start r.before ≡ t =
      ap (state_after start) at ∙ state_after-append start c.from.history (Entered h p ∷ xs)
      ∙ ap (λ (y : State). state_after (after y (Entered h p)) xs) (sym c.can.told.reaches) ∙ ap (λ (y : State). state_after y xs) (after-Entered s h p) in
      let all = ap steps_of_all rest ∙ steps-append xs (Entered h q ∷ inside) in
      let more = steps-append xs (e ∷ []) in
      let none = entered_step h q in
      let same = steps_of-Rescued h q f inside in
      pushed xs e m cut.front runs cut.going (ran-Rescued h q f inside) (rescue_follows t h q f inside apart)
      (ap (λ (y : State). legal y e) (sym there) ∙ r.legal)
      (ap (λ (y : Machine). y.history) r.same ∙ ap (λ es. es ++ e ∷ []) at ∙ append_assoc c.from.history (Entered h p ∷ xs) (e ∷ []))
      (ap (λ (y : Machine). y.state) r.same ∙ ap (λ (y : State). after y e) there)
      (λ going. elim (c.turn.moved c.goes.under.going) [
        | inl empty ↦ absurd (some_behind xs inside (Entered h q) (sym rest ∙ empty))
        | inr some ↦ omega (arith, all, more, none, same, some)
      ])

  erases : (f : FaultAt) (m : Machine) → Erases start f a m → InTurn h c.from.history s m ⊎ IsRescue h c.from.history s m
  erases f m r = by r.since refl
    where
      q : PointRef
      q = r.outer.point

      before : r.before ≡ c.from.history ++ r.since
      before = r.follows ∙ ap (λ es. es ++ r.since) c.outermost

      whole_same : Entered h p ∷ c.turn.rest ≡ r.since ++ Entered h q ∷ a.nest.entries
      whole_same =
          append_cancel_left c.from.history (Entered h p ∷ c.turn.rest) (r.since ++ Entered h q ∷ a.nest.entries)
          (sym c.turn.follows ∙ r.was ∙ ap (λ es. es ++ Entered h q ∷ a.nest.entries) before ∙ append_assoc c.from.history r.since (Entered h q ∷ a.nest.entries))

      by : (es : List Entry) → r.since ≡ es → InTurn h c.from.history s m ⊎ IsRescue h c.from.history s m
      by [] is = inr (erased_all f m r is (whole_same ∙ ap (λ es. es ++ Entered h q ∷ a.nest.entries) is) before)
      by (x ∷ xs) is =
          let same = whole_same ∙ ap (λ es. es ++ Entered h q ∷ a.nest.entries) is in
          inl (erased_inner f m r x xs is (first_of (Entered h p) x c.turn.rest (xs ++ Entered h q ∷ a.nest.entries) same)
          (rest_of (Entered h p) x c.turn.rest (xs ++ Entered h q ∷ a.nest.entries) same) before)

  -- a step by what it does
  pub stepped : (m : Machine) → StepsTo start a m → InTurn h c.from.history s m ⊎ IsRescue h c.from.history s m
  stepped m steps = by (is_budget_spent a.state) steps
    where
      does : (act : StateAct) → Does start a act m → InTurn h c.from.history s m ⊎ IsRescue h c.from.history s m
      does (Ordinary t) is = inl (acts m is)
      does (Fault name) is = erases _ m is
      does (Request way port asked place) is = inl (asks m is)
      does (Arrival q) is = inl (enters q m is)
      does (End code) is = inl (ended (ending.Exit h code) m (ap (λ b. b || false) (eq-eqb h h refl)) is)
      does Absent is = absurd is

      by : (b : Bool) → DoesBy start a b m → InTurn h c.from.history s m ⊎ IsRescue h c.from.history s m
      by true is = inl (ended ending.Budget m refl is)
      by false is = does (act_of a.state a.hart) is
