-- What a step comes to is a turn for the word.
use Rattle.std.proofs.Common.{◌≡◌, ◌⊎◌, inl, inr, ℕ, ◌+◌, ◌<◌, true, false, not, ◌&&◌, nat_lt, [], ◌∷◌, length, Option, Some, None, refl, ap, sym, ◌∙◌, arith, eq-eqb}
use Rattle.std.proofs.lemmas.Bool.{and_from}
use Rattle.std.proofs.lemmas.Bool.Decides.{nat_tests}
use Rattle.guest_words.specs.declared.ending.Ending.{Ending}
use Rattle.guest_words.specs.Act.{StateAct, Ordinary, Fault, Request, Arrival, End, Absent}
use Rattle.guest_words.specs.Endings.{is_stuck}
use Rattle.guest_words.specs.State.{State}
use Rattle.run_history.specs.declared.entry.Entry.{Entry, Ran, Called, Ended}
use Rattle.run_history.specs.After.{after, ran}
use Rattle.run_history.specs.Counts.{steps_of}
use Rattle.run_history.specs.Legal.{can_go, legal, may_act}
use Rattle.run_history.proofs.Ands.{and_left, and_right}
use Rattle.run_history.proofs.Entries.{after-Ended, after-Ran}
use Rattle.run_history.proofs.Staying.{after_stays}
use Rattle.run_history.proofs.StepsAfter.{step_left, steps_after}
use Rattle.machine_core.specs.Machine.{Machine}
use Rattle.machine_core.specs.QuietSteps.{CallsOn, EndsBy, Moves, RunsOn}
use Rattle.lone_schedule.specs.Ahead.{turns_ahead}
use Rattle.lone_schedule.specs.Choice.{chosen}
use Rattle.lone_schedule.specs.Drives.{CanTurn, MakesTurn, TakesTurn}
use Rattle.lone_schedule.specs.Insides.{is_apart}
use Rattle.lone_schedule.specs.Rows.{can_join}
use Rattle.lone_schedule.specs.Turns.{ends_hart, is_due}
use Rattle.lone_schedule.proofs.Answering.{unstuck}
use Rattle.lone_schedule.proofs.Measures.{step_nearer}
use Rattle.lone_schedule.proofs.RowLaws.{row-shown, takes-wants}
use Rattle.lone_schedule.proofs.TurnLaws.{greatest, ran-begins, turn-due, turn-of}

-- an entry that tells a step leaves fewer turns ahead
entry_nearer : (start : State) (m n : Machine) (e : Entry) → CanTurn start m → is_due m.state ≡ false → legal m.state e ≡ true → 0 < steps_of e → n.state ≡ after m.state e
    → turns_ahead n.state < turns_ahead m.state
entry_nearer start m n e can due is some state =
    let s = m.state in
    let stays = after_stays s e in
    let steps : n.state.steps ≡ s.steps + steps_of e = ap (λ (x : State). x.steps) state ∙ steps_after s e is in
    step_nearer s n.state (ap (λ (x : State). length x.slots) state ∙ stays.slots) (ap (λ (x : State). x.budget) state ∙ stays.budget)
    (step_left s (ap not (unstuck s due).0) can.told.within) (omega (arith, steps, some))

ran_some : (s : State) (h n : ℕ) → legal s (Ran h n) ≡ true → 0 < steps_of (Ran h n)
unfolding legal steps_of
ran_some s h n is = let positive : nat_lt 0 n ≡ true = and_right (may_act s h) _ (and_left _ _ is) in grind (arith, nat_tests, positive)

called_some : (h : ℕ) (r : _) → 0 < steps_of (Called h r)
unfolding steps_of
called_some h r = omega arith

called_apart : (h : ℕ) (r : _) → is_apart (Called h r) ≡ true
unfolding is_apart
called_apart h r = refl

pub ran_turn : (start : State) (w h : ℕ) (m n : Machine) → CanTurn start m → is_due m.state ≡ false → chosen m.state w ≡ Some h → RunsOn h 64 m n → TakesTurn w m n
ran_turn start w h m n can due is r =
    let s = m.state in
    let e = Ran h r.count in
    let state : n.state ≡ after s e = ap (λ (x : Machine). x.state) r.same in
    let few = r.within in
    let row = row-shown s h r.count (λ i some less. takes-wants (ran s h i) h ∙ r.row i some less) in
    let most = greatest s h r.count (omega (arith, few)) row
    (λ less. ap (λ (x : State). can_join x h) (sym (state ∙ after-Ran s h r.count)) ∙ ap (λ b. can_go n.state h && not b) (takes-wants n.state h) ∙ r.stops less) in
    record {
      entries = e ∷ [];
      made = record {
        follows = ap (λ (x : Machine). x.history) r.same;
        reaches = state;
        nearer = λ going kept. entry_nearer start m n e can due r.legal (ran_some s h r.count r.legal) state;
      };
      is = turn-of s w h e [] due is (ran-begins s h r.count most);
    }

pub called_turn : (start : State) (w h : ℕ) (m n : Machine) → CanTurn start m → is_due m.state ≡ false → chosen m.state w ≡ Some h → CallsOn h m n → TakesTurn w m n
called_turn start w h m n can due is r =
    let s = m.state in
    let e = Called h r.call in
    let state : n.state ≡ after s e = ap (λ (x : Machine). x.state) r.same in
    record {
      entries = e ∷ [];
      made = record {
        follows = ap (λ (x : Machine). x.history) r.same;
        reaches = state;
        nearer = λ going kept. entry_nearer start m n e can due r.legal (called_some h r.call) state;
      };
      is = turn-of s w h e [] due is (and_from _ true (and_from _ _ (eq-eqb h h refl) (called_apart h r.call)) refl);
    }

pub moved_turn : (start : State) (w h : ℕ) (m n : Machine) (act : StateAct) → CanTurn start m → is_due m.state ≡ false → chosen m.state w ≡ Some h → Moves h 64 m act n → TakesTurn w m n
moved_turn start w h m n (Ordinary t) can due is moves = ran_turn start w h m n can due is moves
moved_turn start w h m n (Fault name) can due is moves = absurd moves
moved_turn start w h m n (Request way port asked place) can due is moves = called_turn start w h m n can due is moves
moved_turn start w h m n (Arrival point) can due is moves = absurd moves
moved_turn start w h m n (End code) can due is moves = absurd moves
moved_turn start w h m n Absent can due is moves = absurd moves

no_more : {A : Type 0} (x : Ending) → ◌≡◌ {A = Option Ending} (Some x) None → A
no_more x e = absurd (cc e)

pub ended_turn : (w h : ℕ) (x : Ending) (m n : Machine) → (is_stuck m.state ≡ false → chosen m.state w ≡ Some h)
    → ((is_due m.state ≡ true) ⊎ ((is_due m.state ≡ false) × (ends_hart h x ≡ true))) → EndsBy x m n → TakesTurn w m n
ended_turn w h x m n is answer r =
    let s = m.state in
    let e = Ended x in
    let state : n.state ≡ after s e = ap (λ (y : Machine). y.state) r.same in
    record {
      entries = e ∷ [];
      made = record {
        follows = ap (λ (y : Machine). y.history) r.same;
        reaches = state;
        nearer = λ going kept. no_more x (sym (ap (λ (t : State). t.ending) (state ∙ after-Ended s x)) ∙ going);
      };
      is = elim answer [
        | inl due ↦ turn-due s w x due
        | inr own ↦ turn-of s w h e [] own.0 (is (unstuck s own.0).1) (and_from _ true own.1 refl)
      ];
    }

pub call_turn : (w h : ℕ) (m n : Machine) → is_due m.state ≡ false → chosen m.state w ≡ Some h → MakesTurn h m.history m.state n → TakesTurn w m n
call_turn w h m n due is turn =
    record {
      entries = turn.first ∷ turn.rest;
      made = turn.made;
      is = turn-of m.state w h turn.first turn.rest due is turn.is;
    }
