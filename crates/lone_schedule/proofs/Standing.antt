-- Turns one behind the other.
use Rattle.std.proofs.Common.{◌≡◌, ◌⊎◌, inl, inr, ℕ, ◌+◌, ◌<◌, Bool, true, false, not, ◌&&◌, ◌||◌, if◌then◌else◌, [], ◌∷◌, ◌++◌, length, Option, Some, None, is_none, refl, ap, sym, ◌∙◌, subst, arith}
use Rattle.std.proofs.lemmas.Bool.{both_ways, not-true}
use Rattle.std.proofs.lemmas.List.{append_assoc, append-nil, length-append}
use Rattle.rand_pcg.specs.Lcg.{Lcg}
use Rattle.guest_words.specs.declared.ending.Ending.{Ending}
use Rattle.guest_words.specs.State.{State}
use Rattle.run_history.specs.After.{state_after}
use Rattle.run_history.specs.Quiet.{is_quiet}
use Rattle.run_history.proofs.Ands.{and_left, and_right}
use Rattle.run_history.proofs.Appends.{state_after-append}
use Rattle.run_history.proofs.SlotCount.{state_after_count}
use Rattle.machine_core.specs.Machine.{IsAsTold, Machine}
use Rattle.lone_schedule.specs.Ahead.{turns_ahead}
use Rattle.lone_schedule.specs.Drives.{turns_left, CanTurn, GivesUp, RunsAlone, Stands, TakesTurn}
use Rattle.lone_schedule.specs.Lone.{are_turns, joined}
use Rattle.lone_schedule.specs.Turns.{is_over, is_turn}
use Rattle.seed_words.specs.Words.{word, words_at}
use Rattle.lone_schedule.proofs.TurnLaws.{joined-push, turns-push}

no_turns : (s : State) (seed : ℕ) → are_turns s seed 0 [] ≡ true
unfolding are_turns
no_turns s seed = refl

pub stands_first : (seed : ℕ) (m : Machine) (words : Lcg) → words ≡ words_at seed 0 → Stands seed m m words
stands_first seed m words is = record {
  turns = [];
  follows = sym (append-nil m.history);
  reaches = refl;
  are = no_turns m.state seed;
  next = λ kept. is;
}

pub stands_next : (start : State) (seed w : ℕ) (from m n : Machine) (words later : Lcg) → CanTurn start m → Stands seed from m words
    → ((seed drawn : ℕ) → words ≡ words_at seed drawn → w ≡ word seed drawn)
    → ((seed drawn : ℕ) → words ≡ words_at seed drawn → later ≡ words_at seed (drawn + 1))
    → GivesUp m n ⊎ TakesTurn w m n → Stands seed from n later
stands_next start seed w from m n words later can st value next (inl given) = record {
  turns = st.turns;
  follows = given.follows ∙ st.follows;
  reaches = given.reaches ∙ st.reaches;
  are = st.are;
  next = λ kept. absurd (both_ways n.abandoned kept given.abandoned);
}
stands_next start seed w from m n words later can st value next (inr turn) =
    let ts = st.turns in
    let t = turn.entries in
    let end = state_after from.state (joined ts) in
    let at = st.next can.kept in
    let over : is_over end ≡ true = ap (λ b. b || not (is_none end.ending)) (ap is_quiet (sym st.reaches) ∙ can.told.calm can.going can.kept) in
    let whole : 0 + length ts ≡ length ts = omega arith in
    let is : is_turn end (word seed (0 + length ts)) t ≡ true =
    ap (λ k. is_turn end (word seed k) t) whole
    ∙ ap (λ (x : State). is_turn x (word seed (length ts)) t) (sym st.reaches)
    ∙ ap (λ k. is_turn m.state k t) (sym (value seed (length ts) at)) ∙ turn.is in
    record {
      turns = ts ++ t ∷ [];
      follows = turn.made.follows ∙ ap (λ es. es ++ t) st.follows ∙ append_assoc from.history (joined ts) t
          ∙ ap (λ es. from.history ++ es) (sym (joined-push ts t));
      reaches = turn.made.reaches ∙ ap (λ (x : State). state_after x t) st.reaches ∙ sym (state_after-append from.state (joined ts) t)
          ∙ ap (state_after from.state) (sym (joined-push ts t));
      are = turns-push from.state seed 0 ts t st.are over is;
      next = λ kept. next seed (length ts) at ∙ ap (words_at seed) (sym (length-append ts (t ∷ [])));
    }

left_by : (b : Bool) (o : Option Ending) (k l : ℕ) → (o ≡ None → b ≡ false → k < l) → (if b || not (is_none o) then 0 else k + 1) < l + 1
left_by true o k l less = omega arith
left_by false None k l less = let below = less refl refl in omega (arith, below)
left_by false (Some x) k l less = omega arith

left_now : (start : State) (m : Machine) → CanTurn start m → turns_left m ≡ turns_ahead m.state + 1
left_now start m can =
    ap (λ b. if b || not (is_none m.state.ending) then 0 else turns_ahead m.state + 1) can.kept
    ∙ ap (λ o. if not (is_none o) then 0 else turns_ahead m.state + 1) can.going

nearer_of : (w : ℕ) (m n : Machine) → GivesUp m n ⊎ TakesTurn w m n → n.state.ending ≡ None → n.abandoned ≡ false → turns_ahead n.state < turns_ahead m.state
nearer_of w m n (inl given) going kept = absurd (both_ways n.abandoned kept given.abandoned)
nearer_of w m n (inr turn) going kept = turn.made.nearer going kept

pub left_less : (start : State) (w : ℕ) (m n : Machine) → CanTurn start m → GivesUp m n ⊎ TakesTurn w m n → turns_left n < turns_left m
left_less start w m n can turn =
    subst (λ k. turns_left n < k) (sym (left_now start m can))
    (left_by n.abandoned n.state.ending (turns_ahead n.state) (turns_ahead m.state) (nearer_of w m n turn))

pub slots_stay : (w : ℕ) (m n : Machine) → 0 < length m.state.slots → GivesUp m n ⊎ TakesTurn w m n → 0 < length n.state.slots
slots_stay w m n some (inl given) = subst (λ (s : State). 0 < length s.slots) (sym given.reaches) some
slots_stay w m n some (inr turn) =
    subst (λ k. 0 < k) (sym (ap (λ (s : State). length s.slots) turn.made.reaches ∙ state_after_count m.state turn.entries)) some

pub runs_alone : (seed : ℕ) (from m : Machine) (words : Lcg) → Stands seed from m words → RunsAlone seed from m
runs_alone seed from m words st = record {
  entries = joined st.turns;
  follows = st.follows;
  lone = record { turns = st.turns; parts = refl; are = st.are };
}

-- a machine that goes on can make a turn
pub can_by : (start : State) (m : Machine) → (is_none m.state.ending && not m.abandoned) ≡ true → 0 < length m.state.slots → IsAsTold start m → CanTurn start m
can_by start m is slots told = record {
  going = none-is m.state.ending (and_left _ _ is);
  kept = not-true m.abandoned (and_right (is_none m.state.ending) _ is);
  slots = slots;
  told = told;
}
  where
    none-is : (o : Option Ending) → is_none o ≡ true → o ≡ None
    none-is None is = refl
    none-is (Some x) is = cc

-- and one that doesn't has ended, or isn't to go on
pub over_by : (m : Machine) → (is_none m.state.ending && not m.abandoned) ≡ false → m.state.ending ≡ None → m.abandoned ≡ true
over_by m is none = by m.abandoned (sym (ap (λ o. is_none o && not m.abandoned) none) ∙ is)
  where
    by : (b : Bool) → (true && not b) ≡ false → b ≡ true
    by true is = refl
    by false is = cc
