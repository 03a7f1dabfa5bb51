-- The kinds of step on TURN, which take the slot and give it back, keep the rule.
use Rattle.std.proofs.Common.{◌≡◌, ◌≢◌, ℕ, ◌+◌, ◌%◌, ◌≤◌, Bool, List, [], ◌∷◌, length, get_or, set, sym, refl, ap, ◌∙◌, subst, arith, length-set, get_or-set_same, ⊎_elim, Option, Some, IsTrue}
use Rattle.std.proofs.lemmas.List.{get_or-set_other}
use native.Mathlib.Decide.{ℕ_discrete}
use mathlib.Core.Option.{none, some}
use mathlib.Core.Option as maybe
use lib.ListN.{get_elem?}
use Rattle.atomic_table.specs.Table.{State, Me, Act, step, keeps, takes, gives, homes_after, carried_after, put_back, rest, Valid, stepped, Allows}
use Rattle.atomic_table.proofs.Lists.{at_set}
use Rattle.std.specs.Int.Bits.{bit_or}
use Rattle.stop_gate.specs.declared.held.Held.{Ghosts as Held}
use Rattle.stop_gate.specs.declared.view.View.{View}
use Rattle.stop_gate.specs.declared.view.Place.{Place}
use Rattle.stop_gate.specs.declared.view.Place.TheVariants.{Alone}
use Rattle.stop_gate.specs.Words.{length_in, over_bit, as_out}
use Rattle.stop_gate.specs.Places.{is_counted, is_stopping, is_inside, is_alone, has_turn, count_at}
use Rattle.stop_gate.specs.GateRule.{Knows, AtHome, GateRule}
use Rattle.stop_gate.specs.Views.{moved, took, gave, turning}
use Rattle.stop_gate.specs.Steps.{Stays, MovesOut, MovesIn, Takes, Gives}
use Rattle.stop_gate.proofs.Words.{or_one_even, or_one_odd, length_next, over_next}
use Rattle.stop_gate.proofs.Sums.{sum_by-set, sum_by-here}
use Rattle.stop_gate.proofs.PlaceFacts.{weight, weighs, IsAlike, alike, turning_alike, settled_alike, settled_turns, is_idle, turners_inside}
use Rattle.stop_gate.proofs.Keeps.{step_on}

set_one : {A : Type 0} (l : List A) (a : A) → length l ≡ 1 → set l 0 a ≡ a ∷ []
set_one [] a e = absurd (omega arith)
set_one (x ∷ []) a e = refl
set_one (x ∷ y ∷ l) a e = absurd (omega arith)

module _ {C O : Type 0} (held : Held C O) (of : O) where
  abbrev S : Type 0
  S = State (Option C) (View O)

  abbrev Rule : S → Type 0
  Rule = GateRule held of

  -- a step on TURN, after which the pass is where it was for all but the turn
  turn_keeps : (s : S) (r : Rule s) (id n' : ℕ) (v w : View O) (c : List (ℕ × Option C)) (a : Act (Option C)) → get_elem? s.views id ≡ some v → IsAlike v.at w.at → w.spare ≡ v.spare
      → n' % 2 ≡ count_at has_turn (set s.views id w)
      → length (homes_after s.homes c a) ≡ 1
      → (n' % 2 ≡ 0 → AtHome held of n' (homes_after s.homes c a))
      → length_in (get_or s.words 1 0) ≤ length_in n'
      → (IsTrue (over_bit (get_or s.words 1 0)) → IsTrue (over_bit n'))
      → Knows of n' w
      → ((j : ℕ) (u : View O) → get_elem? s.views j ≡ some u → get_elem? (set s.views id w) j ≡ some u → j ≢ id → IsTrue (has_turn u.at) → (u.taken ≡ length_in n') × (u.over ≡ over_bit n'))
      → Rule (stepped s 1 n' id c w a)
  turn_keeps s r id n' v w c a here same spare turn deep home longer over mine others =
      let wide = r.two_words in
      let zeroth : get_or (set s.words 1 n') 0 0 ≡ get_or s.words 0 0 = get_or-set_other s.words 1 0 n' 0 (λ e. omega arith) in
      let first : get_or (set s.words 1 n') 1 0 ≡ n' = get_or-set_same s.words 1 n' 0 (omega arith) in
      let sum = λ (p : Place → Bool). sum_by-set (weighs p) s.views id v w here in
      let spares = sum_by-set (λ (u : View O). u.spare) s.views id v w here in
      let low = r.low_part in
      let high = r.stop_bit in
      let one = r.one_stops in
      let room = r.room in
      let long = length-set s.views id w in
      let counted = same.counted in
      let stopping = same.stopping in
      let inside = same.inside in
      let alone = same.alone in
      record {
        two_words = length-set s.words 1 n' ∙ wide;
        one_slot = deep;
        low_part = omega (arith, sum is_counted);
        stop_bit = omega (arith, sum is_stopping);
        one_stops = omega (arith, sum is_stopping);
        alone = λ some_alone. let l = r.alone (omega (arith, sum is_alone)) in omega (arith, sum is_inside);
        one_turns = ap (λ (k : ℕ). k % 2) first ∙ turn;
        home = λ even. subst (λ (k : ℕ). AtHome held of k (homes_after s.homes c a)) (sym first) (home (sym (ap (λ (k : ℕ). k % 2) first) ∙ even));
        knows = λ j u at_j. subst (λ (k : ℕ). Knows of k u) (sym first)
            (⊎_elim (λ h. subst (λ (x : View O). Knows of n' x) h.1 mine)
            (λ h. let k = r.knows j u h.1 in let seen = k.seen in record { seen = omega arith; over = λ e. over (k.over e); taken = others j u h.1 at_j h.0; origin = k.origin })
            (at_set s.views id j w u at_j));
        room = omega arith;
      }

  -- nobody has the turn while a pass is alone without it
  even_alone : (s : S) (r : Rule s) (id : ℕ) (v : View O) → get_elem? s.views id ≡ some v → v.at ≡ Alone → get_or s.words 1 0 % 2 ≡ 0
  even_alone s r id v here alone =
      let l = r.alone (let h = sum_by-here (weighs is_alone) s.views id v here in let is = ap (λ a. weight (is_alone a)) alone in omega arith) in
      let one = r.one_stops in
      let turn = r.one_turns in
      let h = sum_by-here (weighs is_idle) s.views id v here in
      let is = ap (λ a. weight (is_idle a)) alone in
      omega (arith, turners_inside s.views)

  -- take, by cases on whether the value is at home
  taken_at : (slots id : ℕ) (me : Me (Option C) (View O)) → weight (has_turn me.0.at) ≡ 0 → weight (has_turn (turning me.0.at)) ≡ 1 → (s : S) (r : Rule s) → get_elem? s.views id ≡ some me.0
      → Dec (get_or s.words 1 0 % 2 ≡ 0)
      → (w : View O) × (a : Act (Option C)) × Valid s.homes me.1 a × Rule (stepped s 1 (bit_or (get_or s.words 1 0) 1) id me.1 w a)
      × Takes held (step slots 1 1 0 none) me (get_or s.words 1 0) (w, carried_after me.1 a)
  taken_at slots id me no_turn one_turn s r here (yes even) =
      let n : ℕ = get_or s.words 1 0 in
      let v : View O = me.0 in
      let w : View O = took v n in
      let h = r.home even in
      let c : C = h.value in
      let y : Option C = Some c in
      let bits = or_one_even n even in
      let turn = r.one_turns in
      let t = sum_by-set (weighs has_turn) s.views id v w here in
      let known = r.knows id v here in
      let longer = length_next n even in
      let top = over_next n even in
      let kept = subst (λ (k : ℕ). Rule (stepped s 1 k id me.1 w (takes 0 y))) (sym bits)
      (turn_keeps s r id (n + 1) v w me.1 (takes 0 y) here (turning_alike v.at) refl
      (omega arith)
      (length-set s.homes 0 none ∙ r.one_slot)
      (λ even_too. absurd (omega arith))
      (omega arith)
      (λ e. top ∙ e)
      (record { seen = omega arith; over = λ e. top ∙ e; taken = λ _. (sym longer, sym top); origin = known.origin })
      (λ j u at at_set _ one. absurd (let less = sum_by-here (weighs has_turn) s.views j u at in let is = ap weight one in omega arith))) in (
        w,
        takes 0 y,
        ap (λ (hs : List (maybe.Option (Option C))). get_elem? hs 0) h.lies,
        kept,
        record {
          even = λ _. record {
            value = c;
            told = h.told;
            origin = h.origin ∙ sym known.origin;
            seen = known.seen;
            over = known.over;
            after = refl;
            step = step_on held of s r 1 id (bit_or n 1) v w me.1 (takes 0 y) as_out (MovesOut c) here refl (bits ∙ omega arith)
                (h.lies, ap (λ (hs : List (maybe.Option (Option C))). set hs 0 none) h.lies) kept;
          };
          odd = λ odd. absurd (omega arith);
          looks = λ odd. absurd (omega arith);
          alone = λ _. even;
        },
      )
  taken_at slots id me no_turn one_turn s r here (no odd) =
      let n : ℕ = get_or s.words 1 0 in
      let v : View O = me.0 in
      let w : View O = moved v v.at n in
      let is_odd : n % 2 ≡ 1 = omega arith in
      let bits = or_one_odd n is_odd in
      let turn = r.one_turns in
      let t = sum_by-set (weighs has_turn) s.views id v w here in
      let known = r.knows id v here in
      let old : Knows of n w = record { seen = known.seen; over = known.over; taken = known.taken; origin = known.origin } in
      let kept = subst (λ (k : ℕ). Rule (stepped s 1 k id me.1 w keeps)) (sym bits)
      (turn_keeps s r id n v w me.1 keeps here (alike v.at) refl
      (omega arith) r.one_slot (λ even_too. absurd (omega arith)) (omega arith) (λ e. e) old (λ j u at _ _ one. (r.knows j u at).taken one)) in (
        w,
        keeps,
        tt,
        kept,
        record {
          even = λ even. absurd (odd even);
          odd = λ _. refl;
          looks = λ _. step_on held of s r 1 id (bit_or n 1) v w me.1 keeps as_out Stays here refl (bits ∙ omega arith) refl kept;
          alone = λ alone. even_alone s r id v here alone;
        },
      )

  pub takes_turn : (slots id : ℕ) (me : Me (Option C) (View O)) → weight (has_turn me.0.at) ≡ 0 → weight (has_turn (turning me.0.at)) ≡ 1
      → Allows Rule slots id me 1 (λ n. bit_or n 1) (Takes held (step slots 1 1 0 none) me)
  takes_turn slots id me no_turn one_turn s r _ here small = taken_at slots id me no_turn one_turn s r here (ℕ_discrete (get_or s.words 1 0 % 2) 0)

  -- give
  pub gives_turn : (slots id new : ℕ) (me : Me (Option C) (View O)) (c : C) → IsTrue (has_turn me.0.at) → me.1 ≡ (0, Some c) ∷ []
      → new % 2 ≡ 0 → held.length c ≡ length_in new → held.over c ≡ over_bit new → me.0.taken ≤ held.length c → (IsTrue me.0.over → IsTrue (held.over c)) → held.origin c ≡ me.0.origin
      → Allows Rule slots id me 1 (λ _. new) (Gives held (step slots 1 new 0 none) me)
  gives_turn slots id new me c has holds even long is_over_new longer over_too same s r _ here small =
      let n : ℕ = get_or s.words 1 0 in
      let v : View O = me.0 in
      let w : View O = gave v new n in
      let one_turn = ap weight has in
      let known = r.knows id v here in
      let was = known.taken has in
      let was_length = was.0 in
      let turn = r.one_turns in
      let t = sum_by-set (weighs has_turn) s.views id v w here in
      let mine = sum_by-here (weighs has_turn) s.views id v here in
      let none_left = settled_turns v.at in
      let lies : (d : C) → me.1 ≡ (0, Some d) ∷ [] → put_back s.homes me.1 ≡ some (Some d) ∷ [] =
      λ d e. ap (λ (cs : List (ℕ × Option C)). put_back s.homes cs) e ∙ set_one s.homes (some (Some d)) r.one_slot in
      let kept = turn_keeps s r id new v w me.1 gives here (settled_alike v.at) refl
      (omega arith)
      (ap length (lies c holds))
      (λ _. record { value = c; lies = lies c holds; told = (long, is_over_new); origin = same ∙ known.origin })
      (omega arith)
      (λ e. sym is_over_new ∙ over_too (was.1 ∙ e))
      (record { seen = omega arith; over = λ e. e; taken = λ one. absurd (let is = ap weight one in omega arith); origin = known.origin })
      (λ j u at at_set _ one. absurd (let less = sum_by-here (weighs has_turn) (set s.views id w) j u at_set in let is = ap weight one in omega arith)) in (
        w,
        gives,
        tt,
        kept,
        record {
          after = ap (λ (cs : List (ℕ × Option C)). (w, cs)) (ap rest holds);
          odd = omega arith;
          taken = sym was.0;
          was_over = sym was.1;
          step = λ d e. step_on held of s r 1 id new v w me.1 gives (λ _. new) (MovesIn d) here refl refl (lies d e) kept;
        },
      )
