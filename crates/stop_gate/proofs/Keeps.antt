-- How a step keeps the rule: what it owes where it is on GATE, where it makes a pass, and at the start.
use Rattle.std.proofs.Common.{◌≡◌, ℕ, zero, suc, ◌+◌, ◌-◌, ◌*◌, ◌/◌, ◌%◌, ◌^◌, ◌<◌, ◌≤◌, Bool, List, [], ◌∷◌, get_or, set, sym, refl, ap, ◌∙◌, subst, arith, length-set, length-append, get_or-set_same, ⊎_elim, Option, Some}
use Rattle.std.proofs.lemmas.List.{get_or-set_other}
use Rattle.std.proofs.lemmas.List.Sums.{sum_by_push}
use mathlib.Core.Option.{some, some-injective, some-ne-none}
use lib.ListN.{get_elem?}
use Rattle.atomic_table.specs.Table.{State, Act, keeps, stepped, homes_after, Splits, opening}
use Rattle.atomic_table.proofs.Lists.{at_set, at_snoc}
use Rattle.stop_gate.specs.declared.held.Held.{Ghosts as Held}
use Rattle.stop_gate.specs.declared.view.View.{View}
use Rattle.stop_gate.specs.declared.view.Place.{Place}
use Rattle.stop_gate.specs.declared.view.Place.TheVariants.{Out}
use Rattle.stop_gate.specs.Words.{length_in, over_bit}
use Rattle.stop_gate.specs.Places.{is_counted, is_stopping, is_inside, is_alone, has_turn, count_at}
use Rattle.stop_gate.specs.GateRule.{Slots, Knows, AtHome, GateRule}
use Rattle.stop_gate.specs.Views.{moved, with_less, another, new_view}
use Rattle.stop_gate.specs.Steps.{StepOn}
use Rattle.stop_gate.proofs.Sums.{sum_by-set}
use Rattle.stop_gate.proofs.PlaceFacts.{weight, weighs, counted_few}

module _ {C O : Type 0} (held : Held C O) (of : O) where
  abbrev Rule : State (Option C) (View O) → Type 0
  Rule = GateRule held of

  -- no more passes count than there can be
  pub few : (s : State (Option C) (View O)) → Rule s → count_at is_counted s.views ≤ 64
  few s r = let room = r.room in omega (arith, counted_few s.views)

  -- GATE as one number
  pub gate_is : (s : State (Option C) (View O)) → Rule s → get_or s.words 0 0 ≡ count_at is_counted s.views + 2 ^ 63 * count_at is_stopping s.views
  gate_is s r = let low = r.low_part in let high = r.stop_bit in omega arith

  -- a step that keeps the rule is one that contracts speak of
  pub step_on : (s : State (Option C) (View O)) (r : Rule s) (word id n' : ℕ) (v w : View O) (c : List (ℕ × Option C)) (a : Act (Option C)) (next : ℕ → ℕ)
      (slot : Slots C → Slots C → Type 0)
      → get_elem? s.views id ≡ some v → get_or s.words word 0 ≡ w.last → n' ≡ next w.last → slot s.homes (homes_after s.homes c a) → Rule (stepped s word n' id c w a)
      → StepOn held word next slot v w
  step_on s r word id n' v w c a next slot here found is moves kept =
      let origin = (r.knows id v here).origin in
      record {
        before = s;
        after = stepped s word n' id c w a;
        rule_before = subst (λ (o : O). GateRule held o s) (sym origin) r;
        rule_after = subst (λ (o : O). GateRule held o (stepped s word n' id c w a)) (sym origin) kept;
        place = id;
        was = here;
        views = refl;
        found = found;
        words = ap (λ (k : ℕ). set s.words word k) is;
        slots = moves;
      }

  -- the next view knows what the last one knew
  still : (turn n : ℕ) (v : View O) (at : Place) → weight (has_turn at) ≡ 0 → Knows of turn v → Knows of turn (moved v at n)
  still turn n v at none k = record { seen = k.seen; over = k.over; taken = λ one. absurd (let is = ap weight one in omega arith); origin = k.origin }

  -- a step on GATE by a pass without the turn
  pub gate_keeps : (s : State (Option C) (View O)) (r : Rule s) (id n n' : ℕ) (v : View O) (at : Place) (c : List (ℕ × Option C)) → get_elem? s.views id ≡ some v
      → weight (has_turn v.at) ≡ 0 → weight (has_turn at) ≡ 0
      → n' ≡ count_at is_counted (set s.views id (moved v at n)) + 2 ^ 63 * count_at is_stopping (set s.views id (moved v at n))
      → count_at is_stopping (set s.views id (moved v at n)) ≤ 1
      → (0 < count_at is_alone (set s.views id (moved v at n)) → count_at is_inside (set s.views id (moved v at n)) ≡ 0)
      → Rule (stepped s 0 n' id c (moved v at n) keeps)
  gate_keeps s r id n n' v at c here was is gate one alone =
      let w : View O = moved v at n in
      let wide = r.two_words in
      let zeroth : get_or (set s.words 0 n') 0 0 ≡ n' = get_or-set_same s.words 0 n' 0 (omega arith) in
      let first : get_or (set s.words 0 n') 1 0 ≡ get_or s.words 1 0 = get_or-set_other s.words 0 1 n' 0 (λ e. omega arith) in
      let t = sum_by-set (weighs has_turn) s.views id v w here in
      let p = sum_by-set (λ (u : View O). u.spare) s.views id v w here in
      let turn = r.one_turns in
      let room = r.room in
      let long = length-set s.views id w in
      let less = counted_few (set s.views id w) in
      record {
        two_words = length-set s.words 0 n' ∙ wide;
        one_slot = r.one_slot;
        low_part = ap (λ (k : ℕ). k % 2 ^ 63) zeroth ∙ omega arith;
        stop_bit = ap (λ (k : ℕ). k / 2 ^ 63) zeroth ∙ omega arith;
        one_stops = one;
        alone = alone;
        one_turns = omega arith;
        home = λ even. subst (λ (k : ℕ). AtHome held of k s.homes) (sym first) (r.home (sym (ap (λ (k : ℕ). k % 2) first) ∙ even));
        knows = λ j u at_j. subst (λ (k : ℕ). Knows of k u) (sym first)
            (⊎_elim (λ h. subst (λ (x : View O). Knows of (get_or s.words 1 0) x) h.1 (still (get_or s.words 1 0) n v at is (r.knows id v here))) (λ h. r.knows j u h.1) (at_set s.views id j w u at_j));
        room = omega arith;
      }

  -- a pass with spare makes another
  pub splits : (id : ℕ) (v : View O) → v.at ≡ Out → 0 < v.spare → Splits Rule id v (with_less v) (another v)
  splits id v out some_spare s r here =
      let w : View O = with_less v in
      let x : View O = another v in
      let views : List (View O) = set s.views id w in
      let sum = λ (p : Place → Bool). sum_by-set (weighs p) s.views id v w here in
      let push = λ (p : Place → Bool). sum_by_push (weighs p) views x in
      let one = r.one_stops in
      let room = r.room in
      let spare = sum_by-set (λ (u : View O). u.spare) s.views id v w here in
      let spare_push = sum_by_push (λ (u : View O). u.spare) views x in
      let long = length-set s.views id w in
      let longer = length-append views (x ∷ []) in
      let known = r.knows id v here in
      let less : Knows of (get_or s.words 1 0) w = record { seen = known.seen; over = known.over; taken = known.taken; origin = known.origin } in
      record {
        two_words = r.two_words;
        one_slot = r.one_slot;
        low_part = r.low_part ∙ omega (arith, sum is_counted, push is_counted);
        stop_bit = r.stop_bit ∙ omega (arith, sum is_stopping, push is_stopping);
        one_stops = omega (arith, sum is_stopping, push is_stopping);
        alone = λ some_alone. let was = r.alone (omega (arith, sum is_alone, push is_alone)) in omega (arith, sum is_inside, push is_inside);
        one_turns = r.one_turns ∙ omega (arith, sum has_turn, push has_turn);
        home = r.home;
        knows = λ j u at_j. ⊎_elim
            (λ old. ⊎_elim (λ h. subst (λ (y : View O). Knows of (get_or s.words 1 0) y) h.1 less) (λ h. r.knows j u h.1) (at_set s.views id j w u old))
            (λ new. subst (λ (y : View O). Knows of (get_or s.words 1 0) y) new (record { seen = omega arith; over = λ e. absurd (cc); taken = λ e. absurd (cc); origin = known.origin }))
            (at_snoc views x u j at_j);
        room = omega arith;
      }

  only : (v u : View O) (j : ℕ) → get_elem? (v ∷ []) j ≡ some u → v ≡ u
  only v u zero e = some-injective v u e
  only v u (suc j) e = absurd (some-ne-none u (sym e))

  -- the rule at the start
  pub opens : (passes word : ℕ) (c : C) → 0 < passes → passes ≤ 64 → word % 2 ≡ 0 → held.length c ≡ length_in word → held.over c ≡ over_bit word → held.origin c ≡ of
      → Rule (opening (0 ∷ word ∷ []) (Some c ∷ []) (new_view (passes - 1) of))
  opens passes word c some_pass few_passes even long over same = record {
    two_words = refl;
    one_slot = refl;
    low_part = refl;
    stop_bit = refl;
    one_stops = omega arith;
    alone = λ none. absurd (omega arith);
    one_turns = even;
    home = λ _. record { value = c; lies = refl; told = (long, over); origin = same };
    knows = λ j u at_j. subst (λ (y : View O). Knows of word y) (only (new_view (passes - 1) of) u j at_j)
        (record { seen = omega arith; over = λ e. absurd (cc); taken = λ e. absurd (cc); origin = refl });
    room = omega arith;
  }
