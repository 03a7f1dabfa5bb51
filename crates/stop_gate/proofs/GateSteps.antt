-- The kinds of step on GATE keep the rule.
use Rattle.std.proofs.Common.{◌≡◌, ℕ, ◌+◌, ◌-◌, ◌%◌, ◌^◌, ◌<◌, Bool, true, false, cond, eqb, get_or, set, refl, ap, arith, Option}
use mathlib.Core.Option.{none, some}
use lib.ListN.{get_elem?}
use Rattle.std.proofs.lemmas.Bool.{eqb-true}
use Rattle.std.specs.Int.Bits.{bit_or, bit_and}
use Rattle.atomic_table.specs.Table.{State, Me, step, keeps, stepped, Allows}
use Rattle.stop_gate.specs.declared.held.Held.{Ghosts as Held}
use Rattle.stop_gate.specs.declared.view.View.{View}
use Rattle.stop_gate.specs.declared.view.Place.{Place}
use Rattle.stop_gate.specs.declared.view.Place.TheVariants.{Out, Backing, Inside, Stopping, Alone}
use Rattle.stop_gate.specs.Words.{low_part, stop_bit, with_stop}
use Rattle.stop_gate.specs.Places.{is_counted, is_stopping, is_inside, is_alone, has_turn}
use Rattle.stop_gate.specs.GateRule.{GateRule}
use Rattle.stop_gate.specs.Views.{moved}
use Rattle.stop_gate.specs.Steps.{Stays, Enters, Leaves, Raises, Seizes, Lowers}
use Rattle.stop_gate.proofs.Words.{stop_true, stop_false, stop_set, or_stop, and_low}
use Rattle.stop_gate.proofs.Sums.{sum_by-set, sum_by-here}
use Rattle.stop_gate.proofs.PlaceFacts.{weight, weighs, alone_stopping, inside_counted}
use Rattle.stop_gate.proofs.Keeps.{few, gate_is, step_on, gate_keeps}

module _ {C O : Type 0} (held : Held C O) (of : O) where
  abbrev S : Type 0
  S = State (Option C) (View O)

  abbrev Rule : S → Type 0
  Rule = GateRule held of

  -- enter, by cases on the stop bit of the word found
  enter_at : (s : S) (r : Rule s) (id : ℕ) (me : Me (Option C) (View O)) → get_elem? s.views id ≡ some me.0 → me.0.at ≡ Out → (b : Bool) → stop_bit (get_or s.words 0 0) ≡ b
      → Rule (stepped s 0 ((get_or s.words 0 0 + 1) % 2 ^ 64) id me.1 (moved me.0 (cond b Backing Inside) (get_or s.words 0 0)) keeps)
  enter_at s r id me here out true up =
      let n : ℕ = get_or s.words 0 0 in
      let v : View O = me.0 in
      let sum = λ (p : Place → Bool). sum_by-set (weighs p) s.views id v (moved v Backing n) here in
      let was = λ (p : Place → Bool). ap (λ a. weight (p a)) out in
      let gate = gate_is held of s r in
      let one = r.one_stops in
      let most = few held of s r in
      gate_keeps held of s r id n ((n + 1) % 2 ^ 64) v Backing me.1 here (was has_turn) refl
      (omega (arith, sum is_counted, sum is_stopping, was is_counted, was is_stopping))
      (omega (arith, sum is_stopping, was is_stopping))
      (λ some_alone. let l = r.alone (omega (arith, sum is_alone, was is_alone)) in omega (arith, sum is_inside, was is_inside))
  enter_at s r id me here out false down =
      let n : ℕ = get_or s.words 0 0 in
      let v : View O = me.0 in
      let sum = λ (p : Place → Bool). sum_by-set (weighs p) s.views id v (moved v Inside n) here in
      let was = λ (p : Place → Bool). ap (λ a. weight (p a)) out in
      let gate = gate_is held of s r in
      let one = r.one_stops in
      let most = few held of s r in
      let low = stop_false n down in
      gate_keeps held of s r id n ((n + 1) % 2 ^ 64) v Inside me.1 here (was has_turn) refl
      (omega (arith, sum is_counted, sum is_stopping, was is_counted, was is_stopping))
      (omega (arith, sum is_stopping, was is_stopping))
      (λ some_alone. absurd (omega (arith, sum is_alone, was is_alone, alone_stopping s.views)))

  pub enters : (slots id : ℕ) (me : Me (Option C) (View O)) → me.0.at ≡ Out → Allows Rule slots id me 0 (λ n. (n + 1) % 2 ^ 64) (Enters held (step slots 0 1 0 none) me)
  enters slots id me out s r _ here small =
      let n : ℕ = get_or s.words 0 0 in
      let w : View O = moved me.0 (cond (stop_bit n) Backing Inside) n in
      let kept = enter_at s r id me here out (stop_bit n) refl in
      let gate = gate_is held of s r in
      let one = r.one_stops in
      let most = few held of s r in
      (w, keeps, tt, kept, record { after = refl; step = step_on held of s r 0 id ((n + 1) % 2 ^ 64) me.0 w me.1 keeps (λ g. g + 1) Stays here refl (omega arith) refl kept })

  -- back and leave
  pub leaves : (slots id : ℕ) (me : Me (Option C) (View O)) → weight (is_counted me.0.at) ≡ 1 → weight (is_stopping me.0.at) ≡ 0 → weight (is_alone me.0.at) ≡ 0 → weight (has_turn me.0.at) ≡ 0
      → Allows Rule slots id me 0 (λ n. (n + (2 ^ 64 - 1)) % 2 ^ 64) (Leaves held (step slots 0 1 0 none) me)
  leaves slots id me counted no_stop not_alone no_turn s r _ here small =
      let n : ℕ = get_or s.words 0 0 in
      let n' : ℕ = (n + (2 ^ 64 - 1)) % 2 ^ 64 in
      let v : View O = me.0 in
      let w : View O = moved v Out n in
      let sum = λ (p : Place → Bool). sum_by-set (weighs p) s.views id v w here in
      let gate = gate_is held of s r in
      let one = r.one_stops in
      let most = few held of s r in
      let some_count = sum_by-here (weighs is_counted) s.views id v here in
      let kept = gate_keeps held of s r id n n' v Out me.1 here no_turn refl
      (omega (arith, sum is_counted, sum is_stopping))
      (omega (arith, sum is_stopping))
      (λ some_alone. let l = r.alone (omega (arith, sum is_alone)) in omega (arith, sum is_inside)) in
      (w, keeps, tt, kept, record { after = refl; counted = omega arith; step = step_on held of s r 0 id n' v w me.1 keeps (λ g. g - 1) Stays here refl (omega arith) refl kept })

  -- raise, by cases on the stop bit of the word found
  raise_at : (s : S) (r : Rule s) (id : ℕ) (me : Me (Option C) (View O)) → get_elem? s.views id ≡ some me.0 → me.0.at ≡ Out → get_or s.words 0 0 < 2 ^ 64 → (b : Bool) → stop_bit (get_or s.words 0 0) ≡ b
      → Rule (stepped s 0 (bit_or (get_or s.words 0 0) (2 ^ 63)) id me.1 (moved me.0 (cond b Out Stopping) (get_or s.words 0 0)) keeps)
  raise_at s r id me here out small true up =
      let n : ℕ = get_or s.words 0 0 in
      let v : View O = me.0 in
      let sum = λ (p : Place → Bool). sum_by-set (weighs p) s.views id v (moved v Out n) here in
      let was = λ (p : Place → Bool). ap (λ a. weight (p a)) out in
      let gate = gate_is held of s r in
      let one = r.one_stops in
      let bits = or_stop n true up small in
      let high = stop_true n up in
      gate_keeps held of s r id n (bit_or n (2 ^ 63)) v Out me.1 here (was has_turn) refl
      (omega (arith, bits, sum is_counted, sum is_stopping, was is_counted, was is_stopping))
      (omega (arith, sum is_stopping, was is_stopping))
      (λ some_alone. let l = r.alone (omega (arith, sum is_alone, was is_alone)) in omega (arith, sum is_inside, was is_inside))
  raise_at s r id me here out small false down =
      let n : ℕ = get_or s.words 0 0 in
      let v : View O = me.0 in
      let sum = λ (p : Place → Bool). sum_by-set (weighs p) s.views id v (moved v Stopping n) here in
      let was = λ (p : Place → Bool). ap (λ a. weight (p a)) out in
      let gate = gate_is held of s r in
      let one = r.one_stops in
      let bits = or_stop n false down small in
      let low = stop_false n down in
      gate_keeps held of s r id n (bit_or n (2 ^ 63)) v Stopping me.1 here (was has_turn) refl
      (omega (arith, bits, sum is_counted, sum is_stopping, was is_counted, was is_stopping))
      (omega (arith, sum is_stopping, was is_stopping))
      (λ some_alone. let l = r.alone (omega (arith, sum is_alone, was is_alone)) in omega (arith, sum is_inside, was is_inside))

  pub raises : (slots id : ℕ) (me : Me (Option C) (View O)) → me.0.at ≡ Out → Allows Rule slots id me 0 (λ n. bit_or n (2 ^ 63)) (Raises held (step slots 0 (2 ^ 63) 0 none) me)
  raises slots id me out s r _ here small =
      let n : ℕ = get_or s.words 0 0 in
      let w : View O = moved me.0 (cond (stop_bit n) Out Stopping) n in
      let kept = raise_at s r id me here out small (stop_bit n) refl in
      (w, keeps, tt, kept, record { after = refl; step = step_on held of s r 0 id (bit_or n (2 ^ 63)) me.0 w me.1 keeps with_stop Stays here refl (or_stop n (stop_bit n) refl small) refl kept })

  -- seize, by cases on whether a pass counts
  seize_at : (s : S) (r : Rule s) (id : ℕ) (me : Me (Option C) (View O)) → get_elem? s.views id ≡ some me.0 → me.0.at ≡ Stopping → (b : Bool) → eqb (low_part (get_or s.words 0 0)) 0 ≡ b
      → Rule (stepped s 0 (get_or s.words 0 0) id me.1 (moved me.0 (cond b Alone Stopping) (get_or s.words 0 0)) keeps)
  seize_at s r id me here stopping true none_in =
      let n : ℕ = get_or s.words 0 0 in
      let v : View O = me.0 in
      let sum = λ (p : Place → Bool). sum_by-set (weighs p) s.views id v (moved v Alone n) here in
      let was = λ (p : Place → Bool). ap (λ a. weight (p a)) stopping in
      let gate = gate_is held of s r in
      let one = r.one_stops in
      let most = few held of s r in
      let empty = eqb-true (low_part n) 0 none_in in
      gate_keeps held of s r id n n v Alone me.1 here (was has_turn) refl
      (omega (arith, sum is_counted, sum is_stopping, was is_counted, was is_stopping))
      (omega (arith, sum is_stopping, was is_stopping))
      (λ some_alone. omega (arith, sum is_inside, was is_inside, inside_counted s.views))
  seize_at s r id me here stopping false some_in =
      let n : ℕ = get_or s.words 0 0 in
      let v : View O = me.0 in
      let sum = λ (p : Place → Bool). sum_by-set (weighs p) s.views id v (moved v Stopping n) here in
      let was = λ (p : Place → Bool). ap (λ a. weight (p a)) stopping in
      let gate = gate_is held of s r in
      let one = r.one_stops in
      gate_keeps held of s r id n n v Stopping me.1 here (was has_turn) refl
      (omega (arith, sum is_counted, sum is_stopping, was is_counted, was is_stopping))
      (omega (arith, sum is_stopping, was is_stopping))
      (λ some_alone. let l = r.alone (omega (arith, sum is_alone, was is_alone)) in omega (arith, sum is_inside, was is_inside))

  pub seizes : (slots id : ℕ) (me : Me (Option C) (View O)) → me.0.at ≡ Stopping → Allows Rule slots id me 0 (λ n. n) (Seizes held (step slots 0 0 0 none) me)
  seizes slots id me stopping s r _ here small =
      let n : ℕ = get_or s.words 0 0 in
      let w : View O = moved me.0 (cond (eqb (low_part n) 0) Alone Stopping) n in
      let kept = seize_at s r id me here stopping (eqb (low_part n) 0) refl in
      (w, keeps, tt, kept, record { after = refl; step = step_on held of s r 0 id n me.0 w me.1 keeps (λ g. g) Stays here refl refl refl kept })

  -- lower
  pub lowers : (slots id : ℕ) (me : Me (Option C) (View O)) → me.0.at ≡ Alone → Allows Rule slots id me 0 (λ n. bit_and n (2 ^ 63 - 1)) (Lowers held (step slots 0 (2 ^ 63 - 1) 0 none) me)
  lowers slots id me alone s r _ here small =
      let n : ℕ = get_or s.words 0 0 in
      let v : View O = me.0 in
      let w : View O = moved v Out n in
      let sum = λ (p : Place → Bool). sum_by-set (weighs p) s.views id v w here in
      let was = λ (p : Place → Bool). ap (λ a. weight (p a)) alone in
      let gate = gate_is held of s r in
      let one = r.one_stops in
      let most = few held of s r in
      let bits = and_low n in
      let others = alone_stopping (set s.views id w) in
      let mine = sum_by-here (weighs is_stopping) s.views id v here in
      let kept = gate_keeps held of s r id n (bit_and n (2 ^ 63 - 1)) v Out me.1 here (was has_turn) refl
      (omega (arith, bits, sum is_counted, sum is_stopping, was is_counted, was is_stopping))
      (omega (arith, sum is_stopping, was is_stopping))
      (λ some_alone. absurd (omega (arith, sum is_stopping, was is_stopping))) in
      (w, keeps, tt, kept, record { after = refl; stood = stop_set n (omega (arith, was is_stopping)); step = step_on held of s r 0 id (bit_and n (2 ^ 63 - 1)) v w me.1 keeps low_part Stays here refl bits refl kept })
