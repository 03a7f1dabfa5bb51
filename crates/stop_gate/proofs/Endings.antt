-- What is left when a gate is closed.
use Rattle.std.proofs.Common.{subst, ◌≡◌, ℕ, zero, suc, ◌%◌, List, [], ◌∷◌, get_or, sym, refl, ap, ◌∙◌, arith, Option, Some, None, IfSome}
use mathlib.Core.Option.{some, some-injective, some-ne-none}
use mathlib.Core.Option as maybe
use lib.ListN.{get_elem?}
use Rattle.atomic_table.specs.Table.{Final, Seen}
use Rattle.stop_gate.specs.declared.held.Held.{Ghosts as Held}
use Rattle.stop_gate.specs.Passes.{Pass, Identity, GoesOn}
use Rattle.stop_gate.specs.GateRule.{GateRule}
use Rattle.stop_gate.specs.Closing.{Ends}

index_of : (l : List ℕ) (i a : ℕ) → get_elem? l i ≡ some a → get_or l i 0 ≡ a
index_of [] i a e = absurd (some-ne-none a (sym e))
index_of (x ∷ xs) zero a e = some-injective x a e
index_of (x ∷ xs) (suc i) a e = index_of xs i a e

module _ {C O : Type 0} (held : Held C O) where
  -- the two clauses on the answer
  pub record Answers (gate : Identity O) (pass : Pass O) (answer : Option C) : Type 0 where
    pub ended : Ends held gate.origin pass answer
    pub value : IfSome answer (λ value. GoesOn held gate pass value)

  module _ (gate : Identity O) (pass : Pass O) (ws : List ℕ) (xs : List (Option C)) (word : ℕ) where
    abbrev Last : Type 0
    Last = Final (Seen (GateRule held gate.origin) pass.number pass.view) ws xs

    is_turn : (f : Last) → get_elem? ws 1 ≡ some word → get_or f.0.words 1 0 ≡ word
    is_turn f e = ap (λ (l : List ℕ). get_or l 1 0) f.2 ∙ index_of ws 1 word e

    away : Last → get_elem? ws 1 ≡ some word → word % 2 ≡ 1 → Answers gate pass None
    away f e odd =
        let t = is_turn f e in
        record { ended = record { last = f.0; rule = f.1.0; known = f.1.1; out = λ _. refl; home = λ even. absurd (omega arith) }; value = tt }

    home : Last → (r : Option C) → get_elem? ws 1 ≡ some word → get_elem? xs 0 ≡ some r → word % 2 ≡ 0 → Answers gate pass r
    home f r e x even =
        let t = is_turn f e in
        let rule = f.1.0 in
        let h = rule.home (ap (λ (k : ℕ). k % 2) t ∙ even) in
        let known = rule.knows pass.number pass.view f.1.1 in
        let long = h.told.0 in
        let seen = known.seen in
        let there = f.4 0 (Some h.value) (ap (λ (l : List (maybe.Option (Option C))). get_elem? l 0) h.lies) in
        let is : r ≡ Some h.value = some-injective r (Some h.value) (sym x ∙ there) in
        let ended : Ends held gate.origin pass r = record { last = f.0; rule = rule; known = f.1.1; out = λ odd. absurd (omega arith); home = λ _. (h.value, is, h.lies, h.told) } in
        let goes_on : GoesOn held gate pass h.value = record { longer = omega arith; stays_over = λ o. h.told.1 ∙ known.over o; origin = h.origin } in
        record { ended = ended; value = subst (λ (o : Option C). IfSome o (λ value. GoesOn held gate pass value)) (sym is) goes_on }

-- the same, of a gate and a pass as contracts see them
module _ {C O : Type 0} (held : Held C O) (gate gate' : Identity O) (same : gate ≡ gate') (pass pass' : Pass O) (is : pass ≡ pass') (ws : List ℕ) (xs : List (Option C)) (word : ℕ) where
  abbrev Closed : Type 0
  Closed = Final (Seen (GateRule held gate.origin) pass.number pass.view) ws xs

  pub ends_away : Closed → get_elem? ws 1 ≡ some word → word % 2 ≡ 1 → Answers held gate' pass' None
  ends_away f e odd = subst (λ (z : Identity O × Pass O). Answers held z.0 z.1 None) (λ i. (same i, is i)) (away held gate pass ws xs word f e odd)

  pub ends_home : Closed → (r : Option C) → get_elem? ws 1 ≡ some word → get_elem? xs 0 ≡ some r → word % 2 ≡ 0 → Answers held gate' pass' r
  ends_home f r e x even = subst (λ (z : Identity O × Pass O). Answers held z.0 z.1 r) (λ i. (same i, is i)) (home held gate pass ws xs word f r e x even)
