-- Points only get spent along a run: where none was active at an address, none becomes active.
use Rattle.std.proofs.Common.{◌≡◌, ℕ, ◌-◌, ◌==◌, Bool, true, false, not, ◌&&◌, nat_lt, if◌then◌else◌, List, [], ◌∷◌, find, Option, Some, None, option_map, refl, ap, ◌∙◌, arith}
use Rattle.std.proofs.lemmas.Bool.Decides.{nat_tests}
use Rattle.guest_words.specs.declared.limits.TheConstants.{FRAMES}
use Rattle.guest_words.specs.declared.point.Point.{Point}
use Rattle.guest_words.specs.Points.{active_at, is_active, is_on, is_spent, reference_of, spent, spent_at, spent_once}
use Rattle.guest_words.specs.State.{State, enter}
use Rattle.run_history.specs.declared.entry.Entry.{Entry, Ran, Entered, Called, Rescued', Ended, Row_of-Entry, end_of-Entry, more_of-Entry}
use Rattle.run_history.specs.After.{after, after_row, rescued_from, state_after}
use Rattle.run_history.proofs.Ands.{if_by}
use Rattle.run_history.proofs.Kept.{Rest, called_keeps, ran_keeps}
use Rattle.text_laws.specs.Texts.{FewerArrivals}

-- where no point was active at an address, none is
abbrev pub HasFewerActive : List Point → List Point → Type 0
HasFewerActive points after = (pc : ℕ) → active_at points pc ≡ None → active_at after pc ≡ None

fewer_same : (points : List Point) → HasFewerActive points points
fewer_same points pc none = none

fewer_both : (a b c : List Point) → HasFewerActive a b → HasFewerActive b c → HasFewerActive a c
fewer_both a b c first second pc none = second pc (first pc none)

fewer_equal : (points after : List Point) → after ≡ points → HasFewerActive points after
fewer_equal points after same pc none = ap (λ ps. active_at ps pc) same ∙ none

-- a point that isn't active gets no rescue back

spent_less : (left : Option ℕ) → is_spent left ≡ true → is_spent (option_map (λ n. n - 1) left) ≡ true
spent_less None is = is
spent_less (Some left) is = grind (arith, nat_tests, is)

inactive_once : (p : Point) → is_active p ≡ false → is_active (spent_once p) ≡ false
inactive_once p none = by (is_on p.kind) (is_spent p.left) refl none
  where
    by : (on gone : Bool) → is_spent p.left ≡ gone → (on && not gone) ≡ false → (on && not (is_spent (spent_once p).left)) ≡ false
    by false gone e is = refl
    by true true e is = ap not (spent_less p.left e)
    by true false e is = cc

test_spent : (entry pc : ℕ) (p : Point) → (is_active p && (p.entry == pc)) ≡ false → (is_active (spent_at entry p) && ((spent_at entry p).entry == pc)) ≡ false
test_spent entry pc p none =
    if_by (λ (q : Point). (is_active q && (q.entry == pc)) ≡ false) (p.entry == entry) (spent_once p) p (λ e. by (is_active p) (p.entry == pc) refl none) (λ e. none)
  where
    fails : (b c : Bool) → b ≡ false → (b && c) ≡ false
    fails true c e = cc
    fails false c e = refl

    both : (b : Bool) → (b && false) ≡ false
    both true = refl
    both false = refl

    by : (on here : Bool) → is_active p ≡ on → (on && here) ≡ false → (is_active (spent_once p) && here) ≡ false
    by on false e is = both (is_active (spent_once p))
    by true true e is = cc
    by false true e is = fails (is_active (spent_once p)) true (inactive_once p e)

spent_fewer : (points : List Point) (entry : ℕ) → HasFewerActive points (spent points entry)
spent_fewer [] entry pc none = refl
spent_fewer (p ∷ ps) entry pc none = by (is_active p && (p.entry == pc)) refl none (spent_fewer ps entry pc)
  where
    test : Point → Bool
    test q = is_active q && (q.entry == pc)

    rest : (b : Bool) → b ≡ false → active_at (spent ps entry) pc ≡ None
        → option_map reference_of (if b then Some (spent_at entry p) else find test (spent ps entry)) ≡ None
    rest true e none = cc
    rest false e none = none

    by : (b : Bool) → (is_active p && (p.entry == pc)) ≡ b → option_map reference_of (if b then Some p else find test ps) ≡ None
        → (active_at ps pc ≡ None → active_at (spent ps entry) pc ≡ None) → active_at (spent (p ∷ ps) entry) pc ≡ None
    by true e none later = cc
    by false e none later = rest (test (spent_at entry p)) (test_spent entry pc p e) (later none)

-- along a run

mutual
  unfolding after enter rescued_from

  after_fewer : (s : State) (e : Entry) → HasFewerActive s.points (after s e).points
  after_fewer s (Ran h n) = fewer_equal s.points _ (ap (λ (r : Rest). r.points) (ran_keeps s h n))
  after_fewer s (Entered h p) = fewer_same s.points
  after_fewer s (Called h call) = fewer_equal s.points _ (ap (λ (r : Rest). r.points) (called_keeps s h call))
  after_fewer s (Rescued' h p f shape inside) =
      let t = after_row (enter s h p) inside in
      fewer_both s.points t.points (spent t.points p.entry) (after_row_fewer (enter s h p) inside) (spent_fewer t.points p.entry)
  after_fewer s (Ended x) = fewer_same s.points

  after_row_fewer : (s : State) {m : _} (row : Row_of-Entry m) → HasFewerActive s.points (after_row s row).points
  after_row_fewer s end_of-Entry = fewer_same s.points
  after_row_fewer s (more_of-Entry e rest) =
      fewer_both s.points (after s e).points (after_row (after s e) rest).points (after_fewer s e) (after_row_fewer (after s e) rest)

run_fewer : (s : State) (es : List Entry) → HasFewerActive s.points (state_after s es).points
run_fewer s [] = fewer_same s.points
run_fewer s (e ∷ es) = fewer_both s.points (after s e).points (state_after (after s e) es).points (after_fewer s e) (run_fewer (after s e) es)

pub fewer_arrivals : FewerArrivals
fewer_arrivals start es run hart = by (hart.arrived && nat_lt 0 FRAMES)
  where
    by : (b : Bool) → (if b then active_at start.points hart.pc else None) ≡ None → (if b then active_at (state_after start es).points hart.pc else None) ≡ None
    by true none = run_fewer start es hart.pc none
    by false none = refl
