-- A close: what the records of a run say of the devices goes on, and one port fewer is open.
use Rattle.std.proofs.Common.{◌≡◌, ◌≢◌, ◌⊎◌, inl, inr, ℕ, suc, zero, ◌-◌, ◌<◌, ◌≤◌, ◌+◌, List, [], ◌∷◌, ◌++◌, length, drop, set, get_or, append_assoc, refl, sym, ◌∙◌, ap, subst, arith, length-set}
use Rattle.std.proofs.lemmas.Bool.Decides.{eqb_tells, nat_tests}
use Rattle.std.proofs.lemmas.List.{append-nil, map-append, get_or-set_other}
use Rattle.std.proofs.lemmas.List.Elements.{filter-append}
use Rattle.std.proofs.lemmas.List.Folds.{list_any-append}
use Rattle.std.specs.Prelude.{None, Some, Bool, true, false, ℤ, ◌==◌, ◌&&◌, ◌||◌, cond, nat_le, nat_lt, IfSome, map, filter}
use Rattle.std.specs.List.{list_any}
use Rattle.std.specs.Ordering.{int_eq}
use Rattle.std.specs.declared.option.Option.{Option}
use Rattle.guest_words.specs.declared.record.Record.{Record}
use Rattle.guest_words.specs.declared.record.Way.{Way}
use Rattle.guest_words.specs.declared.record.Way.TheVariants.{Close}
use Rattle.edge_ports.specs.End.{End, Came, Went, ended, raised, raised_by, raised_if, untold}
use Rattle.guest_words.specs.declared.linux.TheConstants.{EIO}
use Rattle.guest_words.specs.State.{is_close, is_closed}
use Rattle.edge_ports.specs.Records.{AnswersLesser, IsClose, Serves, is_read}
use Rattle.edge_ports.specs.Seen.{Seen, closed_at, end_at, is_shut, marked, port_shut}
use Rattle.edge_ports.specs.DevicesMatch.{DevicesMatch, EndMatches, closes_at, ports_closed, records_at}
use Rattle.edge_ports.proofs.Keeping.{at_descriptor, closes_at-push, end-push, longer, raise_more}
use Rattle.edge_ports.proofs.PortEnds.{end_at-high, end_at-with_port_other, end_at-with_port_same, low_or_high}
use Rattle.edge_ports.proofs.Serving.{came_none, given-is, taken-is, went_none}

-- a write past the end changes nothing
get_or-set_true : (marks : List Bool) (i : ℕ) → get_or (set marks i true) i true ≡ true
get_or-set_true [] i = refl
get_or-set_true (m ∷ marks) zero = refl
get_or-set_true (m ∷ marks) (suc i) = get_or-set_true marks i

set_or_not : (ends : List End) (i : ℕ) (end : End) → (get_or (set ends i end) i (untold 0 0) ≡ get_or ends i (untold 0 0)) ⊎ (get_or (set ends i end) i (untold 0 0) ≡ end)
set_or_not [] i end = inl refl
set_or_not (e ∷ ends) zero end = inr refl
set_or_not (e ∷ ends) (suc i) end = set_or_not ends i end

is_shut-low : (s : Seen) (k : ℕ) → k < 3 → is_shut s k ≡ get_or s.closed k true
is_shut-low s k low = grind (arith, nat_tests)

pub is_shut-high : (s : Seen) (k : ℕ) → 3 ≤ k → is_shut s k ≡ list_any (λ j. j == k) s.shut
is_shut-high s k high = grind (arith, nat_tests)

differ : (a b : ℕ) → a ≢ b → (a == b) ≡ false
differ a b apart = grind (arith, nat_tests)

same_number : (a b : ℕ) → a ≡ b → (a == b) ≡ true
same_number a b is = grind (arith, nat_tests)

or_false : (a : Bool) → (a || false) ≡ a
or_false true = refl
or_false false = refl

or_true : (a : Bool) → (a || true) ≡ true
or_true true = refl
or_true false = refl

and_true : (a : Bool) → (a && true) ≡ a
and_true true = refl
and_true false = refl

-- what a close does, by descriptor
record ClosesOnly (fd : ℕ) (old new : Seen) : Type 0 where
  closed : (k : ℕ) → is_shut new k ≡ (is_shut old k || (fd == k))
  others : (k : ℕ) → k ≢ fd → end_at new k ≡ end_at old k
  own : (end_at new fd ≡ end_at old fd) ⊎ (end_at new fd ≡ ended (end_at old fd))
  closes : (k : ℕ) → 3 ≤ k → k < 3 + length old.ports → (end_at new k).closes ≡ raised_if (fd == k) (end_at old k).closes
  count : length new.ports ≡ length old.ports
  shut : new.shut ≡ old.shut ++ cond (nat_le 3 fd) (fd ∷ []) []

marked_closes : (fd : ℕ) (s : Seen) → fd < 3 → ClosesOnly fd s (marked fd s)
marked_closes fd s low = record {
  closed = λ k. at k (low_or_high k);
  others = λ k apart. ends k;
  own = inl (ends fd);
  closes = λ k high port. ap (λ (b : Bool). raised_if b (end_at s k).closes) (sym (differ fd k (omega arith)));
  count = refl;
  shut = sym (ap (λ (b : Bool). s.shut ++ cond b (fd ∷ []) []) below_three ∙ append-nil s.shut);
}
  where
    below_three : nat_le 3 fd ≡ false
    below_three = grind (arith, nat_tests)

    ends : (k : ℕ) → end_at (marked fd s) k ≡ end_at s k
    ends k = refl

    at_low : (k : ℕ) → k < 3 → ((fd == k) ≡ true) × (fd ≡ k) ⊎ ((fd == k) ≡ false) × (fd ≢ k) → is_shut (marked fd s) k ≡ (is_shut s k || (fd == k))
    at_low k below (inl own) =
        is_shut-low (marked fd s) k below ∙ ap (λ (n : ℕ). get_or (set s.closed n true) k true) own.1 ∙ get_or-set_true s.closed k
        ∙ sym (ap (λ (b : Bool). is_shut s k || b) own.0 ∙ or_true (is_shut s k))
    at_low k below (inr other) =
        let apart : k ≢ fd = λ is. other.1 (sym is) in
        is_shut-low (marked fd s) k below ∙ get_or-set_other s.closed fd k true true apart ∙ sym (is_shut-low s k below)
        ∙ sym (ap (λ (b : Bool). is_shut s k || b) other.0 ∙ or_false (is_shut s k))

    at : (k : ℕ) → (k < 3) ⊎ (3 ≤ k) → is_shut (marked fd s) k ≡ (is_shut s k || (fd == k))
    at k (inl below) = at_low k below (eqb_tells fd k)
    at k (inr above) =
        is_shut-high (marked fd s) k above ∙ sym (is_shut-high s k above)
        ∙ sym (ap (λ (b : Bool). is_shut s k || b) (differ fd k (omega arith)) ∙ or_false (is_shut s k))

port_shut_closes : (fd : ℕ) (s : Seen) → 3 ≤ fd → ClosesOnly fd s (port_shut fd s)
port_shut_closes fd s high = record {
  closed = λ k. at k (low_or_high k);
  others = ends;
  own = own_or_not (set_or_not s.ports (fd - 3) (ended (end_at s fd)));
  closes = λ k above port. closes_at_k k port (eqb_tells fd k);
  count = length-set s.ports (fd - 3) (ended (end_at s fd));
  shut = sym (ap (λ (b : Bool). s.shut ++ cond b (fd ∷ []) []) from_three);
}
  where
    from_three : nat_le 3 fd ≡ true
    from_three = grind (arith, nat_tests)

    own_end : fd < 3 + length s.ports → end_at (port_shut fd s) fd ≡ ended (end_at s fd)
    own_end port = end_at-with_port_same s fd (ended (end_at s fd)) high port

    own_or_not : (get_or (set s.ports (fd - 3) (ended (end_at s fd))) (fd - 3) (untold 0 0) ≡ get_or s.ports (fd - 3) (untold 0 0)) ⊎ (get_or (set s.ports (fd - 3) (ended (end_at s fd))) (fd - 3) (untold 0 0) ≡ ended (end_at s fd))
        → (end_at (port_shut fd s) fd ≡ end_at s fd) ⊎ (end_at (port_shut fd s) fd ≡ ended (end_at s fd))
    own_or_not (inl same) = inl (end_at-high (port_shut fd s) fd high ∙ same ∙ sym (end_at-high s fd high))
    own_or_not (inr over) = inr (end_at-high (port_shut fd s) fd high ∙ over)

    ends : (k : ℕ) → k ≢ fd → end_at (port_shut fd s) k ≡ end_at s k
    ends k apart = end_at-with_port_other s fd k (ended (end_at s fd)) high apart

    closes_at_k : (k : ℕ) → k < 3 + length s.ports → ((fd == k) ≡ true) × (fd ≡ k) ⊎ ((fd == k) ≡ false) × (fd ≢ k) → (end_at (port_shut fd s) k).closes ≡ raised_if (fd == k) (end_at s k).closes
    closes_at_k k port (inl same_one) =
        ap (λ (n : ℕ). (end_at (port_shut fd s) n).closes) (sym same_one.1) ∙ ap (λ (e : End). e.closes) (own_end (omega (arith, same_one.1))) ∙ ap (λ (n : ℕ). raised (end_at s n).closes) same_one.1
        ∙ ap (λ (b : Bool). raised_if b (end_at s k).closes) (sym same_one.0)
    closes_at_k k port (inr other) = ap (λ (e : End). e.closes) (ends k (λ is. other.1 (sym is))) ∙ ap (λ (b : Bool). raised_if b (end_at s k).closes) (sym other.0)

    at : (k : ℕ) → (k < 3) ⊎ (3 ≤ k) → is_shut (port_shut fd s) k ≡ (is_shut s k || (fd == k))
    at k (inl below) =
        is_shut-low (port_shut fd s) k below ∙ sym (is_shut-low s k below)
        ∙ sym (ap (λ (b : Bool). is_shut s k || b) (differ fd k (omega arith)) ∙ or_false (is_shut s k))
    at k (inr above) =
        is_shut-high (port_shut fd s) k above ∙ list_any-append (λ j. j == k) s.shut (fd ∷ [])
        ∙ ap (λ (b : Bool). list_any (λ j. j == k) s.shut || b) (or_false (fd == k))
        ∙ ap (λ (b : Bool). b || (fd == k)) (sym (is_shut-high s k above))

pub closed_at-low : (fd : ℕ) (s : Seen) → fd < 3 → closed_at fd s ≡ marked fd s
closed_at-low fd s low = let e : nat_lt fd 3 ≡ true = grind (arith, nat_tests) in ap (λ (b : Bool). cond b (marked fd s) (port_shut fd s)) e

pub closed_at-high : (fd : ℕ) (s : Seen) → 3 ≤ fd → closed_at fd s ≡ port_shut fd s
closed_at-high fd s high = let e : nat_lt fd 3 ≡ false = grind (arith, nat_tests) in ap (λ (b : Bool). cond b (marked fd s) (port_shut fd s)) e

closes_only : (fd : ℕ) (s : Seen) → ClosesOnly fd s (closed_at fd s)
closes_only fd s = at (low_or_high fd)
  where
    at : (fd < 3) ⊎ (3 ≤ fd) → ClosesOnly fd s (closed_at fd s)
    at (inl low) = subst (λ (t : Seen). ClosesOnly fd s t) (sym (closed_at-low fd s low)) (marked_closes fd s low)
    at (inr high) = subst (λ (t : Seen). ClosesOnly fd s t) (sym (closed_at-high fd s high)) (port_shut_closes fd s high)

-- a record of a close serves what changes no bytes and no count
close_serves : (fd : ℕ) (r : Record) (old new : End) → IsClose fd r → new.left ≡ old.left → new.given ≡ old.given → new.faults ≡ old.faults → Serves r old new
close_serves fd r old new fits left given faults = record {
  left = subst (λ (l : List ℕ). Went old.left l new.left) (sym (taken-is r Close fits.way)) (subst (λ (o : Option (List ℕ)). Went old.left [] o) (sym left) (went_none old.left));
  count = counts old.left;
  given = subst (λ (l : List ℕ). Came old.given l new.given) (sym (given-is r Close fits.way)) (subst (λ (o : Option (List ℕ)). Came old.given [] o) (sym given) (came_none old.given));
  faults = faults ∙ ap (λ (z : ℤ). raised_if (int_eq z EIO) old.faults) (sym fits.answer);
}
  where
    reads_none : is_read r.way ≡ false
    reads_none = ap is_read fits.way

    counts : (o : Option (List ℕ)) → IfSome o (λ l. AnswersLesser (length l) r)
    counts None = tt
    counts (Some l) = λ reads ok. absurd (cc (reads_none, reads))

or_assoc : (a b c : Bool) → ((a || b) || c) ≡ (a || (b || c))
or_assoc true b c = refl
or_assoc false b c = refl

module _ (rs : List Record) (r : Record) (fd : ℕ) (fits : IsClose fd r) where
  is_closed-close : (k : ℕ) → is_closed k (rs ++ r ∷ []) ≡ (is_closed k rs || (fd == k))
  is_closed-close k =
      list_any-append (λ (x : Record). is_close x.way && (x.port == k)) rs (r ∷ [])
      ∙ ap (λ (b : Bool). is_closed k rs || b) (or_false (is_close r.way && (r.port == k)))
      ∙ ap (λ (w : Way). is_closed k rs || (is_close w && (r.port == k))) fits.way
      ∙ ap (λ (n : ℕ). is_closed k rs || (n == k)) fits.port

  ports_closed-close : ports_closed (rs ++ r ∷ []) ≡ ports_closed rs ++ cond (nat_le 3 fd) (fd ∷ []) []
  ports_closed-close =
      let p : Record → Bool = λ x. nat_le 3 x.port && is_close x.way in
      let port : Record → ℕ = λ x. x.port in
      let passes : p r ≡ nat_le 3 fd = ap (λ (w : Way). nat_le 3 r.port && is_close w) fits.way ∙ and_true (nat_le 3 r.port) ∙ ap (λ (n : ℕ). nat_le 3 n) fits.port in
      ap (λ (l : List Record). map port l) (filter-append p rs (r ∷ []))
      ∙ map-append port (filter p rs) (cond (p r) (r ∷ []) [])
      ∙ ap (λ (b : Bool). ports_closed rs ++ map port (cond b (r ∷ []) [])) passes
      ∙ ap (λ (l : List ℕ). ports_closed rs ++ l) (one (nat_le 3 fd))
    where
      one : (b : Bool) → map (λ (x : Record). x.port) (cond b (r ∷ []) []) ≡ cond b (fd ∷ []) []
      one true = ap (λ (n : ℕ). n ∷ []) fits.port
      one false = refl

  closes_at-close : (k : ℕ) → closes_at k (rs ++ r ∷ []) ≡ closes_at k rs + cond (fd == k) 1 0
  closes_at-close k =
      closes_at-push k rs r ∙ ap (λ (w : Way). closes_at k rs + cond (is_close w && (r.port == k)) 1 0) fits.way
      ∙ ap (λ (n : ℕ). closes_at k rs + cond (n == k) 1 0) fits.port

  -- after `Devices::close`
  pub DevicesMatch-close : (start mid : Seen) (before : ℕ) → DevicesMatch start mid before rs → DevicesMatch start (closed_at fd mid) before (rs ++ r ∷ [])
  DevicesMatch-close start mid before kept = record {
    within = longer before rs r kept.within;
    ends = λ k. at_descriptor k before (end_at start k) (end_at now k) rs r kept.within (own k) (other k);
    count = did.count ∙ kept.count;
    closed = λ k.
        did.closed k ∙ ap (λ (b : Bool). b || (fd == k)) (kept.closed k) ∙ or_assoc (is_shut start k) (is_closed k rs) (fd == k)
        ∙ ap (λ (b : Bool). is_shut start k || b) (sym (is_closed-close k));
    shut =
        did.shut ∙ ap (λ (l : List ℕ). l ++ cond (nat_le 3 fd) (fd ∷ []) []) kept.shut ∙ append_assoc start.shut (ports_closed rs) (cond (nat_le 3 fd) (fd ∷ []) [])
        ∙ ap (λ (l : List ℕ). start.shut ++ l) (sym ports_closed-close);
    closes = λ k high port.
        did.closes k high (omega (arith, kept.count)) ∙ ap (λ (n : ℕ). raised_if (fd == k) n) (kept.closes k high port) ∙ raise_more (fd == k) (closes_at k rs) (end_at start k).closes
        ∙ ap (λ (n : ℕ). raised_by n (end_at start k).closes) (sym (closes_at-close k));
  }
    where
      now : Seen
      now = closed_at fd mid

      did : ClosesOnly fd mid (closed_at fd mid)
      did = closes_only fd mid

      served : (end_at (closed_at fd mid) fd ≡ end_at mid fd) ⊎ (end_at (closed_at fd mid) fd ≡ ended (end_at mid fd)) → Serves r (end_at mid fd) (end_at (closed_at fd mid) fd)
      served (inl same) = subst (λ (e : End). Serves r (end_at mid fd) e) (sym same) (close_serves fd r (end_at mid fd) (end_at mid fd) fits refl refl refl)
      served (inr over) = subst (λ (e : End). Serves r (end_at mid fd) e) (sym over) (close_serves fd r (end_at mid fd) (ended (end_at mid fd)) fits refl refl refl)

      own : (k : ℕ) → r.port ≡ k → EndMatches (end_at start k) (end_at (closed_at fd mid) k) (records_at k (drop before rs) ++ r ∷ [])
      own k is =
          let at : fd ≡ k = sym fits.port ∙ is in
          end-push (end_at start k) (end_at mid k) (end_at (closed_at fd mid) k) (records_at k (drop before rs)) r (kept.ends k)
          (subst (λ (n : ℕ). Serves r (end_at mid n) (end_at (closed_at fd mid) n)) at (served did.own))

      other : (k : ℕ) → r.port ≢ k → EndMatches (end_at start k) (end_at (closed_at fd mid) k) (records_at k (drop before rs))
      other k apart = subst (λ (e : End). EndMatches (end_at start k) e (records_at k (drop before rs))) (sym (did.others k (λ is. apart (fits.port ∙ sym is)))) (kept.ends k)
