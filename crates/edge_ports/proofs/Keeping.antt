-- One more record: what the records of a run say of the devices goes on.
use Rattle.std.proofs.Common.{◌≡◌, ◌≢◌, ◌⊎◌, inl, inr, ℕ, ◌+◌, ◌-◌, ◌≤◌, List, [], ◌∷◌, ◌++◌, length, drop, refl, sym, ◌∙◌, ap, subst, arith, add-one, append_assoc, length-append}
use Rattle.std.proofs.lemmas.Bool.Decides.{eqb_tells}
use Rattle.std.proofs.lemmas.Grind.{flat_map-append}
use Rattle.std.proofs.lemmas.List.{append-nil, drop-append-le}
use Rattle.std.proofs.lemmas.List.Elements.{filter-append}
use Rattle.std.proofs.lemmas.List.Folds.{list_any-append}
use Rattle.std.proofs.lemmas.List.Sums.{sum_by-append}
use Rattle.std.specs.Prelude.{None, Some, Bool, true, false, ◌==◌, ◌&&◌, ◌||◌, cond, nat_le, IfSome, option_map, map, filter}
use Rattle.std.specs.List.{flat_map}
use Rattle.std.specs.Ordering.{int_eq}
use Rattle.std.specs.declared.option.Option.{Option}
use Rattle.guest_words.specs.declared.record.Record.{Record}
use Rattle.edge_ports.specs.End.{End, raised_by, raised_if, Came, Went}
use Rattle.guest_words.specs.declared.linux.TheConstants.{EIO}
use Rattle.guest_words.specs.State.{is_close, is_closed}
use Rattle.edge_ports.specs.Records.{AnswersLesser, IsRead, IsWrite, Serves, given_bytes, taken_bytes}
use Rattle.edge_ports.specs.Seen.{Seen, SameBut, end_at, is_shut}
use Rattle.edge_ports.specs.DevicesMatch.{AllAnswerLesser, DevicesMatch, EndMatches, closes_at, failures, ports_closed, records_at}
use Rattle.edge_ports.proofs.Serving.{went_none, came_none}

went-append : (a b c : Option (List ℕ)) (xs ys : List ℕ) → Went a xs b → Went b ys c → Went a (xs ++ ys) c
went-append a b None xs ys p q = p ∙ ap (λ (o : Option (List ℕ)). option_map (λ rest. xs ++ rest) o) q
went-append a b (Some c) xs ys p q = p ∙ ap (λ (o : Option (List ℕ)). option_map (λ rest. xs ++ rest) o) q ∙ ap Some (sym (append_assoc xs ys c))

came-append : (a b c : Option (List ℕ)) (xs ys : List ℕ) → Came a xs b → Came b ys c → Came a (xs ++ ys) c
came-append None b c xs ys p q = q ∙ ap (λ (o : Option (List ℕ)). option_map (λ given. given ++ ys) o) p
came-append (Some a) b c xs ys p q = q ∙ ap (λ (o : Option (List ℕ)). option_map (λ given. given ++ ys) o) p ∙ ap Some (append_assoc a xs ys)

-- one more record in a joined list
flat_map-push : (f : Record → List ℕ) (rs : List Record) (r : Record) → flat_map f (rs ++ r ∷ []) ≡ flat_map f rs ++ f r
flat_map-push f rs r = flat_map-append f rs (r ∷ []) ∙ ap (λ (l : List ℕ). flat_map f rs ++ l) (append-nil (f r))

all_answer-push : (left : ℕ) (rs : List Record) (r : Record) → AllAnswerLesser left rs → AnswersLesser (left - length (flat_map taken_bytes rs)) r → AllAnswerLesser left (rs ++ r ∷ [])
all_answer-push left [] r all one = (subst (λ (n : ℕ). AnswersLesser n r) (omega arith) one, tt)
all_answer-push left (x ∷ rs) r all one =
    let a = length (taken_bytes x) in
    let b = length (flat_map taken_bytes rs) in
    let at : left - length (flat_map taken_bytes (x ∷ rs)) ≡ left - a - b = omega (arith, length-append (taken_bytes x) (flat_map taken_bytes rs)) in
    (all.0, all_answer-push (left - a) rs r all.1 (subst (λ (n : ℕ). AnswersLesser n r) at one))

counts-push : (a b : Option (List ℕ)) (rs : List Record) (r : Record) → Went a (flat_map taken_bytes rs) b → IfSome a (λ l. AllAnswerLesser (length l) rs) → IfSome b (λ l. AnswersLesser (length l) r)
    → IfSome a (λ l. AllAnswerLesser (length l) (rs ++ r ∷ []))
counts-push None b rs r went all one = tt
counts-push (Some a) None rs r went all one = cc
counts-push (Some a) (Some b) rs r went all one =
    let joined : a ≡ flat_map taken_bytes rs ++ b = cc in
    let rest : length b ≡ length a - length (flat_map taken_bytes rs) = omega (arith, ap length joined, length-append (flat_map taken_bytes rs) b) in
    all_answer-push (length a) rs r all (subst (λ (n : ℕ). AnswersLesser n r) rest one)

-- a count that rose once more, or didn't
pub raise_more : (b : Bool) (n count : ℕ) → raised_if b (raised_by n count) ≡ raised_by (n + cond b 1 0) count
raise_more true n count = ap (λ (k : ℕ). raised_by k count) (sym (add-one n))
raise_more false n count = let none : n ≡ n + 0 = omega arith in ap (λ (k : ℕ). raised_by k count) none

failures-push : (rs : List Record) (r : Record) → failures (rs ++ r ∷ []) ≡ failures rs + cond (int_eq r.answer EIO) 1 0
failures-push rs r = omega (arith, sum_by-append (λ (x : Record). cond (int_eq x.answer EIO) 1 0) rs (r ∷ []))

-- the device that served the record
pub end-push : (start mid now : End) (rs : List Record) (r : Record) → EndMatches start mid rs → Serves r mid now → EndMatches start now (rs ++ r ∷ [])
end-push start mid now rs r kept serves = record {
  left = subst (λ (l : List ℕ). Went start.left l now.left) (sym (flat_map-push taken_bytes rs r)) (went-append start.left mid.left now.left (flat_map taken_bytes rs) (taken_bytes r) kept.left serves.left);
  counts = counts-push start.left mid.left rs r kept.left kept.counts serves.count;
  given = subst (λ (l : List ℕ). Came start.given l now.given) (sym (flat_map-push given_bytes rs r)) (came-append start.given mid.given now.given (flat_map given_bytes rs) (given_bytes r) kept.given serves.given);
  faults = serves.faults ∙ ap (λ (n : ℕ). raised_if (int_eq r.answer EIO) n) kept.faults ∙ raise_more (int_eq r.answer EIO) (failures rs) start.faults
      ∙ ap (λ (n : ℕ). raised_by n start.faults) (sym (failures-push rs r));
}

-- at the start
pub DevicesMatch-start : (start : Seen) → DevicesMatch start start 0 []
DevicesMatch-start start = record {
  within = omega arith;
  ends = λ k. here (end_at start k);
  count = refl;
  closed = λ k. sym (or_false (is_shut start k));
  shut = sym (append-nil start.shut);
  closes = λ k high port. refl;
}
  where
    or_false : (a : Bool) → (a || false) ≡ a
    or_false true = refl
    or_false false = refl

    none : (left : Option (List ℕ)) → IfSome left (λ l. AllAnswerLesser (length l) [])
    none None = tt
    none (Some l) = tt

    here : (e : End) → EndMatches e e []
    here e = record { left = went_none e.left; counts = none e.left; given = came_none e.given; faults = refl }

-- the records of a descriptor, one more of which is its own or isn't
pub at_descriptor : (k before : ℕ) (start now : End) (rs : List Record) (r : Record) → before ≤ length rs
    → (r.port ≡ k → EndMatches start now (records_at k (drop before rs) ++ r ∷ [])) → (r.port ≢ k → EndMatches start now (records_at k (drop before rs))) → EndMatches start now (records_at k (drop before (rs ++ r ∷ [])))
at_descriptor k before start now rs r within own other =
    subst (λ (l : List Record). EndMatches start now l) (sym joined) (either (eqb_tells r.port k))
  where
    joined : records_at k (drop before (rs ++ r ∷ [])) ≡ records_at k (drop before rs) ++ cond (r.port == k) (r ∷ []) []
    joined =
        ap (λ (l : List Record). records_at k l) (drop-append-le before rs (r ∷ []) within)
        ∙ filter-append (λ (x : Record). x.port == k) (drop before rs) (r ∷ [])

    either : ((r.port == k) ≡ true) × (r.port ≡ k) ⊎ ((r.port == k) ≡ false) × (r.port ≢ k) → EndMatches start now (records_at k (drop before rs) ++ cond (r.port == k) (r ∷ []) [])
    either (inl same_one) = subst (λ (b : Bool). EndMatches start now (records_at k (drop before rs) ++ cond b (r ∷ []) [])) (sym same_one.0) (own same_one.1)
    either (inr another) = subst (λ (b : Bool). EndMatches start now (records_at k (drop before rs) ++ cond b (r ∷ []) [])) (sym another.0) (subst (λ (l : List Record). EndMatches start now l) (sym (append-nil (records_at k (drop before rs)))) (other another.1))

-- one more record, and how many closes of a descriptor there are
pub closes_at-push : (k : ℕ) (rs : List Record) (r : Record) → closes_at k (rs ++ r ∷ []) ≡ closes_at k rs + cond (is_close r.way && (r.port == k)) 1 0
closes_at-push k rs r = omega (arith, sum_by-append (λ (x : Record). cond (is_close x.way && (x.port == k)) 1 0) rs (r ∷ []))

pub longer : (before : ℕ) (rs : List Record) (r : Record) → before ≤ length rs → before ≤ length (rs ++ r ∷ [])
longer before rs r within = omega (arith, within, length-append rs (r ∷ []))

-- a record that isn't of a close closes nothing
module _ (rs : List Record) (r : Record) (still : is_close r.way ≡ false) where
  and_false : (a : Bool) → (a && false) ≡ false
  and_false true = refl
  and_false false = refl

  or_none : (a b : Bool) → b ≡ false → (a || (b || false)) ≡ a
  or_none true b is = refl
  or_none false true is = is
  or_none false false is = refl

  is_closed-still : (k : ℕ) → is_closed k (rs ++ r ∷ []) ≡ is_closed k rs
  is_closed-still k =
      list_any-append (λ (x : Record). is_close x.way && (x.port == k)) rs (r ∷ [])
      ∙ or_none (is_closed k rs) (is_close r.way && (r.port == k)) (ap (λ (b : Bool). b && (r.port == k)) still)

  ports_closed-still : ports_closed (rs ++ r ∷ []) ≡ ports_closed rs
  ports_closed-still =
      let p : Record → Bool = λ x. nat_le 3 x.port && is_close x.way in
      let one : p r ≡ false = ap (λ (b : Bool). nat_le 3 r.port && b) still ∙ and_false (nat_le 3 r.port) in
      ap (λ (l : List Record). map (λ x. x.port) l)
      (filter-append p rs (r ∷ []) ∙ ap (λ (b : Bool). filter p rs ++ cond b (r ∷ []) []) one ∙ append-nil (filter p rs))

  closes_at-still : (k : ℕ) → closes_at k (rs ++ r ∷ []) ≡ closes_at k rs
  closes_at-still k =
      closes_at-push k rs r ∙ ap (λ (b : Bool). closes_at k rs + cond (b && (r.port == k)) 1 0) still ∙ omega arith

  pub DevicesMatch-served : (start mid now : Seen) (before : ℕ) → DevicesMatch start mid before rs → Serves r (end_at mid r.port) (end_at now r.port) → SameBut r.port mid now → DevicesMatch start now before (rs ++ r ∷ [])
  DevicesMatch-served start mid now before kept serves same = record {
    within = longer before rs r kept.within;
    ends = λ k. at_descriptor k before (end_at start k) (end_at now k) rs r kept.within (own k) (other k);
    count = same.count ∙ kept.count;
    closed = λ k. closed_now k ∙ kept.closed k ∙ ap (λ (b : Bool). is_shut start k || b) (sym (is_closed-still k));
    shut = same.shut ∙ kept.shut ∙ ap (λ (l : List ℕ). start.shut ++ l) (sym ports_closed-still);
    closes = λ k high port. counted k ∙ kept.closes k high port ∙ ap (λ (n : ℕ). raised_by n (end_at start k).closes) (sym (closes_at-still k));
  }
    where
      closed_now : (k : ℕ) → is_shut now k ≡ is_shut mid k
      closed_now k = cc

      own : (k : ℕ) → r.port ≡ k → EndMatches (end_at start k) (end_at now k) (records_at k (drop before rs) ++ r ∷ [])
      own k is = end-push (end_at start k) (end_at mid k) (end_at now k) (records_at k (drop before rs)) r (kept.ends k) (subst (λ (n : ℕ). Serves r (end_at mid n) (end_at now n)) is serves)

      other : (k : ℕ) → r.port ≢ k → EndMatches (end_at start k) (end_at now k) (records_at k (drop before rs))
      other k apart = subst (λ (e : End). EndMatches (end_at start k) e (records_at k (drop before rs))) (sym (same.others k (λ is. apart (sym is)))) (kept.ends k)

      counted : (k : ℕ) → (end_at now k).closes ≡ (end_at mid k).closes
      counted k = at (eqb_tells k r.port)
        where
          at : ((k == r.port) ≡ true) × (k ≡ r.port) ⊎ ((k == r.port) ≡ false) × (k ≢ r.port) → (end_at now k).closes ≡ (end_at mid k).closes
          at (inl same_one) = subst (λ (n : ℕ). (end_at now n).closes ≡ (end_at mid n).closes) (sym same_one.1) same.closes
          at (inr another) = ap (λ (e : End). e.closes) (same.others k another.1)

-- after `Devices::read` and `Devices::write`
pub DevicesMatch-read : (start mid now : Seen) (before : ℕ) (rs : List Record) (r : Record) (fd asked : ℕ) → DevicesMatch start mid before rs → IsRead fd asked r → Serves r (end_at mid fd) (end_at now fd) → SameBut fd mid now
    → DevicesMatch start now before (rs ++ r ∷ [])
DevicesMatch-read start mid now before rs r fd asked kept fits serves same =
    DevicesMatch-served rs r (ap is_close fits.way) start mid now before kept
    (subst (λ (n : ℕ). Serves r (end_at mid n) (end_at now n)) (sym fits.port) serves)
    (subst (λ (n : ℕ). SameBut n mid now) (sym fits.port) same)

pub DevicesMatch-write : (start mid now : Seen) (before : ℕ) (rs : List Record) (r : Record) (fd : ℕ) (bytes : List ℕ) → DevicesMatch start mid before rs → IsWrite fd bytes r → Serves r (end_at mid fd) (end_at now fd) → SameBut fd mid now
    → DevicesMatch start now before (rs ++ r ∷ [])
DevicesMatch-write start mid now before rs r fd bytes kept fits serves same =
    DevicesMatch-served rs r (ap is_close fits.way) start mid now before kept
    (subst (λ (n : ℕ). Serves r (end_at mid n) (end_at now n)) (sym fits.port) serves)
    (subst (λ (n : ℕ). SameBut n mid now) (sym fits.port) same)
