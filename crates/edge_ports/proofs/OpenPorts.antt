-- The number of open ports: a close of an open port makes it one less, and nothing else changes it.
use Rattle.std.proofs.Common.{◌≡◌, ◌≢◌, ◌⊎◌, inl, inr, ℕ, suc, zero, ◌+◌, ◌<◌, ◌≤◌, List, [], ◌∷◌, ◌++◌, length, refl, sym, ◌∙◌, ap, arith, length-set}
use Rattle.std.proofs.lemmas.Bool.Decides.{eqb_tells}
use Rattle.std.proofs.lemmas.List.Folds.{list_any-append}
use Rattle.std.proofs.lemmas.List.Sums.{sum_by-append}
use Rattle.std.specs.Prelude.{Bool, true, false, not, ◌==◌, ◌||◌, cond, count_by}
use Rattle.std.specs.List.{list_any, range_with_len}
use Rattle.edge_ports.specs.Seen.{Seen, IsOpen, SameBut, closed_at, end_at, open_among, open_ports}
use Rattle.edge_ports.specs.End.{ended}
use Rattle.edge_ports.proofs.Closing.{closed_at-high, closed_at-low, is_shut-high}

-- a port that isn't in the list of the closed ones
abbrev is_free : List ℕ → ℕ → Bool
is_free shut k = not (list_any (λ j. j == k) shut)

or_false : (a : Bool) → (a || false) ≡ a
or_false true = refl
or_false false = refl

or_true : (a : Bool) → (a || true) ≡ true
or_true true = refl
or_true false = refl

abbrev one_if : Bool → ℕ
one_if b = cond b 1 0

is_free-push : (shut : List ℕ) (fd k : ℕ) → is_free (shut ++ fd ∷ []) k ≡ not (list_any (λ j. j == k) shut || (fd == k))
is_free-push shut fd k = ap not (list_any-append (λ j. j == k) shut (fd ∷ []) ∙ ap (λ (b : Bool). list_any (λ j. j == k) shut || b) (or_false (fd == k)))

is_free-own : (shut : List ℕ) (fd k : ℕ) → (fd == k) ≡ true → is_free (shut ++ fd ∷ []) k ≡ false
is_free-own shut fd k is = is_free-push shut fd k ∙ ap (λ (b : Bool). not (list_any (λ j. j == k) shut || b)) is ∙ ap not (or_true (list_any (λ j. j == k) shut))

is_free-other : (shut : List ℕ) (fd k : ℕ) → (fd == k) ≡ false → is_free (shut ++ fd ∷ []) k ≡ is_free shut k
is_free-other shut fd k is = is_free-push shut fd k ∙ ap (λ (b : Bool). not (list_any (λ j. j == k) shut || b)) is ∙ ap not (or_false (list_any (λ j. j == k) shut))

abbrev free_count : List ℕ → ℕ → ℕ → ℕ
free_count shut a n = count_by (is_free shut) (range_with_len a n)

free_count-suc : (shut : List ℕ) (a n : ℕ) → free_count shut a (suc n) ≡ one_if (is_free shut a) + free_count shut (a + 1) n
free_count-suc shut a n = omega (arith, sum_by-append (λ k. one_if (is_free shut k)) (a ∷ []) (range_with_len (a + 1) n))

-- one more in the list, of which the numbers from a on are not
count-past : (shut : List ℕ) (fd a n : ℕ) → fd < a → free_count (shut ++ fd ∷ []) a n ≡ free_count shut a n
count-past shut fd a zero below = refl
count-past shut fd a (suc n) below = at (count-past shut fd (a + 1) n (omega arith)) (eqb_tells fd a)
  where
    at : free_count (shut ++ fd ∷ []) (a + 1) n ≡ free_count shut (a + 1) n
        → ((fd == a) ≡ true) × (fd ≡ a) ⊎ ((fd == a) ≡ false) × (fd ≢ a) → free_count (shut ++ fd ∷ []) a (suc n) ≡ free_count shut a (suc n)
    at rest (inl own) = absurd (omega (arith, own.1))
    at rest (inr other) = omega (arith, rest, free_count-suc (shut ++ fd ∷ []) a n, free_count-suc shut a n, ap one_if (is_free-other shut fd a other.0))

-- and of which one is
count-within : (shut : List ℕ) (fd a n : ℕ) → a ≤ fd → fd < a + n → list_any (λ j. j == fd) shut ≡ false → free_count (shut ++ fd ∷ []) a n + 1 ≡ free_count shut a n
count-within shut fd a zero from within free = absurd (omega arith)
count-within shut fd a (suc n) from within free = at (λ later. count-within shut fd (a + 1) n later (omega arith) free) (eqb_tells fd a)
  where
    at : (a + 1 ≤ fd → free_count (shut ++ fd ∷ []) (a + 1) n + 1 ≡ free_count shut (a + 1) n)
        → ((fd == a) ≡ true) × (fd ≡ a) ⊎ ((fd == a) ≡ false) × (fd ≢ a) → free_count (shut ++ fd ∷ []) a (suc n) + 1 ≡ free_count shut a (suc n)
    at rest (inl own) =
        let was : is_free shut a ≡ true = ap (λ (k : ℕ). is_free shut k) (sym own.1) ∙ ap not free in
        omega (arith, count-past shut fd (a + 1) n (omega arith), free_count-suc (shut ++ fd ∷ []) a n, free_count-suc shut a n, ap one_if (is_free-own shut fd a own.0), ap one_if was)
    at rest (inr other) =
        omega (arith, rest (omega (arith, other.1)), free_count-suc (shut ++ fd ∷ []) a n, free_count-suc shut a n, ap one_if (is_free-other shut fd a other.0))

-- after the close of a port
pub open_ports-close : (s : Seen) (fd : ℕ) → 3 ≤ fd → IsOpen s fd → open_ports (closed_at fd s) + 1 ≡ open_ports s
open_ports-close s fd high open_is =
    let free : list_any (λ j. j == fd) s.shut ≡ false = sym (is_shut-high s fd high) ∙ open_is.1 in
    ap (λ (t : Seen). open_ports t + 1) (closed_at-high fd s high)
    ∙ ap (λ (n : ℕ). open_among (s.shut ++ fd ∷ []) n + 1) (length-set s.ports _ (ended (end_at s fd)))
    ∙ count-within s.shut fd 3 (length s.ports) high open_is.0 free

-- after the close of a descriptor below 3
pub open_ports-close_low : (s : Seen) (fd : ℕ) → fd < 3 → open_ports (closed_at fd s) ≡ open_ports s
open_ports-close_low s fd low = ap open_ports (closed_at-low fd s low)

-- after a read or a write
pub open_ports-same : (fd : ℕ) (old new : Seen) → SameBut fd old new → open_ports new ≡ open_ports old
open_ports-same fd old new same = ap (λ (l : List ℕ). open_among l (length new.ports)) same.shut ∙ ap (λ (n : ℕ). open_among old.shut n) same.count

-- an open port is one of them
pub open_ports-some : (s : Seen) (fd : ℕ) → 3 ≤ fd → IsOpen s fd → 1 ≤ open_ports s
open_ports-some s fd high open_is = omega (arith, open_ports-close s fd high open_is)
