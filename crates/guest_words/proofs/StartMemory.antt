-- What lies at an address at the start.
use Rattle.std.proofs.Common.{◌≡◌, ◌≢◌, ℕ, zero, suc, ◌<◌, ◌≤◌, true, false, cond, refl, ap, sym, ◌∙◌, subst, arith, Option, Some, None, ◌⊎◌, inl, inr}
use Rattle.std.proofs.lemmas.Bool.Decides.{eqb_tells}
use Rattle.std.specs.Ordering.{nat_cmp, eq_by_cmp}
use Rattle.std.specs.Cmp.{nat_cmp_total, unsigned_tied}
use Rattle.std.specs.FinMap.{get, get-insert, get-empty}
use Rattle.std.specs.Prelude.{List}
use Rattle.guest_words.specs.declared.image.Cell.{Cell}
use Rattle.guest_words.specs.declared.image.Load.{Load}
use Rattle.guest_words.specs.Space.{Space}
use Rattle.guest_words.specs.Start.{cell_at, with_entry, gathered, memory_of}

-- two addresses, told apart
pub addresses_tell : (a b : ℕ) → ((eq_by_cmp nat_cmp a b ≡ true) × (a ≡ b)) ⊎ ((eq_by_cmp nat_cmp a b ≡ false) × (a ≢ b))
addresses_tell a b = elim (eqb_tells a b) [ inl p ↦ inl (unsigned_tied a b ∙ p.0, p.1) | inr p ↦ inr (unsigned_tied a b ∙ p.0, p.1) ]

get-with_entry_same : (m : Space) (n : ℕ) (o : Option Cell) → get m n ≡ None → get (with_entry m n o) n ≡ o
get-with_entry_same m n None absent = absent
get-with_entry_same m n (Some c) absent =
    get-insert nat_cmp_total m n c n
    ∙ elim (addresses_tell n n) [ inl p ↦ ap (λ b. cond b (Some c) (get m n)) p.0 | inr p ↦ absurd (p.1 refl) ]

get-with_entry_other : (m : Space) (n a : ℕ) (o : Option Cell) → a ≢ n → get (with_entry m n o) a ≡ get m a
get-with_entry_other m n a None other = refl
get-with_entry_other m n a (Some c) other =
    get-insert nat_cmp_total m n c a
    ∙ elim (addresses_tell a n) [ inl p ↦ absurd (other p.1) | inr p ↦ ap (λ b. cond b (Some c) (get m a)) p.0 ]

-- a gathered map has nothing past its bound
pub get-gathered_past : (cells : ℕ → Option Cell) (n a : ℕ) → n ≤ a → get (gathered cells n) a ≡ None
unfolding gathered
get-gathered_past cells zero a past = get-empty nat_cmp a
get-gathered_past cells (suc n) a past =
    get-with_entry_other (gathered cells n) n a (cells n) (λ same. omega (arith, past, same))
    ∙ get-gathered_past cells n a (omega (arith, past))

-- and below it what the function gives
pub get-gathered : (cells : ℕ → Option Cell) (n a : ℕ) → a < n → get (gathered cells n) a ≡ cells a
unfolding gathered
get-gathered cells zero a below = absurd (omega (arith, below))
get-gathered cells (suc n) a below =
    elim (addresses_tell a n) [
      | inl p ↦
          subst (λ b. get (with_entry (gathered cells n) n (cells n)) b ≡ cells b) (sym p.1)
          (get-with_entry_same (gathered cells n) n (cells n) (get-gathered_past cells n n (omega arith)))
      | inr p ↦
          get-with_entry_other (gathered cells n) n a (cells n) p.1
          ∙ get-gathered cells n a (let other = p.1 in omega (arith, below, other))
    ]

-- the byte at an address at the start
pub get-memory_of : (loads : List Load) (a : ℕ) → a < 0x4000000000 → get (memory_of loads) a ≡ cell_at loads a
unfolding memory_of
get-memory_of loads a below = get-gathered (cell_at loads) 0x4000000000 a below

-- nothing lies past the stack
pub get-memory_of_past : (loads : List Load) (a : ℕ) → 0x4000000000 ≤ a → get (memory_of loads) a ≡ None
unfolding memory_of
get-memory_of_past loads a past = get-gathered_past (cell_at loads) 0x4000000000 a past
