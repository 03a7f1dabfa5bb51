-- What stands at an address after zeros came or bytes went.
use Rattle.std.proofs.Common.{◌≡◌, ◌≢◌, ℕ, zero, suc, ◌+◌, ◌<◌, ◌≤◌, ◌&&◌, ◌==◌, not, nat_le, nat_lt, Bool, true, false, cond, Option, Some, None, refl, sym, ap, ◌∙◌, arith, if◌then◌else◌, inl, inr}
use Rattle.std.proofs.lemmas.Bool.Decides.{nat_tests, leb_tells}
use Rattle.std.specs.Cmp.{nat_cmp_total}
use Rattle.std.specs.Ordering.{nat_cmp, eq_by_cmp, is_eq}
use Rattle.std.specs.declared.cmp.Ordering.{Ordering}
use Rattle.std.specs.declared.cmp.Ordering.TheVariants.{Equal}
use Rattle.std.specs.FinMap.{get, insert, get-insert, get-retain_keys}
use Rattle.guest_words.specs.declared.image.Rights.{Rights}
use Rattle.guest_words.specs.declared.image.Cell.{Cell}
use Rattle.guest_words.specs.Space.{Space, has_right, each_has, zero_cell, with_zeros, without}
use Rattle.guest_words.proofs.StartMemory.{addresses_tell}

-- an address is among so many from one on
abbrev pub is_within : ℕ → ℕ → ℕ → Bool
is_within from size address = nat_le from address && nat_lt address (from + size)

zeros_step : (m : Space) (from size : ℕ) (rights : Rights) (a : ℕ) → (b : Bool) → nat_le a from ≡ b
    → get (with_zeros m (from + 1) size rights) a ≡ (if is_within (from + 1) size a then Some (zero_cell rights) else get m a)
    → get (insert (with_zeros m (from + 1) size rights) from (zero_cell rights)) a
    ≡ (if is_within from (suc size) a then Some (zero_cell rights) else get m a)
zeros_step m from size rights a b e rest =
    get-insert nat_cmp_total (with_zeros m (from + 1) size rights) from (zero_cell rights) a
    ∙ elim (addresses_tell a from) [
      | inl p ↦
          ap (λ t. cond t (Some (zero_cell rights)) (get (with_zeros m (from + 1) size rights) a)) p.0
          ∙ sym (ap (λ t. if t then Some (zero_cell rights) else get m a) (met p.1))
      | inr p ↦
          ap (λ t. cond t (Some (zero_cell rights)) (get (with_zeros m (from + 1) size rights) a)) p.0
          ∙ rest
          ∙ ap (λ t. if t then Some (zero_cell rights) else get m a) (moved p.1 (nat_le from a) refl)
    ]
  where
    met : a ≡ from → is_within from (suc size) a ≡ true
    met same = grind (arith, nat_tests, same)

    moved : a ≢ from → (t : Bool) → nat_le from a ≡ t → is_within (from + 1) size a ≡ is_within from (suc size) a
    moved other true at = grind (arith, nat_tests, other, at)
    moved other false at = grind (arith, nat_tests, other, at)

pub get-with_zeros : (m : Space) (from size : ℕ) (rights : Rights) (a : ℕ)
    → get (with_zeros m from size rights) a ≡ (if is_within from size a then Some (zero_cell rights) else get m a)
unfolding with_zeros
get-with_zeros m from zero rights a =
    sym (ap (λ t. if t then Some (zero_cell rights) else get m a) (none (nat_le from a) refl))
  where
    none : (t : Bool) → nat_le from a ≡ t → is_within from 0 a ≡ false
    none true at = grind (arith, nat_tests, at)
    none false at = grind (arith, nat_tests, at)
get-with_zeros m from (suc size) rights a =
    zeros_step m from size rights a (nat_le a from) refl (get-with_zeros m (from + 1) size rights a)

pub get-without : (m : Space) (from size a : ℕ)
    → get (without m from size) a ≡ (if is_within from size a then None else get m a)
unfolding without
get-without m from size a =
    get-retain_keys m (λ address. not (is_within from size address)) a alike
    ∙ flip (is_within from size a)
  where
    alike : (x : ℕ) → nat_cmp a x ≡ Equal → not (is_within from size x) ≡ not (is_within from size a)
    alike x same = elim (addresses_tell a x) [
      | inl p ↦ ap (λ q. not (is_within from size q)) (sym p.1)
      | inr p ↦ let told : is_eq (nat_cmp a x) ≡ false = p.0 in let t = ap is_eq same in cc
    ]

    flip : (t : Bool) → cond (not t) (get m a) None ≡ (if t then None else get m a)
    flip true = refl
    flip false = refl

-- a range has a right where each of its bytes has it
pub each_has-all : (right : Rights → Bool) (m : Space) (from size : ℕ)
    → ((a : ℕ) → from ≤ a → a < from + size → has_right right (get m a) ≡ true) → each_has right m from size ≡ true
unfolding each_has
each_has-all right m from zero has = refl
each_has-all right m from (suc size) has =
    ap (λ b. b && each_has right m (from + 1) size) (has from (omega arith) (omega arith))
    ∙ each_has-all right m (from + 1) size (λ a low high. has a (omega (arith, low)) (omega (arith, high)))
