-- What bytes that lie side by side have at an address.
use Rattle.std.proofs.Common.{◌≡◌, ℕ, zero, suc, ◌+◌, ◌<◌, ◌≤◌, Bool, true, false, cond, List, [], ◌∷◌, ◌++◌, length, get_or, Option, Some, None, refl, ap, ◌∙◌, arith, inl, inr}
use Rattle.std.specs.Ordering.{nat_cmp, eq_by_cmp}
use Rattle.std.specs.FinMap.{find}
use Rattle.guest_words.specs.declared.image.Rights.{Rights}
use Rattle.guest_words.specs.declared.image.Cell.{Cell}
use Rattle.guest_words.specs.Cells.{run_of}
use Rattle.guest_words.proofs.StartMemory.{addresses_tell}

-- the first of two that is there
abbrev pub or_else : {X : Type 0} → Option X → Option X → Option X
or_else (Some x) y = Some x
or_else None y = y

or_else_cond : {X : Type 0} (b : Bool) (x : X) (y z : Option X) → cond b (Some x) (or_else y z) ≡ or_else (cond b (Some x) y) z
or_else_cond true x y z = refl
or_else_cond false x y z = refl

-- entries before others
pub find-append : (es fs : List (ℕ × Cell)) (q : ℕ) → find nat_cmp q (es ++ fs) ≡ or_else (find nat_cmp q es) (find nat_cmp q fs)
find-append [] fs q = refl
find-append (e ∷ es) fs q = ap (cond (eq_by_cmp nat_cmp q e.0) (Some e.1)) (find-append es fs q) ∙ or_else_cond (eq_by_cmp nat_cmp q e.0) e.1 _ _

-- inside the bytes, and outside
pub find-run_inside : (at : ℕ) (r : Rights) (bs : List ℕ) (q i : ℕ) → q ≡ at + i → i < length bs → find nat_cmp q (run_of at r bs) ≡ Some (record { byte = get_or bs i 0; rights = r })
find-run_inside at r [] q i e h = absurd (omega arith)
find-run_inside at r (b ∷ bs) q zero e h =
    let same : q ≡ at = omega arith in
    elim (addresses_tell q at) [ inl p ↦ ap (λ t. cond t (Some (record { byte = b; rights = r })) (find nat_cmp q (run_of (at + 1) r bs))) p.0 | inr p ↦ absurd (p.1 same) ]
find-run_inside at r (b ∷ bs) q (suc i) e h =
    let next : q ≡ at + 1 + i = omega arith in
    let less : i < length bs = omega arith in
    elim (addresses_tell q at) [
      | inl p ↦ absurd (let same = p.1 in omega arith)
      | inr p ↦ ap (λ t. cond t (Some (record { byte = b; rights = r })) (find nat_cmp q (run_of (at + 1) r bs))) p.0 ∙ find-run_inside (at + 1) r bs q i next less
    ]

pub find-run_outside : (at : ℕ) (r : Rights) (bs : List ℕ) (q : ℕ) → (at ≤ q → q < at + length bs → ⊥) → find nat_cmp q (run_of at r bs) ≡ None
find-run_outside at r [] q out = refl
find-run_outside at r (b ∷ bs) q out =
    elim (addresses_tell q at) [
      | inl p ↦ absurd (let same = p.1 in out (omega arith) (omega arith))
      | inr p ↦ ap (λ t. cond t (Some (record { byte = b; rights = r })) (find nat_cmp q (run_of (at + 1) r bs))) p.0
          ∙ find-run_outside (at + 1) r bs q (λ l h. out (omega arith) (omega arith))
    ]
