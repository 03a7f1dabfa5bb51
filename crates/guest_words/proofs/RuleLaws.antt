-- Lists of rules: where the first broken one stands, and what it says that there is none.
use Rattle.std.proofs.Common.{◌≡◌, ℕ, List, [], ◌∷◌, ◌++◌, true, false, refl}
use Rattle.std.specs.Prelude.{Some, None, if◌then◌else◌}
use Rattle.std.specs.List.{All}
use Rattle.std.proofs.lemmas.List.Elements.{All-nil, All-cons, All-head, All-tail}
use Rattle.guest_words.specs.Rules.{Rule, first_broken, IsKept}

-- where the first rules are kept, the first broken one is among the others
pub first_broken-append_none :
    {F : Type 0} (xs ys : List (Rule F)) → first_broken xs ≡ None → first_broken (xs ++ ys) ≡ first_broken ys
first_broken-append_none [] ys kept = refl
first_broken-append_none (r ∷ rs) ys kept =
    elim r.broken as (λ b. (if b then Some (r.fault, r.offset) else first_broken rs) ≡ None → (if b then Some (r.fault, r.offset) else first_broken (rs ++ ys)) ≡ first_broken ys) [
      | true ↦ λ h. cc
      | false ↦ λ h. first_broken-append_none rs ys h
    ] kept

-- where one of the first rules is broken, the others don't matter
pub first_broken-append_some :
    {F : Type 0} (xs ys : List (Rule F)) (x : F × ℕ) → first_broken xs ≡ Some x → first_broken (xs ++ ys) ≡ Some x
first_broken-append_some [] ys x broken = cc
first_broken-append_some (r ∷ rs) ys x broken =
    elim r.broken as (λ b. (if b then Some (r.fault, r.offset) else first_broken rs) ≡ Some x → (if b then Some (r.fault, r.offset) else first_broken (rs ++ ys)) ≡ Some x) [
      | true ↦ λ h. h
      | false ↦ λ h. first_broken-append_some rs ys x h
    ] broken

-- a list of rules is kept where both parts are
pub kept_parts :
    {F : Type 0} (xs ys : List (Rule F)) → first_broken (xs ++ ys) ≡ None → (first_broken xs ≡ None) × (first_broken ys ≡ None)
kept_parts [] ys kept = (refl, kept)
kept_parts (r ∷ rs) ys kept =
    elim r.broken as (λ b. (if b then Some (r.fault, r.offset) else first_broken (rs ++ ys)) ≡ None → ((if b then Some (r.fault, r.offset) else first_broken rs) ≡ None) × (first_broken ys ≡ None)) [
      | true ↦ λ h. cc
      | false ↦ λ h. kept_parts rs ys h
    ] kept

pub kept_first :
    {F : Type 0} (r : Rule F) (rs : List (Rule F)) → first_broken (r ∷ rs) ≡ None → (r.broken ≡ false) × (first_broken rs ≡ None)
kept_first r rs kept =
    elim r.broken as (λ b. (if b then Some (r.fault, r.offset) else first_broken rs) ≡ None → (b ≡ false) × (first_broken rs ≡ None)) [
      | true ↦ λ h. cc
      | false ↦ λ h. (refl, h)
    ] kept

-- there is no first broken rule exactly where each rule is kept
pub All-from_first_broken : {F : Type 0} (rs : List (Rule F)) → first_broken rs ≡ None → All IsKept rs
All-from_first_broken [] kept = All-nil IsKept
All-from_first_broken (r ∷ rs) kept =
    let parts = kept_first r rs kept in
    All-cons IsKept r rs parts.0 (All-from_first_broken rs parts.1)

pub first_broken-from_All : {F : Type 0} (rs : List (Rule F)) → All IsKept rs → first_broken rs ≡ None
first_broken-from_All [] kept = refl
first_broken-from_All (r ∷ rs) kept =
    let here : r.broken ≡ false = All-head IsKept r rs kept in
    rw here (first_broken-from_All rs (All-tail IsKept r rs kept))
