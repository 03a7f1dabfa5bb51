-- What memory has at an address after bytes come or go.
use Rattle.std.proofs.Common.{◌≡◌, ℕ, suc, ◌+◌, ◌-◌, ◌<◌, ◌≤◌, subst, Bool, true, false, cond, List, [], ◌∷◌, length, Some, refl, sym, ap, ◌∙◌, arith, inl, inr, if◌then◌else◌, slice_index}
use Rattle.std.specs.Cmp.{nat_cmp_total}
use Rattle.std.specs.FinMap.{get, get-insert}
use Rattle.std.proofs.lemmas.Bool.Decides.{nat_tests}
use Rattle.guest_words.specs.declared.image.Rights.{Rights}
use Rattle.guest_words.specs.Space.{Space}
use Rattle.guest_words.proofs.SpaceLaws.{is_within}
use Rattle.guest_words.proofs.StartMemory.{addresses_tell}
use Rattle.guest_pages.specs.Paged.{Paged, with_run}

pub in_yes : (from size q : ℕ) → from ≤ q → q < from + size → is_within from size q ≡ true
in_yes from size q low high = grind (arith, nat_tests)

pub get-with_run : (bytes : List ℕ) (m : Space) (from : ℕ) (rights : Rights) (q : ℕ)
    → get (with_run m from rights bytes) q ≡ (if is_within from (length bytes) q then Some (record { byte = slice_index bytes (q - from); rights = rights }) else get m q)
unfolding with_run
get-with_run [] m from rights q =
    let none : is_within from 0 q ≡ false = grind (arith, nat_tests) in
    sym (ap (λ t. if t then Some (record { byte = slice_index [] (q - from); rights = rights }) else get m q) none)
get-with_run (b ∷ bytes) m from rights q =
    get-insert nat_cmp_total (with_run m (from + 1) rights bytes) from (record { byte = b; rights = rights }) q
    ∙ elim (addresses_tell q from) [
      | inl s ↦
          let same = s.1 in
          let first : q - from ≡ 0 = omega arith in
          ap (λ t. cond t (Some (record { byte = b; rights = rights })) (get (with_run m (from + 1) rights bytes) q)) s.0
          ∙ sym (ap (λ t. if t then Some (record { byte = slice_index (b ∷ bytes) (q - from); rights = rights }) else get m q) (in_yes from (suc (length bytes)) q (omega arith) (omega arith))
          ∙ ap (λ i. Some (record { byte = slice_index (b ∷ bytes) i; rights = rights })) first)
      | inr s ↦
          let other = s.1 in
          let same : is_within (from + 1) (length bytes) q ≡ is_within from (suc (length bytes)) q = grind (arith, nat_tests) in
          ap (λ t. cond t (Some (record { byte = b; rights = rights })) (get (with_run m (from + 1) rights bytes) q)) s.0
          ∙ get-with_run bytes m (from + 1) rights q
          ∙ ap (λ t. if t then Some (record { byte = slice_index bytes (q - (from + 1)); rights = rights }) else get m q) same
          ∙ shifted (is_within from (suc (length bytes)) q) refl other
    ]
  where
    shifted : (t : Bool) → is_within from (suc (length bytes)) q ≡ t → (q ≡ from → ⊥)
        → (if t then Some (record { byte = slice_index bytes (q - (from + 1)); rights = rights }) else get m q) ≡ (if t then Some (record { byte = slice_index (b ∷ bytes) (q - from); rights = rights }) else get m q)
    shifted true e other =
        let less : from ≤ q = grind (arith, nat_tests) in
        let next : q - from ≡ suc (q - (from + 1)) = omega arith in
        sym (ap (λ i. Some (record { byte = slice_index (b ∷ bytes) i; rights = rights })) next)
    shifted false e other = refl

-- what a call made of the bytes alone is what contracts see
pub bytes_alone : (new old : Space) (spare : ℕ) (p : Paged) (f : Space → Space) → record { space = old; spare = spare } ≡ p → new ≡ f old
    → record { space = new; spare = spare } ≡ record p { space = f p.space }
bytes_alone new old spare p f seen is =
    let P : Paged → Type 0 = λ p. record { space = new; spare = spare } ≡ record p { space = f p.space } in
    subst P seen (ap (λ m. record { space = m; spare = spare }) is)
