-- The lowest place in the area of mapped pages.
use Rattle.std.proofs.Common.{◌≡◌, ℕ, zero, suc, ◌+◌, ◌*◌, ◌/◌, ◌<◌, ◌≤◌, ◌&&◌, Bool, true, false, cond, Option, Some, None, find, List, ◌∷◌, refl, sym, ap, ◌∙◌, subst, arith, if◌then◌else◌}
use Rattle.std.specs.Option.{option_map}
use Rattle.std.specs.List.{range_with_len}
use Rattle.guest_words.specs.Space.{Space}
use Rattle.guest_words.specs.CallChanges.{area, area_pages, are_free, free_place}

-- the first number of a range that passes
pub find-range : (p : ℕ → Bool) (a n k : ℕ) → k < n → ((j : ℕ) → j < k → p (a + j) ≡ false) → p (a + k) ≡ true
    → find p (range_with_len a n) ≡ Some (a + k)
find-range p a zero k below others is = absurd (omega (arith, below))
find-range p a (suc n) zero below others is =
    let here : a + 0 ≡ a = omega arith in
    ap (λ b. if b then Some a else find p (range_with_len (a + 1) n)) (ap p (sym here) ∙ is) ∙ ap Some (sym here)
find-range p a (suc n) (suc k) below others is =
    let here : a + 0 ≡ a = omega arith in
    let next : (j : ℕ) → a + suc j ≡ a + 1 + j = λ j. omega arith in
    ap (λ b. if b then Some a else find p (range_with_len (a + 1) n)) (ap p (sym here) ∙ others 0 (omega arith))
    ∙ find-range p (a + 1) n k (omega (arith, below))
    (λ j less. ap p (sym (next j)) ∙ others (suc j) (omega (arith, less)))
    (ap p (sym (next k)) ∙ is)
    ∙ ap Some (sym (next k))

-- none passes
pub find-range_none : (p : ℕ → Bool) (a n : ℕ) → ((j : ℕ) → j < n → p (a + j) ≡ false) → find p (range_with_len a n) ≡ None
find-range_none p a zero others = refl
find-range_none p a (suc n) others =
    let here : a + 0 ≡ a = omega arith in
    let next : (j : ℕ) → a + suc j ≡ a + 1 + j = λ j. omega arith in
    ap (λ b. if b then Some a else find p (range_with_len (a + 1) n)) (ap p (sym here) ∙ others 0 (omega arith))
    ∙ find-range_none p (a + 1) n (λ j less. ap p (sym (next j)) ∙ others (suc j) (omega (arith, less)))

pub area_pages-is : area_pages ≡ 262144
unfolding area_pages
area_pages-is = refl

-- so many pages fit at this page of the area, and at none before it
pub free_place-at : (m : Space) (count k : ℕ) → k < 262144 → ((j : ℕ) → j < k → are_free m count (0x3f80000 + j) ≡ false)
    → are_free m count (0x3f80000 + k) ≡ true → free_place m count ≡ Some (4096 * (0x3f80000 + k))
unfolding free_place area
free_place-at m count k below others is =
    let long = area_pages-is in
    ap (option_map (λ page. 4096 * page)) (find-range (are_free m count) 0x3f80000 area_pages k (omega (arith, long, below)) others is)

-- they fit nowhere
pub free_place-none : (m : Space) (count : ℕ) → ((j : ℕ) → j < 262144 → are_free m count (0x3f80000 + j) ≡ false) → free_place m count ≡ None
unfolding free_place area
free_place-none m count others =
    let long = area_pages-is in
    ap (option_map (λ page. 4096 * page))
    (find-range_none (are_free m count) 0x3f80000 area_pages (λ j less. others j (omega (arith, long, less))))
