-- Pages that lie side by side.
use Rattle.std.proofs.Common.{◌≡◌, ℕ, zero, suc, ◌+◌, ◌-◌, ◌*◌, ◌/◌, ◌<◌, ◌≤◌, ◌↔◌, List, length, get_or, take, drop, IsTrue, nat_eq, sym, ap, ◌∙◌, subst, arith}
use Rattle.std.proofs.lemmas.Bool.Decides.{nat_tests}
use Rattle.std.proofs.lemmas.List.{get_or_default, get_or-take, get_or-drop, length-drop}
use Rattle.guest_pages.specs.declared.page_buffer.PageBuffer.{PageBuffer}
use Rattle.guest_pages.specs.Buffers.{AreAdjacent, AreSorted}
use Rattle.guest_pages.proofs.AreaSearch.{IsLowest, lowest_next}
use Rattle.guest_pages.proofs.Lookup.{starts_ascend}
use Rattle.guest_pages.proofs.Splicing.{sorted-drop, sorted-take}

-- a part of the pages ascends too
pub sorted-part : (xs : List PageBuffer) (i j : ℕ) → AreSorted xs → i < j → j ≤ length xs → AreSorted (take (j - i) (drop i xs))
sorted-part xs i j sorted less within =
    let long = length-drop i xs in
    sorted-take (drop i xs) (j - i) (omega (arith, long, less, within)) (sorted-drop xs i (omega (arith, less, within)) sorted)

-- a page begins behind all that can lie between it and an earlier one
starts_apart : (xs : List PageBuffer) (i n : ℕ) (d : PageBuffer) → AreSorted xs → i + n < length xs → (get_or xs i d).from + n * 4096 ≤ (get_or xs (i + n) d).from
starts_apart xs i zero d sorted below =
    let here : i ≡ i + 0 = omega arith in
    let same = ap (λ k. (get_or xs k d).from) here in
    omega (arith, same)
starts_apart xs i (suc n) d sorted below =
    let before = starts_apart xs i n d sorted (omega (arith, below)) in
    let apart = sorted.apart (i + n) (i + suc n) d (omega arith) below in
    let whole = (sorted.each (i + n) d (omega (arith, below))).whole in
    omega (arith, before, apart, whole)

starts_behind : (xs : List PageBuffer) (i j : ℕ) (d : PageBuffer) → AreSorted xs → i ≤ j → j < length xs → (get_or xs i d).from + (j - i) * 4096 ≤ (get_or xs j d).from
starts_behind xs i j d sorted ordered below =
    let there : i + (j - i) ≡ j = omega (arith, ordered) in
    let same = ap (λ k. (get_or xs k d).from) there in
    let apart = starts_apart xs i (j - i) d sorted (omega (arith, ordered, below)) in
    omega (arith, same, apart)

-- where the last of some pages lies side by side with the others, all of them do
adjacent_upto : (xs : List PageBuffer) (count : ℕ) (d : PageBuffer) → AreSorted xs → 0 < count → count ≤ length xs
    → (get_or xs (count - 1) d).from ≡ (get_or xs 0 d).from + (count - 1) * 4096 → AreAdjacent xs count
adjacent_upto xs count d sorted some within last = record {
  starts = λ k e less.
      let low = starts_behind xs 0 k d sorted (omega arith) (omega (arith, less, within)) in
      let high = starts_behind xs k (count - 1) d sorted (omega (arith, less)) (omega (arith, some, within)) in
      let first = ap (λ (b : PageBuffer). b.from) (get_or_default xs 0 e d (omega (arith, some, within))) in
      let here = ap (λ (b : PageBuffer). b.from) (get_or_default xs k e d (omega (arith, less, within))) in
      omega (arith, low, high, last, first, here, less);
}

-- the first of some pages begins at or before the last
pub first_upto : (xs : List PageBuffer) (count : ℕ) (d e : PageBuffer) → AreSorted xs → 0 < count → count ≤ length xs → (get_or xs 0 e).from ≤ (get_or xs (count - 1) d).from
first_upto xs count d e sorted some within =
    let up = starts_ascend xs 0 (count - 1) d sorted (omega arith) (omega (arith, some, within)) in
    let first = ap (λ (b : PageBuffer). b.from) (get_or_default xs 0 e d (omega (arith, some, within))) in
    omega (arith, up, first)

-- the last of some pages tells
pub adjacent_tells : (xs : List PageBuffer) (count : ℕ) (d e : PageBuffer) → AreSorted xs → 0 < count → count ≤ length xs
    → IsTrue (nat_eq (((get_or xs (count - 1) d).from - (get_or xs 0 e).from) / 4096) (count - 1)) ↔ AreAdjacent xs count
adjacent_tells xs count d e sorted some within = (yes, all)
  where
    first : (get_or xs 0 e).from ≡ (get_or xs 0 d).from
    first = ap (λ (b : PageBuffer). b.from) (get_or_default xs 0 e d (omega (arith, some, within)))

    yes : IsTrue (nat_eq (((get_or xs (count - 1) d).from - (get_or xs 0 e).from) / 4096) (count - 1)) → AreAdjacent xs count
    yes is =
        let quotient : ((get_or xs (count - 1) d).from - (get_or xs 0 e).from) / 4096 ≡ count - 1 = grind (arith, nat_tests, is) in
        let low = (sorted.each 0 d (omega (arith, some, within))).aligned in
        let high = (sorted.each (count - 1) d (omega (arith, some, within))).aligned in
        let behind = starts_behind xs 0 (count - 1) d sorted (omega arith) (omega (arith, some, within)) in
        adjacent_upto xs count d sorted some within (omega (arith, quotient, low, high, behind, first))

    all : AreAdjacent xs count → IsTrue (nat_eq (((get_or xs (count - 1) d).from - (get_or xs 0 e).from) / 4096) (count - 1))
    all adjacent =
        let last = adjacent.starts (count - 1) d (omega (arith, some)) in
        let quotient : ((get_or xs (count - 1) d).from - (get_or xs 0 e).from) / 4096 ≡ count - 1 = omega (arith, last, first) in
        grind (arith, nat_tests, quotient)

-- one page lies side by side with itself
pub adjacent_one : (xs : List PageBuffer) → AreAdjacent xs 1
adjacent_one xs = record {
  starts = λ k d less.
      let here : k ≡ 0 = omega (arith, less) in
      let same = ap (λ j. (get_or xs j d).from) here in
      omega (arith, same, here);
}

-- pages side by side in a part of the list
pub adjacent_in : (xs : List PageBuffer) (i j count k : ℕ) (d : PageBuffer) → AreAdjacent (take (j - i) (drop i xs)) count → count ≤ j - i → k < count
    → (get_or xs (i + k) d).from ≡ (get_or xs i d).from + k * 4096
adjacent_in xs i j count k d adjacent within less =
    let from : (n : ℕ) → n < j - i → (get_or (take (j - i) (drop i xs)) n d).from ≡ (get_or xs (i + n) d).from =
    λ n below. ap (λ (b : PageBuffer). b.from) (get_or-take (j - i) (drop i xs) n d below ∙ get_or-drop i xs n d) in
    let here = from k (omega (arith, less, within)) in
    let first = from 0 (omega (arith, less, within)) in
    let start : i + 0 ≡ i = omega arith in
    let same = ap (λ n. (get_or xs n d).from) start in
    let is = adjacent.starts k d less in
    omega (arith, here, first, same, is)

-- behind pages side by side, where nothing fits before them
pub lowest_behind : (m : ℕ) (xs : List PageBuffer) (count place n : ℕ) (d : PageBuffer) → AreSorted xs → IsLowest xs count place n → n + m < length xs
    → ((k : ℕ) → k ≤ m → (get_or xs (n + k) d).from ≡ (get_or xs n d).from + k * 4096)
    → (get_or xs (n + m) d).from < 0x3fc0000000 → ((get_or xs n d).from - place) / 4096 < count
    → IsLowest xs count ((get_or xs (n + m) d).from + 4096) (n + m + 1)
lowest_behind zero xs count place n d sorted at below adjacent inside short =
    let here : n + 0 ≡ n = omega arith in
    let same = ap (λ k. (get_or xs k d).from) here in
    subst (λ k. IsLowest xs count ((get_or xs k d).from + 4096) (k + 1)) (sym here)
    (lowest_next xs count place n (get_or xs n d) sorted at (omega (arith, below)) (get_or_default xs n d (get_or xs n d) (omega (arith, below))) (omega (arith, inside, same)) short)
lowest_behind (suc m) xs count place n d sorted at below adjacent inside short =
    let next : n + m + 1 ≡ n + suc m = omega arith in
    let last = adjacent (suc m) (omega arith) in
    let before = adjacent m (omega arith) in
    let passed = lowest_behind m xs count place n d sorted at (omega (arith, below)) (λ k less. adjacent k (omega (arith, less))) (omega (arith, last, before, inside)) short in
    let r = get_or xs (n + suc m) d in
    lowest_next xs count ((get_or xs (n + m) d).from + 4096) (n + suc m) r sorted (subst (IsLowest xs count ((get_or xs (n + m) d).from + 4096)) next passed) below
    (get_or_default xs (n + suc m) d r below) inside (omega (arith, last, before, short))
