-- The pages of the area of mapped pages, and where further ones fit.
use Rattle.std.proofs.Common.{◌≡◌, ℕ, zero, suc, ◌+◌, ◌-◌, ◌*◌, ◌/◌, ◌%◌, ◌<◌, ◌≤◌, ◌&&◌, not, nat_le, Bool, true, false, cond, List, [], ◌∷◌, length, get_or, Some, None, is_some, refl, sym, ap, ◌∙◌, ◌≢◌, lit≤, subst, arith, ◌⊎◌, inl, inr, count_by}
use Rattle.std.specs.List.{list_all, range_with_len}
use Rattle.std.proofs.lemmas.Bool.Decides.{nat_tests, leb_tells, eqb_tells}
use Rattle.std.proofs.lemmas.List.{get_or_default}
use Rattle.std.proofs.lemmas.List.Sums.{sum_by-cons}
use Rattle.guest_words.specs.CallChanges.{area, area_pages, has_page, mapped_pages, are_free, free_place}
use Rattle.guest_words.proofs.AreaLaws.{area_pages-is, free_place-at, free_place-none}
use Rattle.guest_pages.specs.declared.page_buffer.PageBuffer.{PageBuffer}
use Rattle.guest_pages.specs.Buffers.{IsPageBuffer, end_of, cell_in, cells_of, AreSorted, IsCountBefore}
use Rattle.guest_pages.specs.Stretch.{IsFree, IsPlace}
use Rattle.guest_pages.proofs.Lookup.{get-cells_of, page_there, ends_before, between_buffers, starts_ascend}
use Rattle.guest_pages.proofs.Moving.{counts_ascend}

-- a page that is there, and one that isn't
there : (xs : List PageBuffer) (i : ℕ) (d : PageBuffer) (page : ℕ) → AreSorted xs → i < length xs → (get_or xs i d).from ≡ 4096 * page → has_page (cells_of xs) page ≡ true
there xs i d page sorted below from =
    let whole = (sorted.each i d below).whole in
    page_there xs i d (4096 * page) sorted below (omega (arith, from)) (omega (arith, from, whole))

missing : (xs : List PageBuffer) (n page : ℕ) → AreSorted xs
    → ((k : ℕ) (d : PageBuffer) → k < n → k < length xs → end_of (get_or xs k d) ≤ 4096 * page)
    → ((k : ℕ) (d : PageBuffer) → n ≤ k → k < length xs → 4096 * page < (get_or xs k d).from)
    → has_page (cells_of xs) page ≡ false
missing xs n page sorted before after =
    ap is_some (get-cells_of xs (4096 * page) ∙ ap (cell_in (4096 * page)) (between_buffers xs n (4096 * page) before after))

-- one page further: it is there and counts, or it isn't and doesn't
data Step (xs : List PageBuffer) (page i : ℕ) : Type 0 where
  counts : has_page (cells_of xs) page ≡ true → IsCountBefore xs (4096 * (page + 1)) (i + 1) → Step xs page i
  lacks : has_page (cells_of xs) page ≡ false → IsCountBefore xs (4096 * (page + 1)) i → Step xs page i

step_at : (xs : List PageBuffer) (page i : ℕ) → AreSorted xs → IsCountBefore xs (4096 * page) i → Step xs page i
step_at xs page i sorted count = by (leb_tells (length xs) i)
  where
    ends : (k : ℕ) (e : PageBuffer) → k < i → k < length xs → end_of (get_or xs k e) ≤ 4096 * page
    ends = ends_before xs (4096 * page) i sorted count (omega arith)

    all_before : (length xs ≤ i) → Step xs page i
    all_before all =
        lacks (missing xs i page sorted ends (λ k e later below. absurd (omega (arith, all, later, below)))) (record {
          within = count.within;
          before = λ k e less. let b = count.before k e less in omega (arith, b);
          after = λ k e later below. absurd (omega (arith, all, later, below));
        })

    at : (d : PageBuffer) → i < length xs → ((get_or xs i d).from ≡ 4096 * page) ⊎ ((get_or xs i d).from ≢ 4096 * page) → Step xs page i
    at d below (inl same) =
        counts (there xs i d page sorted below same) (record {
          within = omega (arith, below);
          before = λ k e less. elim (eqb_tells k i) [
            | inl here ↦ let is = ap (λ j. (get_or xs j e).from) here.1 ∙ ap (λ (b : PageBuffer). b.from) (get_or_default xs i e d below) in omega (arith, is, same)
            | inr other ↦ let o = other.1 in let b = count.before k e (omega (arith, o, less)) in omega (arith, b)
          ];
          after = λ k e later within.
              let apart = sorted.apart i k e (omega (arith, later)) within in
              let whole = (sorted.each i e below).whole in
              let is = ap (λ (b : PageBuffer). b.from) (get_or_default xs i e d below) in
              omega (arith, apart, whole, is, same);
        })
    at d below (inr other) =
        let low = count.after i d (omega arith) below in
        let aligned = (sorted.each i d below).aligned in
        let next : 4096 * (page + 1) ≤ (get_or xs i d).from = omega (arith, low, other, aligned) in
        let past : (k : ℕ) (e : PageBuffer) → i ≤ k → k < length xs → 4096 * (page + 1) ≤ (get_or xs k e).from = λ k e later within.
        let up = starts_ascend xs i k e sorted later within in
        let is = ap (λ (b : PageBuffer). b.from) (get_or_default xs i e d below) in
        omega (arith, up, is, next) in
        lacks (missing xs i page sorted ends (λ k e later within. let p = past k e later within in omega (arith, p))) (record {
          within = count.within;
          before = λ k e less. let b = count.before k e less in omega (arith, b);
          after = past;
        })

    some : (ys : List PageBuffer) → ys ≡ xs → i < length xs → Step xs page i
    some [] e below = absurd (let l = ap length e in omega (arith, l, below))
    some (y ∷ ys) e below = at y below (elim (eqb_tells (get_or xs i y).from (4096 * page)) [ inl p ↦ inl p.1 | inr p ↦ inr p.1 ])

    by : ((nat_le (length xs) i ≡ true) × (length xs ≤ i)) ⊎ ((nat_le (length xs) i ≡ false) × (i < length xs)) → Step xs page i
    by (inl all) = all_before all.1
    by (inr less) = some xs refl less.1

counted : (xs : List PageBuffer) (a n i : ℕ) (b : Bool) → has_page (cells_of xs) a ≡ b
    → i + count_by (has_page (cells_of xs)) (range_with_len a (suc n)) ≡ i + (cond b 1 0 + count_by (has_page (cells_of xs)) (range_with_len (a + 1) n))
counted xs a n i b is =
    ap (λ k. i + k) (sum_by-cons (λ page. cond (has_page (cells_of xs) page) 1 0) a (range_with_len (a + 1) n)
    ∙ ap (λ t. cond t 1 0 + count_by (has_page (cells_of xs)) (range_with_len (a + 1) n)) is)

-- the pages of a range are those between two places of the list
pub count-range : (n a i j : ℕ) (xs : List PageBuffer) → AreSorted xs → IsCountBefore xs (4096 * a) i → IsCountBefore xs (4096 * (a + n)) j
    → i + count_by (has_page (cells_of xs)) (range_with_len a n) ≡ j
count-range zero a i j xs sorted first last =
    let up = counts_ascend xs (4096 * a) (4096 * (a + 0)) i j first last (omega arith) in
    let down = counts_ascend xs (4096 * (a + 0)) (4096 * a) j i last first (omega arith) in
    omega (arith, up, down)
count-range (suc n) a i j xs sorted first last =
    let e : a + suc n ≡ a + 1 + n = omega arith in
    let P : ℕ → Type 0 = λ p. IsCountBefore xs (4096 * p) j in
    let later = subst P e last in
    elim (step_at xs a i sorted first) [
      | counts is next ↦
          let rest = count-range n (a + 1) (i + 1) j xs sorted next later in
          counted xs a n i true is ∙ omega (arith, rest)
      | lacks is next ↦
          let rest = count-range n (a + 1) i j xs sorted next later in
          counted xs a n i false is ∙ omega (arith, rest)
    ]

pub mapped-between : (xs : List PageBuffer) (i j : ℕ) → AreSorted xs → IsCountBefore xs 0x3f80000000 i → IsCountBefore xs 0x3fc0000000 j → j - i ≡ mapped_pages (cells_of xs)
unfolding mapped_pages area
mapped-between xs i j sorted first last =
    let long = area_pages-is in
    let end : 0x3fc0000000 ≡ 4096 * (0x3f80000 + area_pages) = omega (arith, long) in
    let sum = count-range area_pages 0x3f80000 i j xs sorted first (subst (λ q. IsCountBefore xs q j) end last) in
    omega (arith, sum)

-- pages don't fit where one of them is there
pub not_free : (xs : List PageBuffer) (i : ℕ) (d : PageBuffer) (count page other : ℕ) → AreSorted xs → i < length xs → (get_or xs i d).from ≡ 4096 * other → page ≤ other → other < page + count
    → are_free (cells_of xs) count page ≡ false
not_free xs i d count page other sorted below from low high =
    both (nat_le (4096 * (page + count)) 0x3fc0000000) (one (λ p. not (has_page (cells_of xs) p)) page count other low high (ap not (there xs i d other sorted below from)))
  where
    both : (a : Bool) {b : Bool} → b ≡ false → (a && b) ≡ false
    both true e = e
    both false e = refl

    one : (p : ℕ → Bool) (a n q : ℕ) → a ≤ q → q < a + n → p q ≡ false → list_all p (range_with_len a n) ≡ false
    one p a zero q low high fails = absurd (omega (arith, low, high))
    one p a (suc n) q low high fails =
        elim (eqb_tells a q) [
          | inl e ↦ ap (λ b. b && list_all p (range_with_len (a + 1) n)) (ap p e.1 ∙ fails)
          | inr e ↦ let o = e.1 in both (p a) (one p (a + 1) n q (omega (arith, o, low)) (omega (arith, high)) fails)
        ]

-- nor where they pass the end of the area
pub past_area : (xs : List PageBuffer) (count page : ℕ) → 0x3fc0000000 < 4096 * (page + count) → are_free (cells_of xs) count page ≡ false
past_area xs count page past =
    let t : nat_le (4096 * (page + count)) 0x3fc0000000 ≡ false = grind (arith, nat_tests, past) in
    ap (λ b. b && list_all (λ other. not (has_page (cells_of xs) other)) (range_with_len page count)) t

-- they fit between two pages, or after the last
pub is_free : (xs : List PageBuffer) (n count page : ℕ) → AreSorted xs
    → ((k : ℕ) (d : PageBuffer) → k < n → k < length xs → end_of (get_or xs k d) ≤ 4096 * page)
    → ((k : ℕ) (d : PageBuffer) → n ≤ k → k < length xs → 4096 * (page + count) ≤ (get_or xs k d).from)
    → 4096 * (page + count) ≤ 0x3fc0000000
    → are_free (cells_of xs) count page ≡ true
is_free xs n count page sorted before after fits =
    let t : nat_le (4096 * (page + count)) 0x3fc0000000 ≡ true = grind (arith, nat_tests, fits) in
    ap (λ b. b && list_all (λ other. not (has_page (cells_of xs) other)) (range_with_len page count)) t
    ∙ all page count (λ q low high. ap not (missing xs n q sorted
    (λ k d less within. let b = before k d less within in omega (arith, b, low))
    (λ k d later within. let a = after k d later within in omega (arith, a, high))))
  where
    all : (a n : ℕ) → ((q : ℕ) → a ≤ q → q < a + n → not (has_page (cells_of xs) q) ≡ true) → list_all (λ other. not (has_page (cells_of xs) other)) (range_with_len a n) ≡ true
    all a zero passes = refl
    all a (suc n) passes =
        ap (λ b. b && list_all (λ other. not (has_page (cells_of xs) other)) (range_with_len (a + 1) n)) (passes a (omega arith) (omega arith))
        ∙ all (a + 1) n (λ q low high. passes q (omega (arith, low)) (omega (arith, high)))

-- at what a search through the pages of the area has come to
pub record IsLowest (xs : List PageBuffer) (count place n : ℕ) : Type 0 where
  pub low : 0x3f80000000 ≤ place
  pub high : place ≤ 0x3fc0000000
  pub aligned : place % 4096 ≡ 0
  pub passed : (k : ℕ) (d : PageBuffer) → k < n → k < length xs → end_of (get_or xs k d) ≤ place
  pub ahead : (k : ℕ) (d : PageBuffer) → n ≤ k → k < length xs → place ≤ (get_or xs k d).from
  pub none : (page : ℕ) → 0x3f80000 ≤ page → 4096 * page < place → are_free (cells_of xs) count page ≡ false

pub lowest_first : (xs : List PageBuffer) (count n : ℕ) → AreSorted xs → IsCountBefore xs 0x3f80000000 n → IsLowest xs count 0x3f80000000 n
lowest_first xs count n sorted before = record {
  low = lit≤ tt;
  high = lit≤ tt;
  aligned = refl;
  passed = ends_before xs 0x3f80000000 n sorted before refl;
  ahead = before.after;
  none = λ page low less. absurd (omega (arith, low, less));
}

-- a gap that is too short
pub lowest_next : (xs : List PageBuffer) (count place n : ℕ) (r : PageBuffer) → AreSorted xs → IsLowest xs count place n → n < length xs → r ≡ get_or xs n r
    → r.from < 0x3fc0000000 → (r.from - place) / 4096 < count → IsLowest xs count (r.from + 4096) (n + 1)
lowest_next xs count place n r sorted at below is inside short =
    let page : IsPageBuffer r = subst IsPageBuffer (sym is) (sorted.each n r below) in
    let whole = page.whole in
    let aligned = page.aligned in
    let low = at.low in
    let even = at.aligned in
    let here : place ≤ r.from = subst (λ (b : PageBuffer). place ≤ b.from) (sym is) (at.ahead n r (omega arith) below) in
    let same : (d : PageBuffer) → get_or xs n d ≡ r = λ d. get_or_default xs n d r below ∙ sym is in
    record {
      low = omega (arith, low, here);
      high = omega (arith, inside, aligned);
      aligned = omega (arith, aligned);
      passed = λ k d less within. elim (eqb_tells k n) [
        | inl e ↦ let f = ap (λ j. end_of (get_or xs j d)) e.1 ∙ ap end_of (same d) in omega (arith, f, whole)
        | inr e ↦ let o = e.1 in let p = at.passed k d (omega (arith, o, less)) within in omega (arith, p, here)
      ];
      ahead = λ k d later within.
          let apart = sorted.apart n k d (omega (arith, later)) within in
          let f = ap end_of (same d) in
          omega (arith, apart, f, whole);
      none = λ p above less. elim (leb_tells place (4096 * p)) [
        | inr before ↦ at.none p above before.1
        | inl past ↦
            let from = past.1 in
            let other = r.from / 4096 in
            not_free xs n r count p other sorted below (let f = ap (λ (b : PageBuffer). b.from) is in omega (arith, f, aligned)) (omega (arith, less, aligned)) (omega (arith, short, from, even, aligned, here))
      ];
    }

-- a gap that is long enough
pub lowest_found : (xs : List PageBuffer) (count place n : ℕ) → AreSorted xs → IsLowest xs count place n
    → ((k : ℕ) (d : PageBuffer) → n ≤ k → k < length xs → place + 4096 * count ≤ (get_or xs k d).from) → place + 4096 * count ≤ 0x3fc0000000
    → Some place ≡ free_place (cells_of xs) count
lowest_found xs count place n sorted at after fits =
    let low = at.low in
    let high = at.high in
    let even = at.aligned in
    let page = place / 4096 in
    let whole : 4096 * page ≡ place = omega (arith, even) in
    let free : are_free (cells_of xs) count page ≡ true = is_free xs n count page sorted (λ k d less within. let p = at.passed k d less within in omega (arith, p, whole)) (λ k d later within. let a = after k d later within in omega (arith, a, whole)) (omega (arith, fits, whole)) in
    by page whole free (leb_tells 262144 (page - 0x3f80000))
  where
    by : (page : ℕ) → 4096 * page ≡ place → are_free (cells_of xs) count page ≡ true
        → ((nat_le 262144 (page - 0x3f80000) ≡ true) × (262144 ≤ page - 0x3f80000)) ⊎ ((nat_le 262144 (page - 0x3f80000) ≡ false) × (page - 0x3f80000 < 262144)) → Some place ≡ free_place (cells_of xs) count
    by page whole free (inr inside) =
        let low = at.low in
        let less = inside.1 in
        let e : 0x3f80000 + (page - 0x3f80000) ≡ page = omega (arith, whole, low) in
        sym (free_place-at (cells_of xs) count (page - 0x3f80000) less (λ j below. at.none (0x3f80000 + j) (omega arith) (omega (arith, below, whole, low)))
        (ap (are_free (cells_of xs) count) e ∙ free)
        ∙ ap Some (omega (arith, e, whole)))
    by page whole free (inl end) =
        let past = end.1 in
        let none : count ≡ 0 = omega (arith, past, whole, fits) in
        let first : are_free (cells_of xs) 0 0x3f80000 ≡ true = refl in
        let never = at.none 0x3f80000 (lit≤ tt) (omega (arith, past, whole)) in
        let t = sym (ap (λ c. are_free (cells_of xs) c 0x3f80000) none ∙ first) ∙ never in
        cc

pub place_found : (xs : List PageBuffer) (count place n : ℕ) → IsLowest xs count place n → place + 4096 * count ≤ 0x3fc0000000 → IsPlace count place
place_found xs count place n at fits = record { aligned = at.aligned; low = at.low; high = fits }

pub free_found : (xs : List PageBuffer) (count place n : ℕ) → IsLowest xs count place n → ((k : ℕ) (d : PageBuffer) → n ≤ k → k < length xs → place + 4096 * count ≤ (get_or xs k d).from)
    → IsFree (cells_of xs) place (4096 * count)
free_found xs count place n at after q low high =
    get-cells_of xs q
    ∙ ap (cell_in q) (between_buffers xs n q
    (λ k d less within. let p = at.passed k d less within in omega (arith, p, low))
    (λ k d later within. let a = after k d later within in omega (arith, a, high)))

-- no gap is
pub lowest_none : (xs : List PageBuffer) (count place n : ℕ) → IsLowest xs count place n → (0x3fc0000000 - place) / 4096 < count → None ≡ free_place (cells_of xs) count
lowest_none xs count place n at short =
    let even = at.aligned in
    let high = at.high in
    sym (free_place-none (cells_of xs) count (λ j below. elim (leb_tells place (4096 * (0x3f80000 + j))) [
      | inr before ↦ at.none (0x3f80000 + j) (omega arith) before.1
      | inl past ↦ let from = past.1 in past_area xs count (0x3f80000 + j) (omega (arith, from, short, even, high))
    ]))
