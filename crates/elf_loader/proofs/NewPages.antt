-- A load that clashes with no earlier one shares at most its first and its last page with them.
use Rattle.std.proofs.Common.{◌≡◌, ℕ, zero, suc, ◌+◌, ◌-◌, ◌/◌, ◌<◌, ◌≤◌, List, [], ◌∷◌, ◌++◌, map, Bool, true, false, not, ◌||◌, ◌&&◌, cond, refl, sym, ap, ◌∙◌, arith}
use Rattle.std.specs.Prelude.{◌==◌}
use Rattle.std.specs.List.{list_any, range_with_len, flat_map, sum_by}
use Rattle.std.proofs.lemmas.Bool.{or_parts}
use Rattle.std.proofs.lemmas.Bool.Decides.{nat_tests}
use Rattle.std.proofs.lemmas.List.Sums.{sum_by-append}
use Rattle.guest_words.specs.declared.image.Load.{Load}
use Rattle.guest_words.specs.Image.{addresses_of, pages_of, contains, meets, clashes, page_count}
use Rattle.guest_words.proofs.PageLaws.{contains-range, contains-pages, meets_at, byte_in_page, page_count-push}
use Rattle.elf_loader.proofs.Places.{list_any-map}
use Rattle.elf_loader.specs.declared.segment.Segment.{Segment}
use Rattle.elf_loader.specs.Segment.{load_of}

-- a range that is one number longer
range-more : (a n : ℕ) → range_with_len a (suc n) ≡ range_with_len a n ++ (a + n) ∷ []
range-more a zero = ap (λ (x : ℕ). x ∷ []) (omega arith)
range-more a (suc n) = ap (λ xs. a ∷ xs) (range-more (a + 1) n ∙ ap (λ (x : ℕ). range_with_len (a + 1) n ++ x ∷ []) (omega arith))

abbrev pub one_if : Bool → ℕ
one_if b = cond b 1 0

-- one where a test fails
abbrev fails : (ℕ → Bool) → ℕ → ℕ
fails t p = cond (not (t p)) 1 0

-- all numbers of a range count where each fails the test
count_all : (t : ℕ → Bool) (a n : ℕ) → ((p : ℕ) → a ≤ p → p < a + n → t p ≡ false) → sum_by (fails t) (range_with_len a n) ≡ n
count_all t a zero each = refl
count_all t a (suc n) each =
    let here : fails t a ≡ 1 = ap (λ b. cond (not b) 1 0) (each a (omega arith) (omega arith)) in
    let later = count_all t (a + 1) n (λ p low high. each p (omega arith) (omega arith)) in
    let split : sum_by (fails t) (range_with_len a (suc n)) ≡ 0 + fails t a + sum_by (fails t) (range_with_len (a + 1) n) = sum_by-append (fails t) (a ∷ []) (range_with_len (a + 1) n) in
    omega (arith, here, later, split)

-- in a range of at least two, where the test fails but at the ends
count_inside :
    (t : ℕ → Bool) (a n : ℕ)
    → ((p : ℕ) → a < p → p < a + 1 + n → t p ≡ false)
    → sum_by (fails t) (range_with_len a (suc (suc n))) ≡ fails t a + n + fails t (a + 1 + n)
count_inside t a n each =
    let inner = range_with_len (a + 1) n in
    let middle = count_all t (a + 1) n (λ p low high. each p (omega arith) (omega arith)) in
    let first : sum_by (fails t) (range_with_len a (suc (suc n))) ≡ 0 + fails t a + sum_by (fails t) (range_with_len (a + 1) (suc n)) = sum_by-append (fails t) (a ∷ []) (range_with_len (a + 1) (suc n)) in
    let last : sum_by (fails t) (range_with_len (a + 1) (suc n)) ≡ sum_by (fails t) inner + (0 + fails t (a + 1 + n)) = ap (λ xs. sum_by (fails t) xs) (range-more (a + 1) n) ∙ sum_by-append (fails t) inner ((a + 1 + n) ∷ []) in
    omega (arith, middle, first, last)

one_of : (b : Bool) → cond (not b) 1 0 + cond b 1 0 ≡ 1
one_of true = refl
one_of false = refl

-- the same with what the ends take away
count_ends :
    (t : ℕ → Bool) (a d : ℕ)
    → ((p : ℕ) → a < p → p < a + d → t p ≡ false)
    → sum_by (fails t) (range_with_len a (suc d)) + cond (t a) 1 0 + cond (not (a == a + d) && t (a + d)) 1 0 ≡ d + 1
count_ends t a zero each =
    let same : a == a + 0 ≡ true = grind (arith, nat_tests) in
    rw same (let h = one_of (t a) in omega (arith, h))
count_ends t a (suc d) each =
    let differ : a == a + suc d ≡ false = grind (arith, nat_tests) in
    let count = count_inside t a d (λ p low high. each p low (omega arith)) in
    let end : a + 1 + d ≡ a + suc d = omega arith in
    let at_end = one_of (t (a + suc d)) in
    let at_start = one_of (t a) in
    let moved : fails t (a + 1 + d) ≡ fails t (a + suc d) = ap (fails t) end in
    rw differ (omega (arith, count, at_end, at_start, moved))

-- no earlier load has a page that lies inside one that it doesn't clash with
none_inside :
    (segments : List Segment) (load : Load) (page : ℕ)
    → list_any (λ s. clashes (load_of s) load) segments ≡ false
    → load.address / 4096 < page
    → page < (load.address + load.size - 1) / 4096
    → list_any (λ s. contains (pages_of (load_of s)) page) segments ≡ false
none_inside [] load page apart low high = refl
none_inside (s ∷ ss) load page apart low high =
    let parts = or_parts (clashes (load_of s) load) _ apart in
    let no_byte : meets (addresses_of (load_of s)) (addresses_of load) ≡ false = (or_parts _ (meets (addresses_of (load_of s)) (addresses_of load)) parts.0).1 in
    let later = none_inside ss load page parts.1 low high in
    elim (contains (pages_of (load_of s)) page) as (λ b. contains (pages_of (load_of s)) page ≡ b → (b || list_any (λ s. contains (pages_of (load_of s)) page) ss) ≡ false) [
      | true ↦ λ has.
          let byte = byte_in_page (load_of s) page s.filled has in
          let here = (contains-range load.address load.size byte.0).1 (omega arith, omega arith) in
          let both : meets (addresses_of (load_of s)) (addresses_of load) ≡ true = meets_at (addresses_of (load_of s)) (addresses_of load) byte.0 byte.1 here in
          cc
      | false ↦ λ _. later
    ] refl

-- how many pages a load adds: all but its first and its last, where an earlier load has these
pub new_page_count :
    (segments : List Segment) (load : Load) (first last : ℕ)
    → list_any (λ s. clashes (load_of s) load) segments ≡ false
    → 0 < load.size
    → first ≡ load.address / 4096
    → last ≡ (load.address + load.size - 1) / 4096
    → page_count (map load_of segments ++ load ∷ []) + one_if (list_any (λ s. contains (pages_of (load_of s)) first) segments) + one_if (not (first == last) && list_any (λ s. contains (pages_of (load_of s)) last) segments) ≡ page_count (map load_of segments) + (last - first + 1)
new_page_count segments load first last apart filled is_first is_last =
    let loads = map load_of segments in
    let start = load.address / 4096 in
    let stop = (load.address + load.size - 1) / 4096 in
    let t : ℕ → Bool = contains (flat_map pages_of loads) in
    let has : (p : ℕ) → t p ≡ list_any (λ s. contains (pages_of (load_of s)) p) segments = λ p. contains-pages loads p ∙ list_any-map (λ l. contains (pages_of l) p) load_of segments in
    let gap : stop + 1 - start ≡ suc (last - first) = omega arith in
    let added : page_count (loads ++ load ∷ []) ≡ sum_by (fails t) (range_with_len first (suc (last - first))) + page_count loads = page_count-push loads load ∙ ap (λ n. sum_by (fails t) (range_with_len start n) + page_count loads) gap ∙ ap (λ a. sum_by (fails t) (range_with_len a (suc (last - first))) + page_count loads) (sym is_first) in
    let end : first + (last - first) ≡ last = omega arith in
    let count = count_ends t first (last - first) (λ p low high. has p ∙ none_inside segments load p apart (omega arith) (omega arith)) in
    let count' = rw end at count in
    let at_first : one_if (t first) ≡ one_if (list_any (λ s. contains (pages_of (load_of s)) first) segments) = ap one_if (has first) in
    let at_last : one_if (not (first == last) && t last) ≡ one_if (not (first == last) && list_any (λ s. contains (pages_of (load_of s)) last) segments) = ap (λ b. one_if (not (first == last) && b)) (has last) in
    omega (arith, added, count', at_first, at_last)
