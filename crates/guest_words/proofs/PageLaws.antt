-- Ranges of numbers as sets: what they contain, whether they meet, and the count of a load's pages.
use Rattle.std.proofs.Common.{◌≡◌, ℕ, zero, suc, ◌+◌, ◌-◌, ◌*◌, ◌/◌, ◌<◌, ◌≤◌, List, [], ◌∷◌, ◌++◌, true, false, not, ◌&&◌, ◌||◌, cond, refl, sym, ap, ◌∙◌, arith, eq-eqb, max}
use Rattle.std.specs.Prelude.{nat_lt, ◌==◌, if◌then◌else◌}
use Rattle.std.specs.Bool.{Decides}
use Rattle.std.specs.List.{list_any, range_with_len, flat_map, count_by, sum_by}
use Rattle.std.specs.Ordering.{nat_cmp}
use Rattle.std.specs.Cmp.{nat_cmp_total}
use Rattle.std.proofs.Math.Bool.{or-true, or_comm}
use Rattle.std.specs.FinSet as set
use Rattle.std.proofs.lemmas.Bool.Decides.{nat_tests, same_from_decides, Decides-or, Decides-eqb, Decides-like, Decides-and, Decides-ltb}
use Rattle.std.proofs.lemmas.Grind.{flat_map-append}
use Rattle.std.proofs.lemmas.List.{append-nil}
use Rattle.std.proofs.lemmas.List.Concat.{flat_map-cons}
use Rattle.std.proofs.lemmas.List.Folds.{list_any-append}
use Rattle.std.proofs.lemmas.List.Sums.{sum_by-append}
use Rattle.guest_words.specs.declared.image.Load.{Load}
use Rattle.guest_words.specs.Image.{addresses_of, pages_of, contains, meets, count_of, page_count}

-- a range has the numbers from its start to its end
pub contains-range : (a n x : ℕ) → Decides (contains (range_with_len a n) x) ((a ≤ x) × (x < a + n))
contains-range a zero x = (λ h. cc, λ h. absurd (omega arith))
contains-range a (suc n) x =
    let rest = contains-range (a + 1) n x in
    let either = Decides-or _ _ (Decides-eqb a x) rest in
    Decides-like _ (λ h. grind arith) (λ h. grind arith) either

-- two lists with a number in common meet
pub meets_at : (xs ys : List ℕ) (x : ℕ) → contains xs x ≡ true → contains ys x ≡ true → meets xs ys ≡ true
meets_at [] ys x here there = cc
meets_at (n ∷ ns) ys x here there =
    let later : contains ns x ≡ true → meets ns ys ≡ true = λ h. meets_at ns ys x h there in
    elim (n == x) as (λ b. n == x ≡ b → (b || contains ns x) ≡ true → (contains ys n || meets ns ys) ≡ true) [
      | true ↦ λ is _. let same : n ≡ x = grind (arith, nat_tests, is) in rw (same, there) refl
      | false ↦ λ _ h. rw (later h) (or-true (contains ys n))
    ] refl here

-- lists that meet have a number in common
pub common_of : (xs ys : List ℕ) → meets xs ys ≡ true → (x : ℕ) × (contains xs x ≡ true) × (contains ys x ≡ true)
common_of [] ys h = cc
common_of (n ∷ ns) ys h =
    elim (contains ys n) as (λ b. contains ys n ≡ b → (b || meets ns ys) ≡ true → (x : ℕ) × (contains (n ∷ ns) x ≡ true) × (contains ys x ≡ true)) [
      | true ↦ λ has _. (n, ap (λ b. b || contains ns n) (eq-eqb n n refl), has)
      | false ↦ λ _ h. let later = common_of ns ys h in (later.0, ap (λ b. n == later.0 || b) later.1 ∙ or-true (n == later.0), later.2)
    ] refl h

-- two ranges that aren't empty meet where each starts before the other's end
pub meets-ranges :
    (a m b n : ℕ) → 0 < m → 0 < n → meets (range_with_len a m) (range_with_len b n) ≡ (nat_lt a (b + n) && nat_lt b (a + m))
meets-ranges a m b n a_filled b_filled =
    same_from_decides _ _ (
      λ h. let c = common_of (range_with_len a m) (range_with_len b n) h in
          let in_a = (contains-range a m c.0).0 c.1 in
          let in_b = (contains-range b n c.0).0 c.2 in
          (omega arith, omega arith),
      λ h. let x = max a b in
          meets_at (range_with_len a m) (range_with_len b n) x ((contains-range a m x).1 (omega arith, omega arith)) ((contains-range b n x).1 (omega arith, omega arith)),
    ) (Decides-and _ _ (Decides-ltb a (b + n)) (Decides-ltb b (a + m)))

-- the count of different numbers is the size of the set of them
pub count_of-is_len : (ns : List ℕ) → count_of ns ≡ set.len (set.from_list {R = nat_cmp} ns)
count_of-is_len [] = sym (set.len-empty nat_cmp)
count_of-is_len (n ∷ ns) =
    let grown = set.len-insert nat_cmp_total (set.from_list {R = nat_cmp} ns) n in
    let has : set.contains (set.from_list {R = nat_cmp} ns) n ≡ contains ns n = set.contains-from_list_nat ns n in
    let so_far = count_of-is_len ns in
    elim (contains ns n) as (λ b. contains ns n ≡ b → (if b then count_of ns else 1 + count_of ns) ≡ set.len (set.insert (set.from_list {R = nat_cmp} ns) n)) [
      | true ↦ λ is. let at : set.contains (set.from_list {R = nat_cmp} ns) n ≡ true = has ∙ is in so_far ∙ sym (rw at at grown)
      | false ↦ λ is. let at : set.contains (set.from_list {R = nat_cmp} ns) n ≡ false = has ∙ is in (let e = rw at at grown in omega (arith, e, so_far))
    ] refl

-- lists of the same numbers have as many different ones
pub count_of_same : (xs ys : List ℕ) → ((q : ℕ) → contains xs q ≡ contains ys q) → count_of xs ≡ count_of ys
count_of_same xs ys same =
    count_of-is_len xs
    ∙ ap (λ s. set.len s) (set.same_set nat_cmp_total set.nat_cmp-IsAntisymmetric (set.from_list xs) (set.from_list ys) (λ q. set.contains-from_list_nat xs q ∙ same q ∙ sym (set.contains-from_list_nat ys q)))
    ∙ sym (count_of-is_len ys)

not_there : (a n : ℕ) → Decides (contains (range_with_len (a + 1) n) a) ((a + 1 ≤ a) × (a < a + 1 + n)) → contains (range_with_len (a + 1) n) a ≡ false
not_there a n d = elim (contains (range_with_len (a + 1) n) a) as (λ b. Decides b ((a + 1 ≤ a) × (a < a + 1 + n)) → b ≡ false) [ true ↦ λ d. absurd (let h = (d.0 refl).0 in omega (arith, h)) | false ↦ λ _. refl ] d

-- a range before a list adds those of its numbers that the list doesn't have
pub count_of-range : (a n : ℕ) (xs : List ℕ) → count_of (range_with_len a n ++ xs) ≡ count_by (λ p. not (contains xs p)) (range_with_len a n) + count_of xs
count_of-range a zero xs = omega arith
count_of-range a (suc n) xs =
    let rest = range_with_len (a + 1) n in
    let test : ℕ → ℕ = λ p. cond (not (contains xs p)) 1 0 in
    let later : count_of (rest ++ xs) ≡ sum_by test rest + count_of xs = count_of-range (a + 1) n xs in
    let split : sum_by test (a ∷ rest) ≡ 0 + test a + sum_by test rest = sum_by-append test (a ∷ []) rest in
    let above : contains rest a ≡ false = not_there a n (contains-range (a + 1) n a) in
    let both : contains (rest ++ xs) a ≡ contains xs a = list_any-append (λ m. m == a) rest xs ∙ ap (λ b. b || contains xs a) above in
    rw (split, both) (elim (contains xs a) as (λ b. (if b then count_of (rest ++ xs) else 1 + count_of (rest ++ xs)) ≡ 0 + cond (not b) 1 0 + sum_by test rest + count_of xs) [ true ↦ omega (arith, later) | false ↦ omega (arith, later) ])

-- one more load adds those of its pages that no load before it has
pub page_count-push : (loads : List Load) (load : Load) → page_count (loads ++ load ∷ []) ≡ count_by (λ p. not (contains (flat_map pages_of loads) p)) (pages_of load) + page_count loads
unfolding page_count
page_count-push loads load =
    let old = flat_map pages_of loads in
    let new = pages_of load in
    let first = load.address / 4096 in
    let joined : flat_map pages_of (loads ++ load ∷ []) ≡ old ++ new = flat_map-append pages_of loads (load ∷ []) ∙ ap (λ xs. old ++ xs) (append-nil new) in
    ap count_of joined
    ∙ count_of_same (old ++ new) (new ++ old) (λ q. list_any-append (λ m. m == q) old new ∙ or_comm (contains old q) (contains new q) ∙ sym (list_any-append (λ m. m == q) new old))
    ∙ count_of-range first ((load.address + load.size - 1) / 4096 + 1 - first) old

-- the pages of several loads are those of each
pub contains-pages : (loads : List Load) (page : ℕ) → contains (flat_map pages_of loads) page ≡ list_any (λ load. contains (pages_of load) page) loads
contains-pages [] page = refl
contains-pages (l ∷ ls) page =
    ap (λ xs. contains xs page) (flat_map-cons pages_of l ls)
    ∙ list_any-append (λ m. m == page) (pages_of l) (flat_map pages_of ls)
    ∙ ap (λ b. contains (pages_of l) page || b) (contains-pages ls page)

-- a page of a load has a byte of it
pub byte_in_page : (load : Load) (page : ℕ) → 0 < load.size → contains (pages_of load) page ≡ true → (address : ℕ) × (contains (addresses_of load) address ≡ true) × (address / 4096 ≡ page)
byte_in_page load page filled has =
    let first = load.address / 4096 in
    let at = (contains-range first ((load.address + load.size - 1) / 4096 + 1 - first) page).0 has in
    let address = max load.address (page * 4096) in
    (address, (contains-range load.address load.size address).1 (omega arith, omega arith), omega arith)

-- a byte of a load is in a page of it
pub page_of_byte : (load : Load) (address : ℕ) → contains (addresses_of load) address ≡ true → contains (pages_of load) (address / 4096) ≡ true
page_of_byte load address has =
    let first = load.address / 4096 in
    let at = (contains-range load.address load.size address).0 has in
    (contains-range first ((load.address + load.size - 1) / 4096 + 1 - first) (address / 4096)).1 (omega arith, omega arith)
