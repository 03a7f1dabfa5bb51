-- Pages put among others, and pages taken out.
use Rattle.std.proofs.Common.{◌≡◌, ℕ, ◌+◌, ◌-◌, ◌*◌, ◌/◌, ◌%◌, ◌<◌, ◌≤◌, ◌^◌, nat_le, nat_lt, ◌&&◌, zero, suc, lit<, Bool, true, false, List, [], ◌∷◌, ◌++◌, length, get_or, take, drop, replicate, Option, Some, None, refl, sym, ap, ◌∙◌, subst, arith, ◌⊎◌, inl, inr, if◌then◌else◌, slice_index}
use Rattle.std.specs.Cmp.{nat_cmp_total}
use Rattle.std.specs.FinMap.{get, same_map, nat_cmp-IsAntisymmetric}
use Rattle.std.specs.List.{find}
use Rattle.std.specs.Option.{option_or}
use Rattle.std.proofs.lemmas.Bool.Decides.{leb_tells, eqb_tells, nat_tests}
use Rattle.std.proofs.lemmas.List.{get_or-take, get_or-drop, get_or_append_left, get_or-append_right, length-take, length-drop, length-append, take-append-drop, get_or_default, get_or-replicate, length-replicate, get_or_push}
use Rattle.std.proofs.lemmas.List.Folds.{find-append as list_find-append}
use Rattle.guest_words.specs.declared.image.Rights.{Rights}
use Rattle.guest_words.specs.Space.{zero_cell, with_zeros}
use Rattle.guest_pages.specs.declared.page_buffer.PageBuffer.{PageBuffer}
use Rattle.guest_pages.specs.Buffers.{IsPageBuffer, end_of, holds, cell_in, cells_of, AreSorted, AreZeros, IsCountBefore}
use Rattle.guest_pages.specs.Stretch.{IsFree}
use Rattle.guest_pages.proofs.Lookup.{holds_no, find_fails, get-cells_of, get-holder, starts_ascend, ends_before}
use Rattle.guest_words.proofs.SpaceLaws.{is_within, get-with_zeros}

-- so many buffers end at or before an address, and all others begin at or after it
pub record IsSplit (buffers : List PageBuffer) (q n : ℕ) : Type 0 where
  pub within : n ≤ length buffers
  pub before : (k : ℕ) (d : PageBuffer) → k < n → k < length buffers → end_of (get_or buffers k d) ≤ q
  pub after : (k : ℕ) (d : PageBuffer) → n ≤ k → k < length buffers → q ≤ (get_or buffers k d).from

-- at a page's address, and at the last
pub split_at : (buffers : List PageBuffer) (q n : ℕ) → AreSorted buffers → IsCountBefore buffers q n → (q % 4096 ≡ 0) ⊎ (2 ^ 64 ≤ q + 1) → IsSplit buffers q n
split_at buffers q n sorted count (inl aligned) = record {
  within = count.within;
  before = ends_before buffers q n sorted count aligned;
  after = count.after;
}
split_at buffers q n sorted count (inr last) = record {
  within = count.within;
  before = λ k d below within. let b = (sorted.each k d within).below in omega (arith, b, last);
  after = count.after;
}

pub sorted-take : (xs : List PageBuffer) (n : ℕ) → n ≤ length xs → AreSorted xs → AreSorted (take n xs)
sorted-take xs n within sorted =
    let long = length-take n xs in
    record {
      each = λ k d below. let less : k < n = omega (arith, long, below) in subst IsPageBuffer (sym (get_or-take n xs k d less)) (sorted.each k d (omega (arith, less, within)));
      apart = λ k j d less below.
          let j_less : j < n = omega (arith, long, below) in
          let k_less : k < n = omega (arith, j_less, less) in
          let apart = sorted.apart k j d less (omega (arith, j_less, within)) in
          let x = ap end_of (get_or-take n xs k d k_less) in
          let y = ap (λ (b : PageBuffer). b.from) (get_or-take n xs j d j_less) in
          omega (arith, apart, x, y);
    }

pub sorted-drop : (xs : List PageBuffer) (n : ℕ) → n ≤ length xs → AreSorted xs → AreSorted (drop n xs)
sorted-drop xs n within sorted =
    let long = length-drop n xs in
    record {
      each = λ k d below. subst IsPageBuffer (sym (get_or-drop n xs k d)) (sorted.each (n + k) d (omega (arith, long, below)));
      apart = λ k j d less below.
          let apart = sorted.apart (n + k) (n + j) d (omega (arith, less)) (omega (arith, long, below)) in
          let x = ap end_of (get_or-drop n xs k d) in
          let y = ap (λ (b : PageBuffer). b.from) (get_or-drop n xs j d) in
          omega (arith, apart, x, y);
    }

-- pages before others
pub sorted-append : (xs ys : List PageBuffer) (q : ℕ) → AreSorted xs → AreSorted ys
    → ((k : ℕ) (d : PageBuffer) → k < length xs → end_of (get_or xs k d) ≤ q) → ((k : ℕ) (d : PageBuffer) → k < length ys → q ≤ (get_or ys k d).from)
    → AreSorted (xs ++ ys)
sorted-append xs ys q low high before after = record {
  each = λ k d below. each k d below (leb_tells (length xs) k);
  apart = λ k j d less below. apart k j d less below (leb_tells (length xs) k) (leb_tells (length xs) j);
}
  where
    long : length (xs ++ ys) ≡ length xs + length ys
    long = length-append xs ys

    each : (k : ℕ) (d : PageBuffer) → k < length (xs ++ ys) → ((nat_le (length xs) k ≡ true) × (length xs ≤ k)) ⊎ ((nat_le (length xs) k ≡ false) × (k < length xs)) → IsPageBuffer (get_or (xs ++ ys) k d)
    each k d below (inr x) = subst IsPageBuffer (sym (get_or_append_left xs ys d k x.1)) (low.each k d x.1)
    each k d below (inl y) =
        let past = y.1 in
        subst IsPageBuffer (sym (get_or-append_right xs ys (length xs) k d refl past)) (high.each (k - length xs) d (omega (arith, long, below, past)))

    apart : (k j : ℕ) (d : PageBuffer) → k < j → j < length (xs ++ ys) → ((nat_le (length xs) k ≡ true) × (length xs ≤ k)) ⊎ ((nat_le (length xs) k ≡ false) × (k < length xs)) → ((nat_le (length xs) j ≡ true) × (length xs ≤ j)) ⊎ ((nat_le (length xs) j ≡ false) × (j < length xs))
        → end_of (get_or (xs ++ ys) k d) ≤ (get_or (xs ++ ys) j d).from
    apart k j d less below (inr x) (inr y) =
        let a = low.apart k j d less y.1 in
        let f = ap end_of (get_or_append_left xs ys d k x.1) in
        let g = ap (λ (b : PageBuffer). b.from) (get_or_append_left xs ys d j y.1) in
        omega (arith, a, f, g)
    apart k j d less below (inr x) (inl y) =
        let past = y.1 in
        let a = before k d x.1 in
        let b = after (j - length xs) d (omega (arith, long, below, past)) in
        let f = ap end_of (get_or_append_left xs ys d k x.1) in
        let g = ap (λ (b : PageBuffer). b.from) (get_or-append_right xs ys (length xs) j d refl past) in
        omega (arith, a, b, f, g)
    apart k j d less below (inl x) (inr y) = absurd (let a = x.1 in let b = y.1 in omega (arith, a, b, less))
    apart k j d less below (inl x) (inl y) =
        let past = x.1 in
        let later = y.1 in
        let a = high.apart (k - length xs) (j - length xs) d (omega (arith, less, past)) (omega (arith, long, below, later)) in
        let f = ap end_of (get_or-append_right xs ys (length xs) k d refl past) in
        let g = ap (λ (b : PageBuffer). b.from) (get_or-append_right xs ys (length xs) j d refl later) in
        omega (arith, a, f, g)

in_either : (q : ℕ) (o p : Option PageBuffer) → cell_in q (option_or o p) ≡ option_or (cell_in q o) (cell_in q p)
in_either q None p = refl
in_either q (Some b) p = refl

pub get-append : (xs ys : List PageBuffer) (q : ℕ) → get (cells_of (xs ++ ys)) q ≡ option_or (get (cells_of xs) q) (get (cells_of ys) q)
get-append xs ys q =
    get-cells_of (xs ++ ys) q
    ∙ ap (cell_in q) (list_find-append (holds q) xs ys)
    ∙ in_either q (find (holds q) xs) (find (holds q) ys)
    ∙ sym (ap (λ o. option_or o (get (cells_of ys) q)) (get-cells_of xs q) ∙ ap (option_or (cell_in q (find (holds q) xs))) (get-cells_of ys q))

pub or_none : {X : Type 0} (o : Option X) → option_or o None ≡ o
or_none None = refl
or_none (Some x) = refl

-- no page of a list has an address that lies before or past all of them
pub none_in : (xs : List PageBuffer) (q : ℕ) → ((k : ℕ) (d : PageBuffer) → k < length xs → (end_of (get_or xs k d) ≤ q) ⊎ (q < (get_or xs k d).from)) → get (cells_of xs) q ≡ None
none_in xs q out =
    get-cells_of xs q ∙ ap (cell_in q) (find_fails (holds q) xs (λ k d below. holds_no q (get_or xs k d) (λ l h. elim (out k d below) [
      | inl past ↦ let p = past in omega (arith, p, h)
      | inr early ↦ let p = early in omega (arith, p, l)
    ])))

-- the pages before an address, and those from it on
back_before : (xs : List PageBuffer) (q n a : ℕ) → IsSplit xs q n → a < q → get (cells_of (drop n xs)) a ≡ None
back_before xs q n a split low =
    let long = length-drop n xs in
    none_in (drop n xs) a (λ k d below. inr (
    let e = ap (λ (b : PageBuffer). b.from) (get_or-drop n xs k d) in
    let later = split.after (n + k) d (omega arith) (omega (arith, long, below)) in
    omega (arith, e, later, low)
    ))

front_before : (xs : List PageBuffer) (q n a : ℕ) → IsSplit xs q n → a < q → get (cells_of (take n xs)) a ≡ get (cells_of xs) a
front_before xs q n a split low =
    sym (or_none (get (cells_of (take n xs)) a))
    ∙ sym (ap (option_or (get (cells_of (take n xs)) a)) (back_before xs q n a split low))
    ∙ sym (get-append (take n xs) (drop n xs) a)
    ∙ ap (λ bs. get (cells_of bs) a) (take-append-drop n xs)

front_past : (xs : List PageBuffer) (q n a : ℕ) → IsSplit xs q n → q ≤ a → get (cells_of (take n xs)) a ≡ None
front_past xs q n a split high =
    let long = length-take n xs in
    let w = split.within in
    none_in (take n xs) a (λ k d below. inl (
    let less : k < n = omega (arith, long, below) in
    let e = ap end_of (get_or-take n xs k d less) in
    let early = split.before k d less (omega (arith, less, w)) in
    omega (arith, e, early, high)
    ))

back_past : (xs : List PageBuffer) (q n a : ℕ) → IsSplit xs q n → q ≤ a → get (cells_of (drop n xs)) a ≡ get (cells_of xs) a
back_past xs q n a split high =
    sym (ap (λ o. option_or o (get (cells_of (drop n xs)) a)) (front_past xs q n a split high))
    ∙ sym (get-append (take n xs) (drop n xs) a)
    ∙ ap (λ bs. get (cells_of bs) a) (take-append-drop n xs)

-- pages that lie in a range
pub record AreWithin (from end : ℕ) (ys : List PageBuffer) : Type 0 where
  pub sorted : AreSorted ys
  pub low : (k : ℕ) (d : PageBuffer) → k < length ys → from ≤ (get_or ys k d).from
  pub high : (k : ℕ) (d : PageBuffer) → k < length ys → end_of (get_or ys k d) ≤ end

pub none_within : (from end : ℕ) → AreWithin from end []
none_within from end = record {
  sorted = record { each = λ k d below. absurd (omega (arith, below)); apart = λ k j d less below. absurd (omega (arith, below)) };
  low = λ k d below. absurd (omega (arith, below));
  high = λ k d below. absurd (omega (arith, below));
}

-- what lies in a range, in place of all that lay there
pub sorted-splice : (xs ys : List PageBuffer) (f g i j : ℕ) → AreSorted xs → IsSplit xs f i → IsSplit xs g j → f ≤ g → AreWithin f g ys → AreSorted (take i xs ++ ys ++ drop j xs)
sorted-splice xs ys f g i j sorted first last ordered new =
    sorted-append (take i xs ++ ys) (drop j xs) g
    (sorted-append (take i xs) ys f (sorted-take xs i first.within sorted) new.sorted early new.low)
    (sorted-drop xs j last.within sorted)
    (λ k d below. front k d below (leb_tells (length (take i xs)) k))
    (λ k d below.
    let long = length-drop j xs in
    let e = ap (λ (b : PageBuffer). b.from) (get_or-drop j xs k d) in
    let later = last.after (j + k) d (omega arith) (omega (arith, long, below)) in
    omega (arith, e, later))
  where
    early : (k : ℕ) (d : PageBuffer) → k < length (take i xs) → end_of (get_or (take i xs) k d) ≤ f
    early k d below =
        let long = length-take i xs in
        let less : k < i = omega (arith, long, below) in
        let w = first.within in
        let e = ap end_of (get_or-take i xs k d less) in
        let b = first.before k d less (omega (arith, less, w)) in
        omega (arith, e, b)

    front : (k : ℕ) (d : PageBuffer) → k < length (take i xs ++ ys) → ((nat_le (length (take i xs)) k ≡ true) × (length (take i xs) ≤ k)) ⊎ ((nat_le (length (take i xs)) k ≡ false) × (k < length (take i xs)))
        → end_of (get_or (take i xs ++ ys) k d) ≤ g
    front k d below (inr x) =
        let b = early k d x.1 in
        let e = ap end_of (get_or_append_left (take i xs) ys d k x.1) in
        omega (arith, b, e, ordered)
    front k d below (inl y) =
        let past = y.1 in
        let long = length-append (take i xs) ys in
        let b = new.high (k - length (take i xs)) d (omega (arith, long, below, past)) in
        let e = ap end_of (get_or-append_right (take i xs) ys (length (take i xs)) k d refl past) in
        omega (arith, b, e)

pub get-splice : (xs ys : List PageBuffer) (f g i j : ℕ) → IsSplit xs f i → IsSplit xs g j → f ≤ g → AreWithin f g ys → (a : ℕ)
    → get (cells_of (take i xs ++ ys ++ drop j xs)) a ≡ (if nat_le f a && nat_lt a g then get (cells_of ys) a else get (cells_of xs) a)
get-splice xs ys f g i j first last ordered new a =
    get-append (take i xs ++ ys) (drop j xs) a
    ∙ ap (λ o. option_or o (get (cells_of (drop j xs)) a)) (get-append (take i xs) ys a)
    ∙ by (leb_tells f a) (leb_tells g a)
  where
    by : ((nat_le f a ≡ true) × (f ≤ a)) ⊎ ((nat_le f a ≡ false) × (a < f)) → ((nat_le g a ≡ true) × (g ≤ a)) ⊎ ((nat_le g a ≡ false) × (a < g))
        → option_or (option_or (get (cells_of (take i xs)) a) (get (cells_of ys) a)) (get (cells_of (drop j xs)) a) ≡ (if nat_le f a && nat_lt a g then get (cells_of ys) a else get (cells_of xs) a)
    by (inr low) x =
        let l = low.1 in
        let out : (nat_le f a && nat_lt a g) ≡ false = grind (arith, nat_tests) in
        let none : get (cells_of ys) a ≡ None = none_in ys a (λ k d below. inr (let b = new.low k d below in omega (arith, b, l))) in
        ap (option_or (option_or (get (cells_of (take i xs)) a) (get (cells_of ys) a))) (back_before xs g j a last (omega (arith, l, ordered)))
        ∙ or_none _
        ∙ ap (option_or (get (cells_of (take i xs)) a)) none
        ∙ or_none _
        ∙ front_before xs f i a first l
        ∙ sym (ap (λ t. if t then get (cells_of ys) a else get (cells_of xs) a) out)
    by (inl low) (inl high) =
        let l = low.1 in
        let h = high.1 in
        let out : (nat_le f a && nat_lt a g) ≡ false = grind (arith, nat_tests) in
        let none : get (cells_of ys) a ≡ None = none_in ys a (λ k d below. inl (let b = new.high k d below in omega (arith, b, h))) in
        ap (λ o. option_or (option_or o (get (cells_of ys) a)) (get (cells_of (drop j xs)) a)) (front_past xs f i a first l)
        ∙ ap (λ o. option_or o (get (cells_of (drop j xs)) a)) none
        ∙ back_past xs g j a last h
        ∙ sym (ap (λ t. if t then get (cells_of ys) a else get (cells_of xs) a) out)
    by (inl low) (inr high) =
        let l = low.1 in
        let h = high.1 in
        let inside : (nat_le f a && nat_lt a g) ≡ true = grind (arith, nat_tests) in
        ap (λ o. option_or (option_or o (get (cells_of ys) a)) (get (cells_of (drop j xs)) a)) (front_past xs f i a first l)
        ∙ ap (option_or (get (cells_of ys) a)) (back_before xs g j a last h)
        ∙ or_none _
        ∙ sym (ap (λ t. if t then get (cells_of ys) a else get (cells_of xs) a) inside)

-- where a range is free, what doesn't begin before it begins past it
pub split_free : (xs : List PageBuffer) (q n size : ℕ) → AreSorted xs → IsSplit xs q n → IsFree (cells_of xs) q size → IsSplit xs (q + size) n
split_free xs q n size sorted split free = record {
  within = split.within;
  before = λ k d below within. let b = split.before k d below within in omega (arith, b);
  after = λ k d later within.
      elim (leb_tells (q + size) (get_or xs k d).from) [
        | inl p ↦ p.1
        | inr p ↦
            let from = split.after k d later within in
            let whole = (sorted.each k d within).whole in
            let there = get-holder xs k d (get_or xs k d).from sorted within (omega arith) (omega (arith, whole)) in
            let none = free (get_or xs k d).from from p.1 in
            absurd (cc)
      ];
}

-- before a page, and past it
pub split_page : (xs : List PageBuffer) (i : ℕ) (r : PageBuffer) → AreSorted xs → i < length xs → r ≡ get_or xs i r → IsSplit xs r.from i
split_page xs i r sorted below is =
    let one : (d : PageBuffer) → (get_or xs i d).from ≡ r.from = λ d. ap (λ (b : PageBuffer). b.from) (get_or_default xs i d r below ∙ sym is) in
    record {
      within = omega (arith, below);
      before = λ k d less within. let a = sorted.apart k i d less below in let e = one d in omega (arith, a, e);
      after = λ k d later within. let a = starts_ascend xs i k d sorted later within in let e = one d in omega (arith, a, e);
    }

pub split_past : (xs : List PageBuffer) (i : ℕ) (r : PageBuffer) → AreSorted xs → i < length xs → r ≡ get_or xs i r → IsSplit xs (r.from + 4096) (i + 1)
split_past xs i r sorted below is =
    let same : (d : PageBuffer) → get_or xs i d ≡ r = λ d. get_or_default xs i d r below ∙ sym is in
    let whole : length r.bytes.items ≡ 4096 = (subst IsPageBuffer (sym is) (sorted.each i r below)).whole in
    record {
      within = omega (arith, below);
      before = λ k d less within. elim (eqb_tells k i) [
        | inl e ↦ let here = ap (λ j. end_of (get_or xs j d)) e.1 ∙ ap end_of (same d) in omega (arith, here, whole)
        | inr e ↦
            let other = e.1 in
            let a = sorted.apart k i d (omega (arith, other, less)) below in
            let f = ap (λ (b : PageBuffer). b.from) (same d) in
            omega (arith, a, f)
      ];
      after = λ k d later within.
          let a = sorted.apart i k d (omega (arith, later)) within in
          let e = ap end_of (same d) in
          omega (arith, a, e, whole);
    }

-- one page
pub one_within : (r : PageBuffer) → IsPageBuffer r → AreWithin r.from (r.from + 4096) (r ∷ [])
one_within r is = record {
  sorted = record { each = λ k d below. one (λ b. IsPageBuffer b) k d below is; apart = λ k j d less below. absurd (omega (arith, less, below)) };
  low = λ k d below. one (λ b. r.from ≤ b.from) k d below (omega arith);
  high = λ k d below. one (λ b. end_of b ≤ r.from + 4096) k d below (let w = is.whole in omega (arith, w));
}
  where
    one : (P : PageBuffer → Type 0) (k : ℕ) (d : PageBuffer) → k < 1 → P r → P (get_or (r ∷ []) k d)
    one P zero d below p = p
    one P (suc k) d below p = absurd (omega (arith, below))

pub get-one : (r : PageBuffer) (a : ℕ) → IsPageBuffer r → r.from ≤ a → a < r.from + 4096 → get (cells_of (r ∷ [])) a ≡ Some (record { byte = slice_index r.bytes.items (a - r.from); rights = r.rights })
get-one r a is low high =
    let w = is.whole in
    get-holder (r ∷ []) 0 r a (one_within r is).sorted (lit< tt) low (omega (arith, high, w))

-- pages of zeros, page after page
zero_pages-IsPageBuffer : (from count : ℕ) (rights : Rights) (ys : List PageBuffer) → AreZeros from count rights ys → from % 4096 ≡ 0 → from + 4096 * count < 2 ^ 64
    → (k : ℕ) (d : PageBuffer) → k < length ys → IsPageBuffer (get_or ys k d)
zero_pages-IsPageBuffer from count rights ys zeros aligned below k d within =
    let long = zeros.long in
    let less : k < count = omega (arith, long, within) in
    let start = zeros.starts k d less in
    let size : length (get_or ys k d).bytes.items ≡ 4096 = ap length (zeros.zeros k d less) ∙ length-replicate {A = ℕ} 4096 0 in
    record {
      aligned = omega (arith, start, aligned);
      whole = size;
      below = omega (arith, start, size, below, less);
    }

pub zeros_within : (from count : ℕ) (rights : Rights) (ys : List PageBuffer) → AreZeros from count rights ys → from % 4096 ≡ 0 → from + 4096 * count < 2 ^ 64
    → AreWithin from (from + 4096 * count) ys
zeros_within from count rights ys zeros aligned below =
    let long = zeros.long in
    let each = zero_pages-IsPageBuffer from count rights ys zeros aligned below in
    record {
      sorted = record {
        each = each;
        apart = λ k j d less within.
            let whole = (each k d (omega (arith, less, within))).whole in
            let a = zeros.starts k d (omega (arith, long, less, within)) in
            let b = zeros.starts j d (omega (arith, long, within)) in
            omega (arith, whole, a, b, less);
      };
      low = λ k d within. let a = zeros.starts k d (omega (arith, long, within)) in omega (arith, a);
      high = λ k d within.
          let less : k < count = omega (arith, long, within) in
          let whole = (each k d within).whole in
          let a = zeros.starts k d less in
          omega (arith, whole, a, less);
    }

zeros_there : (from count : ℕ) (rights : Rights) (ys : List PageBuffer) (d : PageBuffer) → AreZeros from count rights ys → from % 4096 ≡ 0 → from + 4096 * count < 2 ^ 64
    → (a : ℕ) → from ≤ a → a < from + 4096 * count → get (cells_of ys) a ≡ Some (zero_cell rights)
zeros_there from count rights ys d zeros aligned below a low high =
    let k = (a - from) / 4096 in
    let long = zeros.long in
    let less : k < count = omega (arith, low, high) in
    let within : k < length ys = omega (arith, long, less) in
    let whole = (zero_pages-IsPageBuffer from count rights ys zeros aligned below k d within).whole in
    let start = zeros.starts k d less in
    let byte : get_or (get_or ys k d).bytes.items (a - (get_or ys k d).from) 0 ≡ 0 =
    ap (λ bs. get_or bs (a - (get_or ys k d).from) 0) (zeros.zeros k d less) ∙ get_or-replicate 4096 (a - (get_or ys k d).from) 0 0 (omega (arith, start, low)) in
    get-holder ys k d a (zeros_within from count rights ys zeros aligned below).sorted within (omega (arith, start, low)) (omega (arith, start, whole, low))
    ∙ ap (λ b. Some (record { byte = b; rights = (get_or ys k d).rights })) byte
    ∙ ap (λ r. Some (zero_cell r)) (zeros.rights_of k d less)

pub get-zeros : (from count : ℕ) (rights : Rights) (ys : List PageBuffer) → AreZeros from count rights ys → from % 4096 ≡ 0 → from + 4096 * count < 2 ^ 64
    → (a : ℕ) → from ≤ a → a < from + 4096 * count → get (cells_of ys) a ≡ Some (zero_cell rights)
get-zeros from count rights [] zeros aligned below a low high = absurd (let long = zeros.long in omega (arith, long, low, high))
get-zeros from count rights (y ∷ ys) zeros aligned below a low high = zeros_there from count rights (y ∷ ys) y zeros aligned below a low high

-- pages of zeros put where none is
pub sorted-add : (xs ys : List PageBuffer) (q n count : ℕ) (rights : Rights) → AreSorted xs → IsCountBefore xs q n → IsFree (cells_of xs) q (4096 * count)
    → AreZeros q count rights ys → q % 4096 ≡ 0 → q + 4096 * count < 2 ^ 64
    → AreSorted (take n xs ++ ys ++ drop n xs)
sorted-add xs ys q n count rights sorted before free zeros aligned below =
    let split = split_at xs q n sorted before (inl aligned) in
    sorted-splice xs ys q (q + 4096 * count) n n sorted split (split_free xs q n (4096 * count) sorted split free) (omega arith) (zeros_within q count rights ys zeros aligned below)

pub cells_of-add : (xs ys : List PageBuffer) (q n count : ℕ) (rights : Rights) → AreSorted xs → IsCountBefore xs q n → IsFree (cells_of xs) q (4096 * count)
    → AreZeros q count rights ys → q % 4096 ≡ 0 → q + 4096 * count < 2 ^ 64
    → cells_of (take n xs ++ ys ++ drop n xs) ≡ with_zeros (cells_of xs) q (4096 * count) rights
cells_of-add xs ys q n count rights sorted before free zeros aligned below =
    let split = split_at xs q n sorted before (inl aligned) in
    same_map nat_cmp_total nat_cmp-IsAntisymmetric _ _ (λ a.
    get-splice xs ys q (q + 4096 * count) n n split (split_free xs q n (4096 * count) sorted split free) (omega arith) (zeros_within q count rights ys zeros aligned below) a
    ∙ by a (is_within q (4096 * count) a) refl
    ∙ sym (get-with_zeros (cells_of xs) q (4096 * count) rights a))
  where
    by : (a : ℕ) (t : Bool) → is_within q (4096 * count) a ≡ t → (if t then get (cells_of ys) a else get (cells_of xs) a) ≡ (if t then Some (zero_cell rights) else get (cells_of xs) a)
    by a true inside = get-zeros q count rights ys zeros aligned below a (grind (arith, nat_tests, inside)) (grind (arith, nat_tests, inside))
    by a false out = refl

-- one more page of zeros
pub zeros-push : (from k : ℕ) (rights : Rights) (ys : List PageBuffer) (b : PageBuffer) → AreZeros from k rights ys → b.from ≡ from + k * 4096 → b.rights ≡ rights → b.bytes.items ≡ replicate 4096 0
    → AreZeros from (k + 1) rights (ys ++ b ∷ [])
zeros-push from k rights ys b old start same zeros =
    let long = old.long in
    record {
      long = length-append ys (b ∷ []) ∙ omega (arith, long);
      starts = λ j d below. each (λ i x. x.from ≡ from + i * 4096) j d below old.starts start;
      rights_of = λ j d below. each (λ i x. x.rights ≡ rights) j d below old.rights_of same;
      zeros = λ j d below. each (λ i x. x.bytes.items ≡ replicate 4096 0) j d below old.zeros zeros;
    }
  where
    each : (P : ℕ → PageBuffer → Type 0) (j : ℕ) (d : PageBuffer) → j < k + 1 → ((i : ℕ) (e : PageBuffer) → i < k → P i (get_or ys i e)) → P k b → P j (get_or (ys ++ b ∷ []) j d)
    each P j d below earlier last =
        elim (leb_tells k j) [
          | inr p ↦
              let long = old.long in
              let less = p.1 in
              subst (P j) (sym (get_or_append_left ys (b ∷ []) d j (omega (arith, long, less)))) (earlier j d less)
          | inl p ↦
              let past = p.1 in
              let at : k ≡ j = omega (arith, past, below) in
              let Q : ℕ → Type 0 = λ i. P i (get_or (ys ++ b ∷ []) i d) in
              subst Q at (subst (P k) (sym (get_or_push ys b d k old.long)) last)
        ]
