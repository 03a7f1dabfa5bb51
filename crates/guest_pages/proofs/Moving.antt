-- A page taken out, a page put back, and pages dropped.
use Rattle.std.proofs.Common.{◌≡◌, ℕ, zero, suc, ◌+◌, ◌-◌, ◌*◌, ◌%◌, ◌<◌, ◌≤◌, ◌^◌, min, nat_le, nat_lt, ◌&&◌, lit<, Bool, true, false, List, [], ◌∷◌, ◌++◌, length, get_or, take, drop, Option, Some, None, IsSome, refl, sym, ap, ◌∙◌, subst, arith, ◌⊎◌, inl, inr, if◌then◌else◌, slice_index}
use Rattle.std.specs.Cmp.{nat_cmp_total}
use Rattle.std.specs.FinMap.{get, same_map, nat_cmp-IsAntisymmetric}
use Rattle.std.specs.List.{find, insert, remove}
use Rattle.std.proofs.lemmas.Bool.Decides.{leb_tells, nat_tests}
use Rattle.std.proofs.lemmas.List.{append-nil, append_assoc, get_or_default, same_lists}
use Rattle.guest_words.specs.declared.image.Cell.{Cell}
use Rattle.guest_words.specs.Space.{Space, byte_of, bytes_at, without}
use Rattle.guest_pages.specs.declared.page_buffer.PageBuffer.{PageBuffer}
use Rattle.guest_pages.specs.Buffers.{IsPageBuffer, end_of, holds, cell_in, cells_of, AreSorted, IsCountBefore, IsHolder}
use Rattle.guest_pages.specs.Paged.{rights_of, page_at, with_run}
use Rattle.guest_pages.specs.Stretch.{IsFree, IsPageOf}
use Rattle.guest_pages.proofs.Filling.{page_lacks}
use Rattle.guest_pages.proofs.Lookup.{get-holder, page_there}
use Rattle.guest_words.proofs.SpaceLaws.{is_within, get-without}
use Rattle.guest_pages.proofs.Spaces.{get-with_run}
use Rattle.guest_pages.proofs.Splicing.{IsSplit, split_at, split_free, split_page, split_past, none_within, one_within, get-one, none_in, sorted-splice, get-splice}

-- an inserted element as a list of one
inserted : {X : Type 0} (xs : List X) (n : ℕ) (y : X) → take n xs ++ (y ∷ []) ++ drop n xs ≡ insert xs n y
inserted xs n y = append_assoc (take n xs) (y ∷ []) (drop n xs)

-- a page put where none is
pub sorted-insert : (xs : List PageBuffer) (n : ℕ) (r : PageBuffer) → AreSorted xs → IsCountBefore xs r.from n → IsFree (cells_of xs) r.from 4096 → IsPageBuffer r
    → AreSorted (insert xs n r)
sorted-insert xs n r sorted before free is =
    let split = split_at xs r.from n sorted before (inl is.aligned) in
    subst AreSorted (inserted xs n r)
    (sorted-splice xs (r ∷ []) r.from (r.from + 4096) n n sorted split (split_free xs r.from n 4096 sorted split free) (omega arith) (one_within r is))

pub cells_of-insert : (xs : List PageBuffer) (n : ℕ) (r : PageBuffer) → AreSorted xs → IsCountBefore xs r.from n → IsFree (cells_of xs) r.from 4096 → IsPageBuffer r
    → cells_of (insert xs n r) ≡ with_run (cells_of xs) r.from r.rights r.bytes.items
cells_of-insert xs n r sorted before free is =
    let split = split_at xs r.from n sorted before (inl is.aligned) in
    same_map nat_cmp_total nat_cmp-IsAntisymmetric _ _ (λ a.
    ap (λ bs. get (cells_of bs) a) (sym (inserted xs n r))
    ∙ get-splice xs (r ∷ []) r.from (r.from + 4096) n n split (split_free xs r.from n 4096 sorted split free) (omega arith) (one_within r is) a
    ∙ by a (is_within r.from 4096 a) refl
    ∙ ap (λ w. if is_within r.from w a then Some (record { byte = slice_index r.bytes.items (a - r.from); rights = r.rights }) else get (cells_of xs) a) (sym is.whole)
    ∙ sym (get-with_run r.bytes.items (cells_of xs) r.from r.rights a))
  where
    by : (a : ℕ) (t : Bool) → is_within r.from 4096 a ≡ t → (if t then get (cells_of (r ∷ [])) a else get (cells_of xs) a) ≡ (if t then Some (record { byte = slice_index r.bytes.items (a - r.from); rights = r.rights }) else get (cells_of xs) a)
    by a true inside = get-one r a is (grind (arith, nat_tests, inside)) (grind (arith, nat_tests, inside))
    by a false out = refl

-- what lies between two places, taken out
cut : {X : Type 0} (xs : List X) (i j : ℕ) → take i xs ++ [] ++ drop j xs ≡ take i xs ++ drop j xs
cut xs i j = ap (λ ys. ys ++ drop j xs) (append-nil (take i xs))

pub sorted-cut : (xs : List PageBuffer) (f g i j : ℕ) → AreSorted xs → IsSplit xs f i → IsSplit xs g j → f ≤ g → AreSorted (take i xs ++ drop j xs)
sorted-cut xs f g i j sorted first last ordered = subst AreSorted (cut xs i j) (sorted-splice xs [] f g i j sorted first last ordered (none_within f g))

-- no page of a list of none
get-nil : (a : ℕ) → get (cells_of []) a ≡ None
get-nil a = none_in [] a (λ k d below. absurd (omega (arith, below)))

-- nothing lies from the end of the pages on
past_end : (xs : List PageBuffer) (g j a : ℕ) → AreSorted xs → IsSplit xs g j → 2 ^ 64 ≤ g + 1 → g ≤ a → get (cells_of xs) a ≡ None
past_end xs g j a sorted last end high =
    none_in xs a (λ k d below. inl (
    let page = sorted.each k d below in
    let b = page.below in
    omega (arith, b, end, high)
    ))

pub cells_of-cut : (xs : List PageBuffer) (f g i j size : ℕ) → AreSorted xs → IsSplit xs f i → IsSplit xs g j → f ≤ g → (g ≡ f + size) ⊎ ((2 ^ 64 ≤ g + 1) × (g ≤ f + size))
    → cells_of (take i xs ++ drop j xs) ≡ without (cells_of xs) f size
cells_of-cut xs f g i j size sorted first last ordered ends =
    same_map nat_cmp_total nat_cmp-IsAntisymmetric _ _ (λ a.
    ap (λ bs. get (cells_of bs) a) (sym (cut xs i j))
    ∙ get-splice xs [] f g i j first last ordered (none_within f g) a
    ∙ by a ends (leb_tells f a) (leb_tells g a)
    ∙ sym (get-without (cells_of xs) f size a))
  where
    inside : (a : ℕ) → f ≤ a → a < g → g ≤ f + size → (if nat_le f a && nat_lt a g then get (cells_of []) a else get (cells_of xs) a) ≡ (if is_within f size a then None else get (cells_of xs) a)
    inside a l h upto =
        let t : (nat_le f a && nat_lt a g) ≡ true = grind (arith, nat_tests) in
        let u : is_within f size a ≡ true = grind (arith, nat_tests) in
        ap (λ t. if t then get (cells_of []) a else get (cells_of xs) a) t ∙ get-nil a ∙ sym (ap (λ t. if t then None else get (cells_of xs) a) u)

    by : (a : ℕ) → (g ≡ f + size) ⊎ ((2 ^ 64 ≤ g + 1) × (g ≤ f + size)) → ((nat_le f a ≡ true) × (f ≤ a)) ⊎ ((nat_le f a ≡ false) × (a < f)) → ((nat_le g a ≡ true) × (g ≤ a)) ⊎ ((nat_le g a ≡ false) × (a < g))
        → (if nat_le f a && nat_lt a g then get (cells_of []) a else get (cells_of xs) a) ≡ (if is_within f size a then None else get (cells_of xs) a)
    by a (inl e) (inl low) (inr high) = inside a low.1 high.1 (omega (arith, e))
    by a (inr e) (inl low) (inr high) = inside a low.1 high.1 e.1
    by a e (inr low) x =
        let l = low.1 in
        let t : (nat_le f a && nat_lt a g) ≡ false = grind (arith, nat_tests) in
        let u : is_within f size a ≡ false = grind (arith, nat_tests) in
        ap (λ t. if t then get (cells_of []) a else get (cells_of xs) a) t ∙ sym (ap (λ t. if t then None else get (cells_of xs) a) u)
    by a (inl e) (inl low) (inl high) =
        let h = high.1 in
        let t : (nat_le f a && nat_lt a g) ≡ false = grind (arith, nat_tests) in
        let u : is_within f size a ≡ false = grind (arith, nat_tests, e) in
        ap (λ t. if t then get (cells_of []) a else get (cells_of xs) a) t ∙ sym (ap (λ t. if t then None else get (cells_of xs) a) u)
    by a (inr e) (inl low) (inl high) =
        let h = high.1 in
        let t : (nat_le f a && nat_lt a g) ≡ false = grind (arith, nat_tests) in
        let none : get (cells_of xs) a ≡ None = past_end xs g j a sorted last e.0 h in
        ap (λ t. if t then get (cells_of []) a else get (cells_of xs) a) t ∙ none ∙ sym (either (is_within f size a) (get (cells_of xs) a) none)
      where
        either : (t : Bool) (o : Option Cell) → o ≡ None → (if t then None else o) ≡ None
        either true o none = refl
        either false o none = none

-- the page in a buffer is the page at its address
page_byte : (xs : List PageBuffer) (i : ℕ) (r : PageBuffer) (k : ℕ) → AreSorted xs → i < length xs → r ≡ get_or xs i r → k < 4096
    → get (cells_of xs) (r.from + k) ≡ Some (record { byte = get_or r.bytes.items k 0; rights = r.rights })
page_byte xs i r k sorted below is small =
    let whole : length r.bytes.items ≡ 4096 = (subst IsPageBuffer (sym is) (sorted.each i r below)).whole in
    let e = ap (λ (b : PageBuffer). b.from) is in
    let f = ap end_of is in
    let place : r.from + k - r.from ≡ k = omega arith in
    get-holder xs i r (r.from + k) sorted below (omega (arith, e)) (omega (arith, f, whole, small))
    ∙ ap (λ (b : PageBuffer). cell_in (r.from + k) (Some b)) (sym is)
    ∙ ap (λ n. Some (record { byte = get_or r.bytes.items n 0; rights = r.rights })) place

length-bytes_at : (m : Space) (a w : ℕ) → length (bytes_at m a w) ≡ w
unfolding bytes_at
length-bytes_at m a zero = refl
length-bytes_at m a (suc w) = ap suc (length-bytes_at m (a + 1) w)

get_or-bytes_at : (m : Space) (a w k : ℕ) → k < w → get_or (bytes_at m a w) k 0 ≡ byte_of (get m (a + k))
unfolding bytes_at
get_or-bytes_at m a zero k below = absurd (omega (arith, below))
get_or-bytes_at m a (suc w) zero below = let here : a ≡ a + 0 = omega arith in ap (λ q. byte_of (get m q)) here
get_or-bytes_at m a (suc w) (suc k) below =
    let there : a + 1 + k ≡ a + suc k = omega arith in
    get_or-bytes_at m (a + 1) w k (omega (arith, below)) ∙ ap (λ q. byte_of (get m q)) there

pub page_in : (xs : List PageBuffer) (i : ℕ) (r : PageBuffer) → AreSorted xs → i < length xs → r ≡ get_or xs i r
    → record { from = r.from; rights = r.rights; bytes = r.bytes.items } ≡ page_at (cells_of xs) r.from
page_in xs i r sorted below is =
    let whole : length r.bytes.items ≡ 4096 = (subst IsPageBuffer (sym is) (sorted.each i r below)).whole in
    let first : r.from ≡ r.from + 0 = omega arith in
    let rights : r.rights ≡ rights_of (get (cells_of xs) r.from) = sym (ap (λ a. rights_of (get (cells_of xs) a)) first ∙ ap rights_of (page_byte xs i r 0 sorted below is (lit< tt))) in
    let bytes : r.bytes.items ≡ bytes_at (cells_of xs) r.from 4096 = same_lists r.bytes.items (bytes_at (cells_of xs) r.from 4096) (whole ∙ sym (length-bytes_at (cells_of xs) r.from 4096)) (λ k d less.
    let small : k < 4096 = omega (arith, whole, less) in
    let long = length-bytes_at (cells_of xs) r.from 4096 in
    get_or_default r.bytes.items k d 0 less
    ∙ sym (get_or_default (bytes_at (cells_of xs) r.from 4096) k d 0 (omega (arith, long, small)) ∙ get_or-bytes_at (cells_of xs) r.from 4096 k small ∙ ap byte_of (page_byte xs i r k sorted below is small))) in
    λ t. record { from = r.from; rights = rights t; bytes = bytes t }

pub page_of_buffer : (xs : List PageBuffer) (i : ℕ) (r : PageBuffer) → AreSorted xs → i < length xs → r ≡ get_or xs i r
    → IsPageOf (cells_of xs) (record { from = r.from; rights = r.rights; bytes = r.bytes.items })
page_of_buffer xs i r sorted below is = record {
  whole = (subst IsPageBuffer (sym is) (sorted.each i r below)).whole;
  cells = λ k small. page_byte xs i r k sorted below is small;
}

-- where a page's first byte is missing, all of it is
pub page_free : (xs : List PageBuffer) (q : ℕ) → AreSorted xs → find (holds q) xs ≡ None → q % 4096 ≡ 0 → IsFree (cells_of xs) q 4096
page_free xs q sorted none aligned a low high = page_lacks xs q a sorted none (omega (arith, low, high, aligned))

-- the buffer that has a page's address begins there
pub holder_begins : (xs : List PageBuffer) (i q : ℕ) (r : PageBuffer) → AreSorted xs → IsHolder xs q i → r ≡ get_or xs i r → q % 4096 ≡ 0 → r.from ≡ q
holder_begins xs i q r sorted holder is aligned =
    let page : IsPageBuffer r = subst IsPageBuffer (sym is) (sorted.each i r holder.within) in
    let a = page.aligned in
    let w = page.whole in
    let low : r.from ≤ q = subst (λ (b : PageBuffer). b.from ≤ q) (sym is) (holder.from r) in
    let high : q < end_of r = subst (λ (b : PageBuffer). q < end_of b) (sym is) (holder.upto r) in
    omega (arith, a, w, low, high, aligned)

-- a page taken out
pub sorted-remove : (xs : List PageBuffer) (i : ℕ) (r : PageBuffer) → AreSorted xs → i < length xs → r ≡ get_or xs i r → AreSorted (remove xs i)
sorted-remove xs i r sorted below is =
    let next : i + 1 ≡ suc i = omega arith in
    subst (λ j. AreSorted (take i xs ++ drop j xs)) next
    (sorted-cut xs r.from (r.from + 4096) i (i + 1) sorted (split_page xs i r sorted below is) (split_past xs i r sorted below is) (omega arith))

pub cells_of-remove : (xs : List PageBuffer) (i : ℕ) (r : PageBuffer) → AreSorted xs → i < length xs → r ≡ get_or xs i r → cells_of (remove xs i) ≡ without (cells_of xs) r.from 4096
cells_of-remove xs i r sorted below is =
    let next : i + 1 ≡ suc i = omega arith in
    ap (λ j. cells_of (take i xs ++ drop j xs)) (sym next)
    ∙ cells_of-cut xs r.from (r.from + 4096) i (i + 1) 4096 sorted (split_page xs i r sorted below is) (split_past xs i r sorted below is) (omega arith) (inl refl)

ascend : (xs : List PageBuffer) (f g i j : ℕ) (d : PageBuffer) → IsCountBefore xs f i → IsCountBefore xs g j → f ≤ g → i ≤ j
ascend xs f g i j d first last ordered =
    elim (leb_tells i j) [
      | inl p ↦ p.1
      | inr p ↦
          let less = p.1 in
          let w = first.within in
          let a = first.before j d less in
          let b = last.after j d (omega arith) (omega (arith, less, w)) in
          absurd (omega (arith, a, b, ordered))
    ]

-- no fewer pages begin before a later address
pub counts_ascend : (xs : List PageBuffer) (f g i j : ℕ) → IsCountBefore xs f i → IsCountBefore xs g j → f ≤ g → i ≤ j
counts_ascend [] f g i j first last ordered = let w = first.within in omega (arith, w)
counts_ascend (x ∷ xs) f g i j first last ordered = ascend (x ∷ xs) f g i j x first last ordered

-- where the pages of a range lie, cut at the end of the address space
pub record Cut (xs : List PageBuffer) (f g i j size : ℕ) : Type 0 where
  pub first : IsSplit xs f i
  pub last : IsSplit xs g j
  pub ordered : f ≤ g
  pub ascend : i ≤ j
  pub ends : (g ≡ f + size) ⊎ ((2 ^ 64 ≤ g + 1) × (g ≤ f + size))

pub cut_at : (xs : List PageBuffer) (f count bytes g i j : ℕ) → AreSorted xs → IsCountBefore xs f i → IsCountBefore xs g j → f % 4096 ≡ 0 → f < 2 ^ 64
    → bytes ≡ min (4096 * count) 18446744073709551615 → g ≡ min (f + bytes) 18446744073709551615 → Cut xs f g i j (4096 * count)
cut_at xs f count bytes g i j sorted first last aligned small product sum =
    let ordered : f ≤ g = omega (arith, small, product, sum) in
    record {
      first = split_at xs f i sorted first (inl aligned);
      last = split_at xs g j sorted last (elim (leb_tells (f + 4096 * count) 18446744073709551614) [
        | inl p ↦ let fits = p.1 in inl (omega (arith, aligned, fits, product, sum))
        | inr p ↦ let past = p.1 in inr (omega (arith, past, product, sum))
      ]);
      ordered = ordered;
      ascend = counts_ascend xs f g i j first last ordered;
      ends = elim (leb_tells (f + 4096 * count) 18446744073709551614) [
        | inl p ↦ let fits = p.1 in inl (omega (arith, fits, product, sum))
        | inr p ↦ let past = p.1 in inr (omega (arith, past, product, sum), omega (arith, past, product, sum))
      ];
    }

pub held_there : (xs : List PageBuffer) (i q : ℕ) → AreSorted xs → IsHolder xs q i → IsSome (get (cells_of xs) q)
held_there [] i q sorted holder = absurd (let w = holder.within in omega (arith, w))
held_there (x ∷ xs) i q sorted holder = page_there (x ∷ xs) i x q sorted holder.within (holder.from x) (holder.upto x)
