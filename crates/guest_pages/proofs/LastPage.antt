-- The last page of a range, whose end is cut at the end of the address space.
use Rattle.std.proofs.Common.{◌≡◌, ℕ, ◌+◌, ◌-◌, ◌*◌, ◌%◌, ◌<◌, ◌≤◌, min, List, length, get_or, ap, ◌∙◌, arith}
use Rattle.std.proofs.lemmas.List.{get_or_default}
use Rattle.guest_pages.specs.declared.page_buffer.PageBuffer.{PageBuffer}
use Rattle.guest_pages.specs.Buffers.{end_of, cell_in, cells_of, AreSorted, IsCountBefore}
use Rattle.guest_pages.specs.Stretch.{IsFree, IsLastPage}
use Rattle.guest_pages.proofs.Lookup.{get-cells_of, between_buffers, page_there, starts_ascend}

-- pages that don't begin before the end of a range begin behind each of its addresses
begin_behind : (xs : List PageBuffer) (f count bytes g n a k : ℕ) (d : PageBuffer) → AreSorted xs → IsCountBefore xs g n
    → bytes ≡ min (4096 * count) 18446744073709551615 → g ≡ min (f + bytes) 18446744073709551615
    → a < f + 4096 * count → n ≤ k → k < length xs → a < (get_or xs k d).from
begin_behind xs f count bytes g n a k d sorted before product sum inside later within =
    let page = sorted.each k d within in
    let below = page.below in
    let whole = page.whole in
    let past = before.after k d later within in
    omega (arith, below, whole, past, product, sum, inside)

-- the pages before a place end at most where the last of them does
end_upto : (xs : List PageBuffer) (n k : ℕ) (d : PageBuffer) → AreSorted xs → k < n → n ≤ length xs → end_of (get_or xs k d) ≤ (get_or xs (n - 1) d).from + 4096
end_upto xs n k d sorted less within =
    let up = starts_ascend xs k (n - 1) d sorted (omega (arith, less)) (omega (arith, less, within)) in
    let whole = (sorted.each k d (omega (arith, less, within))).whole in
    omega (arith, up, whole)

-- the last page that begins before the end of a range is its last, if it begins in it
pub last_in : (xs : List PageBuffer) (f count bytes g n : ℕ) (d e : PageBuffer) → AreSorted xs → IsCountBefore xs g n
    → bytes ≡ min (4096 * count) 18446744073709551615 → g ≡ min (f + bytes) 18446744073709551615 → 0 < n
    → f ≤ (get_or xs (n - 1) d).from → IsLastPage (cells_of xs) f (4096 * count) (get_or xs (n - 1) e).from
last_in xs f count bytes g n d e sorted before product sum some low =
    let within = before.within in
    let below : n - 1 < length xs = omega (arith, some, within) in
    let page = sorted.each (n - 1) e below in
    let whole = page.whole in
    let early = before.before (n - 1) e (omega (arith, some)) in
    let same = ap (λ (b : PageBuffer). b.from) (get_or_default xs (n - 1) d e below) in
    record {
      low = omega (arith, low, same);
      high = omega (arith, early, product, sum);
      aligned = page.aligned;
      there = page_there xs (n - 1) e (get_or xs (n - 1) e).from sorted below (omega arith) (omega (arith, whole));
      last = λ a behind inside. get-cells_of xs a ∙ ap (cell_in a) (between_buffers xs n a
          (λ k b less _. let upto = end_upto xs n k b sorted less within in let here = ap (λ (b : PageBuffer). b.from) (get_or_default xs (n - 1) b e below) in omega (arith, upto, here, behind))
          (λ k b later inside_list. begin_behind xs f count bytes g n a k b sorted before product sum inside later inside_list));
    }

-- none of the range is there where that page begins before the range, or no page does
pub none_in_range : (xs : List PageBuffer) (f count bytes g n : ℕ) → AreSorted xs → IsCountBefore xs g n
    → bytes ≡ min (4096 * count) 18446744073709551615 → g ≡ min (f + bytes) 18446744073709551615 → f % 4096 ≡ 0
    → ((d : PageBuffer) → 0 < n → (get_or xs (n - 1) d).from < f) → IsFree (cells_of xs) f (4096 * count)
none_in_range xs f count bytes g n sorted before product sum aligned early a low high =
    get-cells_of xs a ∙ ap (cell_in a) (between_buffers xs n a
    (λ k d less inside.
    let within = before.within in
    let first = early d (omega (arith, less)) in
    let upto = end_upto xs n k d sorted less within in
    let start = (sorted.each (n - 1) d (omega (arith, less, within))).aligned in
    omega (arith, first, upto, start, aligned, low))
    (λ k d later inside. begin_behind xs f count bytes g n a k d sorted before product sum high later inside))
