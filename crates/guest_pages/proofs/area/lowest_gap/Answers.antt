use Rattle.std.proofs.Common.{◌≡◌, ◌+◌, ◌-◌, ◌*◌, ◌<◌, ◌≤◌, ℕ, ap, subst, get_or, length, arith}
use Rattle.std.proofs.lemmas.List.{get_or_default}
use Rattle.guest_pages.specs.declared.page_buffer.PageBuffer.{PageBuffer}
use Rattle.guest_pages.proofs.Adjacent.{adjacent_in, lowest_behind, sorted-part}
use Rattle.guest_pages.proofs.AreaSearch.{IsLowest, lowest_found, place_found, free_found, lowest_none}
use Rattle.guest_pages.proofs.Lookup.{starts_ascend}
use Rattle.guest_pages.proofs.area.lowest_gap.Goals as goal

pub returns-then-count-pages : goal.returns-then-count-pages
returns-then-count-pages c =
    let xs = c.args.pages.now in
    let i = c.loop-index.index in
    let count = c.args.count in
    let place = c.loop-index.place in
    let held = c.loop-index.invariant in
    let last = c.count_before-last.ensures.value in
    let w = last.within in
    let within : i < length xs = omega (arith, w, c.loop-index-test.true) in
    let d = c.index-pages-index.result in
    let early = last.before i d c.loop-index-test.true in
    let ahead = held.ahead i d (omega arith) within in
    let enough = c.if-count-pages.true in
    let after : (k : ℕ) (e : PageBuffer) → i ≤ k → k < length xs → place + 4096 * count ≤ (get_or xs k e).from = λ k e later below.
    let up = starts_ascend xs i k e c.requires.sorted later below in
    let same = ap (λ (b : PageBuffer). b.from) (get_or_default xs i e d within) in
    omega (arith, up, same, ahead, enough) in
    let fits : place + 4096 * count ≤ 0x3fc0000000 = omega (arith, early, ahead, enough) in
    record {
      value = lowest_found xs count place i c.requires.sorted held after fits;
      place = place_found xs count place i held fits;
      free = free_found xs count place i held after;
    }

pub count_adjacent-index-requires-clause-sorted : goal.count_adjacent-index-requires-clause-sorted
count_adjacent-index-requires-clause-sorted c =
    let w = c.count_before-last.ensures.value.within in
    sorted-part c.args.pages.now c.loop-index.index c.count_before-last.result c.requires.sorted (omega (arith, c.loop-index-test.true)) w

pub loop-index-preserved : goal.loop-index-preserved
loop-index-preserved c =
    let xs = c.args.pages.now in
    let i = c.loop-index.index in
    let j = c.count_before-last.result in
    let n = c.count_adjacent-index.result in
    let d = c.index-pages-index-in-loop-index.result in
    let last = c.count_before-last.ensures.value in
    let w = last.within in
    let less = c.loop-index-test.true in
    let within : i < length xs = omega (arith, w, less) in
    let some = c.count_adjacent-index.ensures.some in
    let few : n ≤ j - i = omega (arith, c.count_adjacent-index.ensures.within, w, less) in
    let there : i + (n - 1) ≡ i + n - 1 = omega (arith, some) in
    let all : i + (n - 1) + 1 ≡ i + n = omega (arith, some) in
    let same = ap (λ (b : PageBuffer). b.from) (get_or_default xs i c.index-pages-index.result d within) in
    let short = c.if-count-pages.false in
    let behind = lowest_behind (n - 1) xs c.args.count c.loop-index.place i d c.requires.sorted c.loop-index.invariant (omega (arith, some, few, w, less))
    (λ k upto. adjacent_in xs i j n k d c.count_adjacent-index.ensures.adjacent few (omega (arith, upto, some)))
    (last.before (i + (n - 1)) d (omega (arith, some, few, less))) (omega (arith, short, same)) in
    subst (λ k. IsLowest xs c.args.count ((get_or xs k d).from + 4096) (i + n)) there
    (subst (IsLowest xs c.args.count ((get_or xs (i + (n - 1)) d).from + 4096)) all behind)

pub returns-then-count-place : goal.returns-then-count-place
returns-then-count-place c =
    let xs = c.args.pages.now in
    let i = c.loop-index.index in
    let count = c.args.count in
    let place = c.loop-index.place in
    let held = c.loop-index.invariant in
    let high = held.high in
    let last = c.count_before-last.ensures.value in
    let enough = c.if-count-place.true in
    let fits : place + 4096 * count ≤ 0x3fc0000000 = omega (arith, high, enough) in
    let after : (k : ℕ) (d : PageBuffer) → i ≤ k → k < length xs → place + 4096 * count ≤ (get_or xs k d).from = λ k d later below.
    let a = last.after k d (omega (arith, later, c.loop-index-test.false)) below in
    omega (arith, a, fits) in
    record {
      value = lowest_found xs count place i c.requires.sorted held after fits;
      place = place_found xs count place i held fits;
      free = free_found xs count place i held after;
    }

pub returns-else-count-place-clause-value : goal.returns-else-count-place-clause-value
returns-else-count-place-clause-value c =
    lowest_none c.args.pages.now c.args.count c.loop-index.place c.loop-index.index c.loop-index.invariant c.if-count-place.false
