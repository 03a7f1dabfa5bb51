-- Bytes put page by page.
use Rattle.std.proofs.Common.{◌≡◌, ℕ, suc, ◌+◌, ◌-◌, ◌/◌, ◌%◌, ◌<◌, ◌≤◌, ◌&&◌, nat_le, nat_lt, Bool, true, false, List, [], ◌∷◌, ◌++◌, length, get_or, take, drop, Some, None, refl, sym, ap, ◌∙◌, arith, if◌then◌else◌, slice_index}
use Rattle.std.specs.Cmp.{nat_cmp_total}
use Rattle.std.specs.FinMap.{get, same_map, nat_cmp-IsAntisymmetric}
use Rattle.std.specs.List.{find}
use Rattle.std.proofs.lemmas.Bool.Decides.{nat_tests}
use Rattle.std.proofs.lemmas.List.{take-append-drop, take_rest, length-take, length-drop, drop-drop}
use Rattle.guest_words.specs.Space.{Space, with_byte, with_bytes}
use Rattle.guest_words.proofs.Blanks.{get-with_bytes, overwritten}
use Rattle.guest_pages.specs.declared.page_buffer.PageBuffer.{PageBuffer}
use Rattle.guest_pages.specs.Buffers.{holds, cell_in, cells_of, AreSorted}
use Rattle.guest_pages.specs.Paged.{Paged}
use Rattle.guest_pages.proofs.Lookup.{holds_no, find_fails, get-cells_of, find-holder}

-- bytes before others
pub with_bytes-append : (xs ys : List ℕ) (m : Space) (a : ℕ) → with_bytes m a (xs ++ ys) ≡ with_bytes (with_bytes m a xs) (a + length xs) ys
unfolding with_bytes
with_bytes-append [] ys m a = let here : a ≡ a + 0 = omega arith in ap (λ q. with_bytes m q ys) here
with_bytes-append (x ∷ xs) ys m a =
    let there : a + 1 + length xs ≡ a + suc (length xs) = omega arith in
    with_bytes-append xs ys (with_byte m a x) (a + 1) ∙ ap (λ q. with_bytes (with_bytes (with_byte m a x) (a + 1) xs) q ys) there

-- where an address is in no page, the others of its page aren't either
pub page_lacks : (buffers : List PageBuffer) (q a : ℕ) → AreSorted buffers → find (holds q) buffers ≡ None → a / 4096 ≡ q / 4096 → get (cells_of buffers) a ≡ None
page_lacks buffers q a sorted none same =
    get-cells_of buffers a
    ∙ ap (cell_in a) (find_fails (holds a) buffers (λ k d below. holds_no a (get_or buffers k d) (λ l h.
    let page = sorted.each k d below in
    let f = page.aligned in
    let w = page.whole in
    let there = find-holder buffers k d q sorted below (omega (arith, f, w, l, h, same)) (omega (arith, f, w, l, h, same)) in
    cc)))

-- so bytes put there are passed over
pub fill_none : (buffers : List PageBuffer) (q : ℕ) (bytes : List ℕ) → AreSorted buffers → find (holds q) buffers ≡ None → length bytes ≤ 4096 - q % 4096
    → cells_of buffers ≡ with_bytes (cells_of buffers) q bytes
fill_none buffers q bytes sorted none short =
    same_map nat_cmp_total nat_cmp-IsAntisymmetric _ _ (λ a. sym (get-with_bytes (cells_of buffers) q bytes a ∙ by a (nat_le q a && nat_lt a (q + length bytes)) refl))
  where
    by : (a : ℕ) (t : Bool) → (nat_le q a && nat_lt a (q + length bytes)) ≡ t → overwritten (if t then Some (slice_index bytes (a - q)) else None) (get (cells_of buffers) a) ≡ get (cells_of buffers) a
    by a true inside =
        let low : q ≤ a = grind (arith, nat_tests, inside) in
        let high : a < q + length bytes = grind (arith, nat_tests, inside) in
        let same : a / 4096 ≡ q / 4096 = omega (arith, low, high, short) in
        let lacks = page_lacks buffers q a sorted none same in
        ap (overwritten (Some (slice_index bytes (a - q)))) lacks ∙ sym lacks
    by a false out = refl

-- the first bytes of what is left, and then the rest
pub fill_more : (p : Paged) (a done count : ℕ) (bytes : List ℕ) → done ≤ length bytes → count ≤ length bytes - done
    → record p { space = with_bytes (with_bytes p.space (a + done) (take count (take (length bytes - done) (drop done bytes)))) (a + (done + count)) (drop (done + count) bytes) }
    ≡ record p { space = with_bytes p.space (a + done) (drop done bytes) }
fill_more p a done count bytes within short =
    let rest = drop done bytes in
    let m = with_bytes p.space (a + done) (take count rest) in
    let long : length (take count rest) ≡ count = let t = length-take count rest in let u = length-drop done bytes in omega (arith, t, u, short) in
    let place : a + (done + count) ≡ a + done + length (take count rest) = omega (arith, long) in
    ap (λ bs. record p { space = with_bytes (with_bytes p.space (a + done) (take count bs)) (a + (done + count)) (drop (done + count) bytes) }) (take_rest bytes done)
    ∙ ap (λ q. record p { space = with_bytes m q (drop (done + count) bytes) }) place
    ∙ ap (λ bs. record p { space = with_bytes m (a + done + length (take count rest)) bs }) (sym (drop-drop count done bytes))
    ∙ ap (λ s. record p { space = s }) (sym (with_bytes-append (take count rest) (drop count rest) p.space (a + done)))
    ∙ ap (λ bs. record p { space = with_bytes p.space (a + done) bs }) (take-append-drop count rest)
