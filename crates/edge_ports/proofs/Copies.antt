-- Bytes that are copied to the first places are those that went from the front.
use Rattle.std.proofs.Common.{◌≡◌, ℕ, ◌+◌, ◌≤◌, List, ◌++◌, length, take, drop, sym, ◌∙◌, ap, arith, take-append-drop}
use Rattle.std.proofs.lemmas.List.{take_at, length-take, drop-drop}

-- the copy of the first n bytes left, which stand at `at`
pub copied : (bytes left places copy : List ℕ) (at n : ℕ) → left ≡ drop at bytes → n ≤ length left → copy ≡ take n left
    → left ≡ take n (copy ++ drop n places) ++ drop (at + n) bytes
copied bytes left places copy at n left_is fits copy_is =
    let size : length copy ≡ n = omega (arith, ap length copy_is, length-take n left) in
    let front : take n (copy ++ drop n places) ≡ take n left = take_at copy (drop n places) n size ∙ copy_is in
    let back : drop n left ≡ drop (at + n) bytes = ap (λ (l : List ℕ). drop n l) left_is ∙ drop-drop n at bytes in
    sym (take-append-drop n left) ∙ ap (λ (l : List ℕ). l ++ drop n left) (sym front) ∙ ap (λ (l : List ℕ). take n (copy ++ drop n places) ++ l) back
