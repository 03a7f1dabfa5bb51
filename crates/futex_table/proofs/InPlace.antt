-- Waiters that stay, moved to the front of the list that they stand in.
use Rattle.std.proofs.Common.{◌≡◌, ◌<◌, ◌≤◌, ◌+◌, ◌-◌, ℕ, suc, true, List, [], ◌∷◌, ◌++◌, length, get_or, set, take, drop, ap, sym, ◌∙◌, append_assoc, append-nil, arith}
use Rattle.std.proofs.lemmas.List.{drop-set-lt}
use Rattle.std.proofs.Math.Seq.{drop-cons, take-suc-set}
use Rattle.guest_words.specs.declared.hart.Waiter.{Waiter}
use Rattle.guest_words.specs.CallChanges.{waits_at, unwoken}
use Rattle.futex_table.proofs.OneWaiter.{unwoken-wakes, unwoken-passes, unwoken-none}

-- what is still to be looked at
abbrev pub rest_of : List Waiter → ℕ → ℕ → List Waiter
rest_of waiters count index = take (count - index) (drop index waiters)

rest-next : (waiters : List Waiter) (count index : ℕ) (d : Waiter) → index < count → index < length waiters
    → rest_of waiters count index ≡ get_or waiters index d ∷ rest_of waiters count (index + 1)
rest-next waiters count index d more within =
    let fewer : count - index ≡ suc (count - (index + 1)) = omega arith in
    let one : suc index ≡ index + 1 = omega arith in
    ap (λ n. take n (drop index waiters)) fewer
    ∙ ap (take (suc (count - (index + 1)))) (drop-cons waiters index d within)
    ∙ ap (λ n. get_or waiters index d ∷ take (count - (index + 1)) (drop n waiters)) one

-- what stays in front, and what will stay of the rest
abbrev pub left_of : ℕ → ℕ → List Waiter → ℕ → ℕ → ℕ → List Waiter
left_of place left waiters kept count index = take kept waiters ++ unwoken place left (rest_of waiters count index)

pub left_of-wakes : (place left kept count index : ℕ) (waiters : List Waiter) (d : Waiter)
    → index < count → count ≤ length waiters → waits_at place (get_or waiters index d) ≡ true → 0 < left
    → left_of place (left - 1) waiters kept count (index + 1) ≡ left_of place left waiters kept count index
left_of-wakes place left kept count index waiters d more within waits some =
    let inside : index < length waiters = omega arith in
    ap (λ xs. take kept waiters ++ xs)
    (sym (ap (unwoken place left) (rest-next waiters count index d more inside) ∙ unwoken-wakes place left _ _ waits some))

pub left_of-keeps : (place left kept count index : ℕ) (waiters : List Waiter) (d : Waiter)
    → kept ≤ index → index < count → count ≤ length waiters → (waits_at place (get_or waiters index d) ≡ true → left ≡ 0)
    → left_of place left (set waiters kept (get_or waiters index d)) (kept + 1) count (index + 1)
    ≡ left_of place left waiters kept count index
left_of-keeps place left kept count index waiters d behind more within spent =
    let inside : index < length waiters = omega arith in
    let fits : kept < length waiters = omega arith in
    let below : kept < index + 1 = omega arith in
    let one : kept + 1 ≡ suc kept = omega arith in
    let x : Waiter = get_or waiters index d in
    let later : List Waiter = unwoken place left (rest_of waiters count (index + 1)) in
    ap (λ ys. take (kept + 1) (set waiters kept x) ++ unwoken place left (take (count - (index + 1)) ys))
    (drop-set-lt (index + 1) waiters kept x below)
    ∙ ap (λ n. take n (set waiters kept x) ++ later) one
    ∙ ap (λ ys. ys ++ later) (take-suc-set waiters kept x fits)
    ∙ append_assoc (take kept waiters) (x ∷ []) later
    ∙ ap (λ xs. take kept waiters ++ xs)
    (sym (ap (unwoken place left) (rest-next waiters count index d more inside) ∙ unwoken-passes place left x _ spent))

-- nothing is left to be looked at
pub left_of-all : (place left kept count index : ℕ) (waiters : List Waiter) → count ≤ index
    → left_of place left waiters kept count index ≡ take kept waiters
left_of-all place left kept count index waiters ended =
    let none : count - index ≡ 0 = omega arith in
    ap (λ n. take kept waiters ++ unwoken place left (take n (drop index waiters))) none
    ∙ ap (λ xs. take kept waiters ++ xs) (unwoken-none place left)
    ∙ append-nil (take kept waiters)
