-- Harts of which all are empty from a slot on.
use Rattle.std.proofs.Common.{◌≡◌, ◌<◌, ◌≤◌, ◌-◌, ◌+◌, ℕ, List, ◌++◌, map, min, length, set, take, drop, replicate, ap, sym, ◌∙◌, arith}
use Rattle.std.proofs.lemmas.List.{get_or-drop, get_or-map, get_or-replicate, length-drop, length-map, length-replicate, replicate-append-replicate, same_lists, take-append-drop}
use Rattle.std.proofs.lemmas.List.Edits.{fill_from_more, paste_all}
use lib.Seq.{paste}
use Rattle.guest_words.specs.declared.hart.Hart.{Hart}
use Rattle.guest_words.specs.Start.{empty_hart}
use Rattle.guest_atomics.specs.Idle.{IsEmptyFrom}

-- a change that leaves an empty hart as it is
pub map-empty : (f : Hart → Hart) → f empty_hart ≡ empty_hart
    → (used : ℕ) (harts : List Hart) → IsEmptyFrom used harts → IsEmptyFrom used (map f harts)
map-empty f keeps used harts empty slot d behind within =
    let less = length-map harts f in
    let inside : slot < length harts = omega (arith, within, less) in
    get_or-map f harts slot d d inside ∙ ap f (empty slot d behind inside) ∙ keeps

pub drop-empty : (used n : ℕ) (harts : List Hart) → IsEmptyFrom used harts → min used (length harts) ≤ n
    → drop n harts ≡ replicate (length harts - n) empty_hart
drop-empty used n harts empty behind =
    let some = length-drop n harts in
    let count = length-replicate (length harts - n) empty_hart in
    same_lists (drop n harts) (replicate (length harts - n) empty_hart) (omega (arith, some, count)) (λ k d within.
    let inside : k < length harts - n = omega (arith, within, some) in
    let past : used ≤ n + k = omega (arith, behind, inside) in
    get_or-drop n harts k d ∙ empty (n + k) d past (omega (arith, inside))
    ∙ sym (get_or-replicate (length harts - n) k empty_hart d inside))

-- those before, with so many empty ones behind them
pub kept-empty : (used n : ℕ) (harts : List Hart) → IsEmptyFrom used harts → min used (length harts) ≤ n
    → take n harts ++ replicate (length harts - n) empty_hart ≡ harts
kept-empty used n harts empty behind =
    ap (λ rest. take n harts ++ rest) (sym (drop-empty used n harts empty behind)) ∙ take-append-drop n harts

-- one more empty one, put from a slot on
pub empty-more : (slot at : ℕ) (harts before : List Hart) → at ≤ slot → slot < length harts
    → before ≡ paste harts at (replicate (slot - at) empty_hart) (slot - at)
    → set before slot empty_hart ≡ paste harts at (replicate (slot + 1 - at) empty_hart) (slot + 1 - at)
empty-more slot at harts before behind within so_far =
    let here : slot ≡ at + (slot - at) = omega (arith, behind) in
    let next : slot - at + 1 ≡ slot + 1 - at = omega (arith, behind) in
    let inside : at + (slot - at) < length harts = omega (arith, behind, within) in
    ap (λ xs. set xs slot empty_hart) so_far
    ∙ ap (λ k. set (paste harts at (replicate (slot - at) empty_hart) (slot - at)) k empty_hart) here
    ∙ fill_from_more harts at (slot - at) empty_hart inside
    ∙ ap (λ k. paste harts at (replicate k empty_hart) k) next

-- empty ones put from a slot on, up to where all are empty
pub paste-empty : (used at n : ℕ) (harts : List Hart) → IsEmptyFrom used harts → min used (length harts) ≤ at + n → at + n ≤ length harts
    → paste harts at (replicate n empty_hart) n ≡ take at harts ++ replicate (length harts - at) empty_hart
paste-empty used at n harts empty behind within =
    let all : n + (length harts - (at + n)) ≡ length harts - at = omega (arith, within) in
    paste_all harts at (replicate n empty_hart) n (sym (length-replicate n empty_hart))
    ∙ ap (λ rest. take at harts ++ (replicate n empty_hart ++ rest)) (drop-empty used (at + n) harts empty behind)
    ∙ ap (λ rest. take at harts ++ rest)
    (replicate-append-replicate n (length harts - (at + n)) empty_hart ∙ ap (λ k. replicate k empty_hart) all)
