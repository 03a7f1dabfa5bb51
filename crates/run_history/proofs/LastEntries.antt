-- The last entry of a list, taken off and made longer.
use Rattle.std.proofs.Common.{◌≡◌, ◌⊎◌, inl, inr, ℕ, zero, suc, ◌+◌, ◌-◌, ◌<◌, ◌≤◌, Bool, true, false, ◌==◌, nat_lt, ◌^◌, if◌then◌else◌, List, [], ◌∷◌, ◌++◌, length, length-append, Option, Some, None, slice_get, refl, ap, sym, ◌∙◌, arith}
use Rattle.std.proofs.lemmas.Bool.{eqb-true}
use Rattle.run_history.specs.declared.entry.Entry.{Entry, Ran, Entered, Called, Rescued', Ended}
use Rattle.run_history.specs.LastEntry.{can_lengthen, can_lengthen_by, ends_in_ran, ends_in_ran_of, lengthened, lengthened_by, longer, longer_by, with_act, with_acts, with_ran}
use Rattle.run_history.proofs.Ands.{and_left, and_right, if_by}

pub lengthened_by-append : (n : ℕ) (xs : List Entry) (e : Entry) → lengthened_by n (xs ++ e ∷ []) ≡ xs ++ longer_by n e ∷ []
lengthened_by-append n [] e = refl
lengthened_by-append n (x ∷ []) e = refl
lengthened_by-append n (x ∷ (y ∷ ys)) e = ap (λ z. x ∷ z) (lengthened_by-append n (y ∷ ys) e)

pub lengthened-append : (xs : List Entry) (e : Entry) → lengthened (xs ++ e ∷ []) ≡ xs ++ longer e ∷ []
lengthened-append xs e = lengthened_by-append 1 xs e

pub ends_in_ran-append : (xs : List Entry) (e : Entry) → ends_in_ran (xs ++ e ∷ []) ≡ can_lengthen e
ends_in_ran-append [] e = refl
ends_in_ran-append (x ∷ []) e = refl
ends_in_ran-append (x ∷ (y ∷ ys)) e = ends_in_ran-append (y ∷ ys) e

pub ends_in_ran_of-append : (h n : ℕ) (xs : List Entry) (e : Entry) → ends_in_ran_of h n (xs ++ e ∷ []) ≡ can_lengthen_by h n e
ends_in_ran_of-append h n [] e = refl
ends_in_ran_of-append h n (x ∷ []) e = refl
ends_in_ran_of-append h n (x ∷ (y ∷ ys)) e = ends_in_ran_of-append h n (y ∷ ys) e

-- where a Ran of the hart can be made longer by one, a Ran can
can_lengthen-of : (h : ℕ) (e : Entry) → can_lengthen_by h 1 e ≡ true → can_lengthen e ≡ true
can_lengthen-of h (Ran k count) is = and_right (k == h) (nat_lt (count + 1) (2 ^ 32)) is
can_lengthen-of h (Entered k p) is = cc
can_lengthen-of h (Called k call) is = cc
can_lengthen-of h (Rescued' k p f shape inside) is = cc
can_lengthen-of h (Ended x) is = cc

pub ends_in_ran-of : (h : ℕ) (es : List Entry) → ends_in_ran_of h 1 es ≡ true → ends_in_ran es ≡ true
ends_in_ran-of h [] is = cc
ends_in_ran-of h (e ∷ []) is = can_lengthen-of h e is
ends_in_ran-of h (e ∷ (f ∷ rest)) is = ends_in_ran-of h (f ∷ rest) is

-- by the last entry

abbrev pub can_lengthen_in : Option Entry → Bool
can_lengthen_in None = false
can_lengthen_in (Some e) = can_lengthen e

pub ends_in_ran-last : (es : List Entry) → ends_in_ran es ≡ can_lengthen_in (slice_get es (length es - 1))
ends_in_ran-last [] = refl
ends_in_ran-last (e ∷ []) = refl
ends_in_ran-last (e ∷ (f ∷ rest)) =
    let n : length (e ∷ (f ∷ rest)) - 1 ≡ suc (length (f ∷ rest) - 1) = omega arith in
    ends_in_ran-last (f ∷ rest) ∙ ap (λ k. can_lengthen_in (slice_get (e ∷ (f ∷ rest)) k)) (sym n)

abbrev pub can_lengthen_in_by : ℕ → ℕ → Option Entry → Bool
can_lengthen_in_by h n None = false
can_lengthen_in_by h n (Some e) = can_lengthen_by h n e

pub ends_in_ran_of-last : (h n : ℕ) (es : List Entry) → ends_in_ran_of h n es ≡ can_lengthen_in_by h n (slice_get es (length es - 1))
ends_in_ran_of-last h n [] = refl
ends_in_ran_of-last h n (e ∷ []) = refl
ends_in_ran_of-last h n (e ∷ (f ∷ rest)) =
    let m : length (e ∷ (f ∷ rest)) - 1 ≡ suc (length (f ∷ rest) - 1) = omega arith in
    ends_in_ran_of-last h n (f ∷ rest) ∙ ap (λ k. can_lengthen_in_by h n (slice_get (e ∷ (f ∷ rest)) k)) (sym m)

-- so many acts more are one entry more at most

pub length-lengthened_by : (n : ℕ) (es : List Entry) → length (lengthened_by n es) ≡ length es
length-lengthened_by n [] = refl
length-lengthened_by n (e ∷ []) = refl
length-lengthened_by n (e ∷ (f ∷ rest)) = let r = length-lengthened_by n (f ∷ rest) in omega (arith, r)

pub length-with_ran : (h n : ℕ) (es : List Entry) → length (with_ran h n es) ≤ length es + 1
length-with_ran h n es =
    if_by (λ (fs : List Entry). length fs ≤ length es + 1) (ends_in_ran_of h n es) _ _ (λ e. let l = length-lengthened_by n es in omega (arith, l))
    (λ e. let l = length-append es (Ran h n ∷ []) in omega (arith, l))

pub length-with_acts : (h n : ℕ) (es : List Entry) → length (with_acts h n es) ≤ length es + 1
length-with_acts h zero es = omega arith
length-with_acts h (suc n) es = length-with_ran h (suc n) es

pub length-with_act : (h : ℕ) (es : List Entry) → length (with_act h es) ≤ length es + 1
length-with_act h es = length-with_acts h 1 es

-- what a longer last entry is, by the entries before it
pub record Grown (h n : ℕ) (es fs : List Entry) : Type 0 where
  pub before : List Entry
  pub count : ℕ
  pub was : es ≡ before ++ Ran h count ∷ []
  pub is : fs ≡ before ++ Ran h (count + n) ∷ []

pub lengthened_by-is : (h n : ℕ) (es : List Entry) → ends_in_ran_of h n es ≡ true → Grown h n es (lengthened_by n es)
lengthened_by-is h n [] is = cc
lengthened_by-is h n (Ran k count ∷ []) is =
    let at : k ≡ h = eqb-true k h (and_left _ _ is) in
    record { before = []; count = count; was = ap (λ i. Ran i count ∷ []) at; is = ap (λ i. Ran i (count + n) ∷ []) at }
lengthened_by-is h n (Entered k p ∷ []) is = cc
lengthened_by-is h n (Called k call ∷ []) is = cc
lengthened_by-is h n (Rescued' k p f shape inside ∷ []) is = cc
lengthened_by-is h n (Ended x ∷ []) is = cc
lengthened_by-is h n (e ∷ (f ∷ rest)) is =
    let g = lengthened_by-is h n (f ∷ rest) is in
    record { before = e ∷ g.before; count = g.count; was = ap (λ es. e ∷ es) g.was; is = ap (λ es. e ∷ es) g.is }

-- a Ran behind: one more, or the last one grown
pub with_ran-is : (h n : ℕ) (es : List Entry) → (with_ran h n es ≡ es ++ Ran h n ∷ []) ⊎ Grown h n es (with_ran h n es)
with_ran-is h n es = by (ends_in_ran_of h n es) refl
  where
    by : (b : Bool) → ends_in_ran_of h n es ≡ b → ((if b then lengthened_by n es else es ++ Ran h n ∷ []) ≡ es ++ Ran h n ∷ []) ⊎ Grown h n es (if b then lengthened_by n es else es ++ Ran h n ∷ [])
    by true is = inr (lengthened_by-is h n es is)
    by false is = inl refl

pub with_acts-some : (h n : ℕ) (es : List Entry) → 0 < n → with_acts h n es ≡ with_ran h n es
with_acts-some h zero es some = absurd (omega (arith, some))
with_acts-some h (suc n) es some = refl
