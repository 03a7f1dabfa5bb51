-- Nests of calls: what closing leaves of them, and what it leaves as it is.
use Rattle.std.proofs.Common.{◌≡◌, ℕ, ◌+◌, ◌<◌, ◌≤◌, Bool, true, false, nat_lt, if◌then◌else◌, List, [], ◌∷◌, ◌++◌, length, refl, ap, sym, ◌∙◌, arith, append_assoc}
use Rattle.std.proofs.lemmas.Bool.Decides.{nat_tests}
use Rattle.run_history.specs.declared.entry.Entry.{Entry, Entered}
use Rattle.open_calls.specs.Nest.{Level, Nest, closing, closed_to, closed_first, closed_one, flat_from, joined}

-- just so many stay
pub depth_closed : (h keep : ℕ) (os : List Level) (es : List Entry) → keep ≤ length os → length (closing h keep os es).outers ≡ keep
depth_closed h keep [] es few = omega (arith, few)
depth_closed h keep (o ∷ os) es few = by (nat_lt (length os) keep) refl (depth_closed h keep os (joined h o es))
  where
    by : (b : Bool) → nat_lt (length os) keep ≡ b → (keep ≤ length os → length (closing h keep os (joined h o es)).outers ≡ keep)
        → length (if b then record { outers = o ∷ os; entries = es } else closing h keep os (joined h o es)).outers ≡ keep
    by true is further = let l : length os < keep = grind (arith, nat_tests, is) in omega (arith, l, few)
    by false is further = let l : keep ≤ length os = grind (arith, nat_tests, is) in further l

-- no more are open than before
pub depth_less : (h keep : ℕ) (os : List Level) (es : List Entry) → length (closing h keep os es).outers ≤ length os
depth_less h keep [] es = omega arith
depth_less h keep (o ∷ os) es = by (nat_lt (length os) keep) (depth_less h keep os (joined h o es))
  where
    by : (b : Bool) → length (closing h keep os (joined h o es)).outers ≤ length os
        → length (if b then record { outers = o ∷ os; entries = es } else closing h keep os (joined h o es)).outers ≤ length (o ∷ os)
    by true less = omega arith
    by false less = omega (arith, less)

-- where no more are open, none closes
pub closed_few : (h keep : ℕ) (n : Nest) → length n.outers ≤ keep → closed_to h keep n ≡ n
closed_few h keep n few = by n.outers n.entries few
  where
    by : (os : List Level) (es : List Entry) → length os ≤ keep → closing h keep os es ≡ record { outers = os; entries = es }
    by [] es few = refl
    by (o ∷ os) es few =
        let l : nat_lt (length os) keep ≡ true = grind (arith, nat_tests, few) in
        ap (λ (b : Bool). if b then record { outers = o ∷ os; entries = es } else closing h keep os (joined h o es)) l

-- where more are open, the innermost closes first
pub closed_more : (h keep : ℕ) (n : Nest) → keep < length n.outers → closed_to h keep (closed_one h n) ≡ closed_to h keep n
closed_more h keep n more = by n.outers n.entries more
  where
    by : (os : List Level) (es : List Entry) → keep < length os → closed_to h keep (closed_first h os es) ≡ closing h keep os es
    by [] es more = absurd (omega (arith, more))
    by (o ∷ os) es more =
        let l : nat_lt (length os) keep ≡ false = grind (arith, nat_tests, more) in
        sym (ap (λ (b : Bool). if b then record { outers = o ∷ os; entries = es } else closing h keep os (joined h o es)) l)

-- one fewer is open then
pub depth_one : (h : ℕ) (n : Nest) → 0 < length n.outers → length (closed_one h n).outers + 1 ≡ length n.outers
depth_one h n some = by n.outers n.entries some
  where
    by : (os : List Level) (es : List Entry) → 0 < length os → length (closed_first h os es).outers + 1 ≡ length os
    by [] es some = absurd (omega (arith, some))
    by (o ∷ os) es some = omega arith

-- the history stays the same
pub flat_closed : (h keep : ℕ) (os : List Level) (es : List Entry) → let n = closing h keep os es in flat_from h n.outers n.entries ≡ flat_from h os es
flat_closed h keep [] es = refl
flat_closed h keep (o ∷ os) es = by (nat_lt (length os) keep) (flat_closed h keep os (joined h o es))
  where
    by : (b : Bool) → (let n = closing h keep os (joined h o es) in flat_from h n.outers n.entries ≡ flat_from h os (joined h o es))
        → let n : Nest = (if b then record { outers = o ∷ os; entries = es } else closing h keep os (joined h o es)) in flat_from h n.outers n.entries ≡ flat_from h os (joined h o es)
    by true further = refl
    by false further = further

-- where none stays, it is the innermost entries
pub flat_all : (h : ℕ) (os : List Level) (es : List Entry) → (closing h 0 os es).entries ≡ flat_from h os es
flat_all h [] es = refl
flat_all h (o ∷ os) es =
    let l : nat_lt (length os) 0 ≡ false = grind (arith, nat_tests) in
    ap (λ (b : Bool). (if b then record { outers = o ∷ os; entries = es } else closing h 0 os (joined h o es)).entries) l
    ∙ flat_all h os (joined h o es)

-- an entry more goes behind the whole history
pub flat_push : (h : ℕ) (os : List Level) (es fs : List Entry) → flat_from h os (es ++ fs) ≡ flat_from h os es ++ fs
flat_push h [] es fs = refl
flat_push h (o ∷ os) es fs =
    ap (flat_from h os) (sym (append_assoc o.entries (Entered h o.point ∷ es) fs)) ∙ flat_push h os (joined h o es) fs
