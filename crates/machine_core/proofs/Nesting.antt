-- The whole history of open calls, and the entries before the outermost, over what is put to them.
use Rattle.std.proofs.Common.{◌≡◌, ℕ, zero, suc, ◌<◌, Bool, true, false, nat_lt, if◌then◌else◌, List, [], ◌∷◌, ◌++◌, length, refl, ap, sym, ◌∙◌, arith}
use Rattle.guest_words.specs.declared.point.PointRef.{PointRef}
use Rattle.run_history.specs.declared.entry.Entry.{Entry, Ran, Entered}
use Rattle.run_history.specs.LastEntry.{ends_in_ran_of, lengthened_by, with_acts, with_ran}
use Rattle.open_calls.specs.Nest.{Level, Nest, closing, flat_from, joined, lowest, lowest_from}

-- acts behind entries of which the last is behind another

ran_step : (h n : ℕ) (e f : Entry) (fs : List Entry) → with_ran h n (e ∷ (f ∷ fs)) ≡ e ∷ with_ran h n (f ∷ fs)
ran_step h n e f fs = by (ends_in_ran_of h n (f ∷ fs))
  where
    by : (b : Bool) → (if b then e ∷ lengthened_by n (f ∷ fs) else e ∷ ((f ∷ fs) ++ Ran h n ∷ [])) ≡ e ∷ (if b then lengthened_by n (f ∷ fs) else (f ∷ fs) ++ Ran h n ∷ [])
    by true = refl
    by false = refl

ran_entered : (h n k : ℕ) (p : PointRef) (es : List Entry) → with_ran h n (Entered k p ∷ es) ≡ Entered k p ∷ with_ran h n es
ran_entered h n k p [] = refl
ran_entered h n k p (f ∷ fs) = ran_step h n (Entered k p) f fs

ran_behind : (h n k : ℕ) (p : PointRef) (xs es : List Entry) → with_ran h n (xs ++ Entered k p ∷ es) ≡ xs ++ Entered k p ∷ with_ran h n es
ran_behind h n k p [] es = ran_entered h n k p es
ran_behind h n k p (x ∷ []) es = ran_step h n x (Entered k p) es ∙ ap (λ ys. x ∷ ys) (ran_entered h n k p es)
ran_behind h n k p (x ∷ (y ∷ ys)) es = ran_step h n x y (ys ++ Entered k p ∷ es) ∙ ap (λ zs. x ∷ zs) (ran_behind h n k p (y ∷ ys) es)

acts_behind : (h n k : ℕ) (p : PointRef) (xs es : List Entry) → with_acts h n (xs ++ Entered k p ∷ es) ≡ xs ++ Entered k p ∷ with_acts h n es
acts_behind h zero k p xs es = refl
acts_behind h (suc n) k p xs es = ran_behind h (suc n) k p xs es

-- so many acts in the innermost call are as many at the end of the whole history
pub flat_acts : (h n : ℕ) (os : List Level) (es : List Entry) → flat_from h os (with_acts h n es) ≡ with_acts h n (flat_from h os es)
flat_acts h n [] es = refl
flat_acts h n (o ∷ os) es = ap (flat_from h os) (sym (acts_behind h n h o.point o.entries es)) ∙ flat_acts h n os (joined h o es)

-- while a call is open, what is put to it leaves the entries before the outermost
pub lowest_under : (os : List Level) (es fs : List Entry) → 0 < length os → lowest_from os es ≡ lowest_from os fs
lowest_under [] es fs some = absurd (omega (arith, some))
lowest_under (o ∷ os) es fs some = refl

abbrev outers_of : Nest → List Level
outers_of n = n.outers

-- and so do calls that close
pub lowest_closed : (h keep : ℕ) (os : List Level) (es : List Entry) → 0 < length (closing h keep os es).outers → lowest (closing h keep os es) ≡ lowest_from os es
lowest_closed h keep [] es some = refl
lowest_closed h keep (o ∷ []) es some = by (nat_lt 0 keep) some
  where
    here : Nest
    here = record { outers = o ∷ []; entries = es }

    out : Nest
    out = record { outers = []; entries = joined h o es }

    by : (b : Bool) → 0 < length (outers_of (if b then here else out)) → lowest (if b then here else out) ≡ o.entries
    by true left = refl
    by false left = absurd (omega (arith, left))
lowest_closed h keep (o ∷ (p ∷ ps)) es some = by (nat_lt (length (p ∷ ps)) keep) some (lowest_closed h keep (p ∷ ps) (joined h o es))
  where
    here : Nest
    here = record { outers = o ∷ (p ∷ ps); entries = es }

    further : Nest
    further = closing h keep (p ∷ ps) (joined h o es)

    by : (b : Bool) → 0 < length (outers_of (if b then here else further)) → (0 < length further.outers → lowest further ≡ lowest_from ps p.entries)
        → lowest (if b then here else further) ≡ lowest_from (p ∷ ps) o.entries
    by true left same = refl
    by false left same = same left
