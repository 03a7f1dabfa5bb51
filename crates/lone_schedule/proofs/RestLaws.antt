-- The rest of a turn: with acts or an entry more at the end, and cut in two.
use Rattle.std.proofs.Common.{◌≡◌, ℕ, zero, suc, ◌+◌, ◌^◌, ◌<◌, Bool, true, false, not, ◌&&◌, ◌==◌, nat_lt, if◌then◌else◌, List, [], ◌∷◌, ◌++◌, refl, ap, sym, ◌∙◌, subst, arith, eq-eqb}
use Rattle.std.proofs.lemmas.Bool.{and_from, eqb-true, lt-ltb}
use Rattle.guest_words.specs.State.{State, frames_at}
use Rattle.run_history.specs.declared.entry.Entry.{Entry, Ran, Entered, Called, Rescued', Ended}
use Rattle.run_history.specs.After.{next, ran, after, state_after}
use Rattle.run_history.specs.Counts.{steps_of, steps_of_all}
use Rattle.run_history.specs.LastEntry.{ends_in_ran_of, lengthened_by, with_ran}
use Rattle.run_history.proofs.Ands.{and_left, and_right}
use Rattle.run_history.proofs.Entries.{after-Ran}
use Rattle.run_history.proofs.Longer.{after-Ran_more}
use Rattle.lone_schedule.specs.Insides.{is_ran, is_apart, are_apart}
use Rattle.lone_schedule.specs.Turns.{follows, goes_on, is_over, stays_open}

-- acts that begin with a frame open

pub stays-shown : (s : State) (h n : ℕ) → ((i : ℕ) → i < n → 0 < frames_at (ran s h i) h) → stays_open s h n ≡ true
unfolding stays_open ran
stays-shown s h zero each = refl
stays-shown s h (suc n) each =
    and_from _ _ (lt-ltb 0 (frames_at s h) (each 0 (omega arith))) (stays-shown (next s h) h n (λ i less. each (suc i) (omega (arith, less))))

stays-both : (s : State) (h n m : ℕ) → stays_open s h n ≡ true → stays_open (ran s h n) h m ≡ true → stays_open s h (n + m) ≡ true
unfolding stays_open ran
stays-both s h zero m so_far more = let none : 0 + m ≡ m = omega arith in ap (stays_open s h) none ∙ more
stays-both s h (suc n) m so_far more =
    let first : suc n + m ≡ suc (n + m) = omega arith in
    ap (stays_open s h) first
    ∙ and_from _ _ (and_left _ _ so_far) (stays-both (next s h) h n m (and_right (nat_lt 0 (frames_at s h)) _ so_far) more)

-- what so many acts more make of the entries

pub record Acted (s : State) (h n : ℕ) (ran_before : Bool) (es fs : List Entry) : Type 0 where
  pub goes : goes_on s h ran_before fs ≡ true
  pub reaches : state_after s fs ≡ ran (state_after s es) h n

first_acts : (s : State) (h n : ℕ) (ran_before : Bool) → ran_before ≡ false → is_over s ≡ false → stays_open s h n ≡ true → Acted s h n ran_before [] (Ran h n ∷ [])
first_acts s h n ran_before none going stays =
    record {
      goes = and_from _ true (and_from _ _ (and_from _ _ (ap not going) (ap (λ b. not (b && true)) none)) (and_from _ _ (eq-eqb h h refl) stays)) refl;
      reaches = after-Ran s h n;
    }

-- behind an entry that is no Ran
next_acts : (s : State) (h n : ℕ) (ran_before : Bool) (e : Entry) → is_ran e ≡ false → goes_on s h ran_before (e ∷ []) ≡ true → is_over (after s e) ≡ false
    → stays_open (after s e) h n ≡ true → Acted s h n ran_before (e ∷ []) (e ∷ (Ran h n ∷ []))
next_acts s h n ran_before e other so_far going stays =
    let last = first_acts (after s e) h n (is_ran e) other going stays in
    record { goes = and_from _ _ (and_left _ _ so_far) last.goes; reaches = last.reaches }

longer_acts : (s : State) (h n : ℕ) (ran_before : Bool) (c : ℕ) → goes_on s h ran_before (Ran h c ∷ []) ≡ true → stays_open (after s (Ran h c)) h n ≡ true
    → Acted s h n ran_before (Ran h c ∷ []) (Ran h (c + n) ∷ [])
longer_acts s h n ran_before c so_far stays =
    let here = and_left _ _ so_far in
    let before = and_left _ _ here in
    let fits : follows s h (Ran h c) ≡ true = and_right (not (is_over s) && not (ran_before && true)) _ here in
    let first : stays_open s h c ≡ true = and_right (h == h) _ fits in
    record {
      goes = and_from _ true (and_from _ _ before (and_from _ _ (eq-eqb h h refl) (stays-both s h c n first (ap (λ t. stays_open t h n) (sym (after-Ran s h c)) ∙ stays)))) refl;
      reaches = after-Ran_more s h c n;
    }

of_hart : (s : State) (h : ℕ) (ran_before : Bool) (k c : ℕ) → goes_on s h ran_before (Ran k c ∷ []) ≡ true → k ≡ h
of_hart s h ran_before k c so_far =
    eqb-true k h (and_left _ _ (and_right (not (is_over s) && not (ran_before && true)) _ (and_left _ _ so_far)))

ran_choice : (h n : ℕ) (b : Bool) (e : Entry) (rest : List Entry)
    → (if b then e ∷ lengthened_by n rest else (e ∷ rest) ++ Ran h n ∷ []) ≡ e ∷ (if b then lengthened_by n rest else rest ++ Ran h n ∷ [])
ran_choice h n true e rest = refl
ran_choice h n false e rest = refl

-- an entry before others stays where a Ran goes behind them
pub with_ran-behind : (h n : ℕ) (e f : Entry) (rest : List Entry) → with_ran h n (e ∷ (f ∷ rest)) ≡ e ∷ with_ran h n (f ∷ rest)
with_ran-behind h n e f rest = ran_choice h n (ends_in_ran_of h n (f ∷ rest)) e (f ∷ rest)

pub with_ran-append : (h n : ℕ) (before : List Entry) (f : Entry) (rest : List Entry) → with_ran h n (before ++ f ∷ rest) ≡ before ++ with_ran h n (f ∷ rest)
with_ran-append h n [] f rest = refl
with_ran-append h n (e ∷ []) f rest = with_ran-behind h n e f rest
with_ran-append h n (e ∷ (g ∷ before)) f rest = with_ran-behind h n e g (before ++ f ∷ rest) ∙ ap (λ es. e ∷ es) (with_ran-append h n (g ∷ before) f rest)

-- and so behind one that is no Ran
pub with_ran-entered : (h n k : ℕ) (p : _) (rest : List Entry) → with_ran h n (Entered k p ∷ rest) ≡ Entered k p ∷ with_ran h n rest
with_ran-entered h n k p [] = refl
with_ran-entered h n k p (f ∷ rest) = with_ran-behind h n (Entered k p) f rest

can : (h c n : ℕ) → c + n < 2 ^ 32 → ((h == h) && nat_lt (c + n) (2 ^ 32)) ≡ true
can h c n few = and_from _ _ (eq-eqb h h refl) (lt-ltb (c + n) (2 ^ 32) few)

one_step : (h c : ℕ) → steps_of_all (Ran h c ∷ []) ≡ c
unfolding steps_of
one_step h c = omega arith

-- so many acts more: the entries so far tell fewer acts than a count can hold
pub acts_more : (s : State) (h n : ℕ) (ran_before : Bool) (es : List Entry) → (es ≡ [] → ran_before ≡ false) → goes_on s h ran_before es ≡ true
    → is_over (state_after s es) ≡ false → stays_open (state_after s es) h n ≡ true → steps_of_all es + n < 2 ^ 32 → Acted s h n ran_before es (with_ran h n es)
acts_more s h n ran_before [] none so_far going stays few = first_acts s h n ran_before (none refl) going stays
acts_more s h n ran_before (Ran k c ∷ []) none so_far going stays few =
    subst (λ (j : ℕ). Acted s h n ran_before (Ran j c ∷ []) (with_ran h n (Ran j c ∷ []))) (sym at)
    (subst (Acted s h n ran_before (Ran h c ∷ [])) (sym (ap (λ b. if b then Ran h (c + n) ∷ [] else Ran h c ∷ (Ran h n ∷ [])) (can h c n less)))
    (longer_acts s h n ran_before c (subst (λ (j : ℕ). goes_on s h ran_before (Ran j c ∷ []) ≡ true) at so_far) (subst (λ (j : ℕ). stays_open (after s (Ran j c)) h n ≡ true) at stays)))
  where
    at : k ≡ h
    at = of_hart s h ran_before k c so_far

    less : c + n < 2 ^ 32
    less = let one = one_step k c in subst (λ m. m + n < 2 ^ 32) one few
acts_more s h n ran_before (Entered k p ∷ []) none so_far going stays few = next_acts s h n ran_before (Entered k p) refl so_far going stays
acts_more s h n ran_before (Called k r ∷ []) none so_far going stays few = next_acts s h n ran_before (Called k r) refl so_far going stays
acts_more s h n ran_before (Rescued' k p f shape row ∷ []) none so_far going stays few = next_acts s h n ran_before (Rescued' k p f shape row) refl so_far going stays
acts_more s h n ran_before (Ended x ∷ []) none so_far going stays few = next_acts s h n ran_before (Ended x) refl so_far going stays
acts_more s h n ran_before (e ∷ (f ∷ rest)) none so_far going stays few =
    let t = after s e in
    let later = acts_more t h n (is_ran e) (f ∷ rest) (λ is. absurd (cc is))
    (and_right (not (is_over s) && not (ran_before && is_ran e) && follows s h e) _ so_far) going stays (omega (arith, few)) in
    subst (Acted s h n ran_before (e ∷ (f ∷ rest))) (sym (with_ran-behind h n e f rest))
    (record { goes = and_from _ _ (and_left _ _ so_far) later.goes; reaches = later.reaches })

-- one entry more that is no Ran
pub rest_push : (s : State) (h : ℕ) (ran_before : Bool) (es : List Entry) (e : Entry) → goes_on s h ran_before es ≡ true → is_over (state_after s es) ≡ false
    → is_ran e ≡ false → follows (state_after s es) h e ≡ true → goes_on s h ran_before (es ++ e ∷ []) ≡ true
rest_push s h ran_before [] e so_far going other is =
    and_from _ true (and_from _ _ (and_from _ _ (ap not going) (ap (λ b. not (ran_before && b)) other ∙ by ran_before)) is) refl
  where
    by : (b : Bool) → not (b && false) ≡ true
    by true = refl
    by false = refl
rest_push s h ran_before (f ∷ es) e so_far going other is =
    and_from _ _ (and_left _ _ so_far)
    (rest_push (after s f) h (is_ran f) es e (and_right (not (is_over s) && not (ran_before && is_ran f) && follows s h f) _ so_far) going other is)

-- the rest of a turn, cut at one of its entries

pub record Cut (s : State) (h : ℕ) (ran_before : Bool) (xs : List Entry) (e : Entry) (ys : List Entry) : Type 0 where
  pub front : goes_on s h ran_before xs ≡ true
  pub going : is_over (state_after s xs) ≡ false
  pub behind : goes_on (after (state_after s xs) e) h (is_ran e) ys ≡ true

not-is : (b : Bool) → not b ≡ true → b ≡ false
not-is true is = cc
not-is false is = refl

pub rest_cut : (s : State) (h : ℕ) (ran_before : Bool) (xs : List Entry) (e : Entry) (ys : List Entry) → goes_on s h ran_before (xs ++ e ∷ ys) ≡ true → Cut s h ran_before xs e ys
rest_cut s h ran_before [] e ys is = record {
  front = refl;
  going = not-is (is_over s) (and_left _ _ (and_left _ _ (and_left _ _ is)));
  behind = and_right (not (is_over s) && not (ran_before && is_ran e) && follows s h e) _ is;
}
rest_cut s h ran_before (x ∷ xs) e ys is =
    let later = rest_cut (after s x) h (is_ran x) xs e ys (and_right (not (is_over s) && not (ran_before && is_ran x) && follows s h x) _ is) in
    record { front = and_from _ _ (and_left _ _ is) later.front; going = later.going; behind = later.behind }

-- its Rans stand apart
follows-apart : (s : State) (h : ℕ) (e : Entry) → follows s h e ≡ true → is_apart e ≡ true
unfolding is_apart
follows-apart s h (Ran k n) is = refl
follows-apart s h (Entered k p) is = refl
follows-apart s h (Called k r) is = refl
follows-apart s h (Rescued' k p f shape row) is = and_right (k == h) _ is
follows-apart s h (Ended x) is = refl

pub rest_apart : (s : State) (h : ℕ) (ran_before : Bool) (es : List Entry) → goes_on s h ran_before es ≡ true → are_apart ran_before es ≡ true
rest_apart s h ran_before [] is = refl
rest_apart s h ran_before (e ∷ es) is =
    let here = and_left _ _ is in
    let apart : not (ran_before && is_ran e) ≡ true = and_right (not (is_over s)) _ (and_left _ _ here) in
    let fits = and_right (not (is_over s) && not (ran_before && is_ran e)) _ here in
    and_from _ _ (and_from _ _ apart (follows-apart s h e fits))
    (rest_apart (after s e) h (is_ran e) es (and_right (not (is_over s) && not (ran_before && is_ran e) && follows s h e) _ is))
