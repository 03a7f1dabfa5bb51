-- A Ran with so many acts more, alone and as the last entry of a run.
use Rattle.std.proofs.Common.{◌≡◌, ℕ, ◌+◌, ◌<◌, ◌^◌, true, ◌&&◌, ◌==◌, nat_lt, List, [], ◌∷◌, refl, ap, sym, ◌∙◌, subst, arith}
use Rattle.std.proofs.lemmas.Bool.{and_from, eqb-true, lt-ltb}
use Rattle.std.proofs.lemmas.Bool.Decides.{nat_tests}
use Rattle.guest_words.specs.State.{State, frames_at}
use Rattle.run_history.specs.declared.entry.Entry.{Entry, Ran, Entered, Called, Rescued', Ended}
use Rattle.run_history.specs.After.{after, ran, state_after}
use Rattle.run_history.specs.LastEntry.{can_lengthen_by, ends_in_ran_of, lengthened_by, longer_by}
use Rattle.run_history.specs.Legal.{can_run, is_of, legal, legal_inside, may_act}
use Rattle.run_history.specs.Run.{is_run}
use Rattle.run_history.proofs.Ands.{and_left, and_right}
use Rattle.run_history.proofs.RunSteps.{can_run-both, ran-both}

pub after-Ran_more : (s : State) (h count n : ℕ) → after s (Ran h (count + n)) ≡ ran (after s (Ran h count)) h n
unfolding after
after-Ran_more s h count n = ran-both s h count n

pub legal-Ran_more : (s : State) (h count n : ℕ) → legal s (Ran h count) ≡ true → can_run (after s (Ran h count)) h n ≡ true → legal s (Ran h (count + n)) ≡ true
unfolding legal after
legal-Ran_more s h count n is goes =
    let first : nat_lt 0 count ≡ true = and_right (may_act s h) _ (and_left _ _ is) in
    let some : nat_lt 0 (count + n) ≡ true = grind (arith, nat_tests, first) in
    and_from _ _ (and_from _ _ (and_left _ _ (and_left _ _ is)) some) (can_run-both s h count n (and_right (may_act s h && nat_lt 0 count) _ is) goes)

-- what holds of an entry that is made longer, where the hart can go on so far behind it
record Grown (s : State) (h n : ℕ) (e : Entry) : Type 0 where
  own : is_of h (longer_by n e) ≡ true
  may : legal s (longer_by n e) ≡ true
  after : after s (longer_by n e) ≡ ran (after s e) h n

entry_grown : (s : State) (h n : ℕ) (e : Entry) → can_lengthen_by h n e ≡ true → legal s e ≡ true → can_run (after s e) h n ≡ true → Grown s h n e
entry_grown s h n (Ran k count) can may goes =
    let same : (k == h) ≡ true = and_left (k == h) (nat_lt (count + n) (2 ^ 32)) can in
    let at : k ≡ h = eqb-true k h same in
    let goes_k : can_run (after s (Ran k count)) k n ≡ true = subst (λ (i : ℕ). can_run (after s (Ran k count)) i n ≡ true) (sym at) goes in
    record {
      own = same;
      may = legal-Ran_more s k count n may goes_k;
      after = after-Ran_more s k count n ∙ ap (λ i. ran (after s (Ran k count)) i n) at;
    }
entry_grown s h n (Entered k p) can may goes = cc
entry_grown s h n (Called k call) can may goes = cc
entry_grown s h n (Rescued' k p f shape inside) can may goes = cc
entry_grown s h n (Ended x) can may goes = cc

-- the state after the entries with the last one longer is so many acts on
pub state_after-lengthened : (s : State) (h n : ℕ) (es : List Entry) → ends_in_ran_of h n es ≡ true → is_run s es ≡ true → can_run (state_after s es) h n ≡ true
    → state_after s (lengthened_by n es) ≡ ran (state_after s es) h n
state_after-lengthened s h n [] ends is goes = cc
state_after-lengthened s h n (e ∷ []) ends is goes = (entry_grown s h n e ends (and_left (legal s e) _ is) goes).after
state_after-lengthened s h n (e ∷ (f ∷ rest)) ends is goes = state_after-lengthened (after s e) h n (f ∷ rest) ends (and_right (legal s e) _ is) goes

-- the entries with the last one longer are a run
pub is_run-lengthened : (s : State) (h n : ℕ) (es : List Entry) → ends_in_ran_of h n es ≡ true → is_run s es ≡ true → can_run (state_after s es) h n ≡ true → is_run s (lengthened_by n es) ≡ true
is_run-lengthened s h n [] ends is goes = cc
is_run-lengthened s h n (e ∷ []) ends is goes = and_from _ true (entry_grown s h n e ends (and_left (legal s e) _ is) goes).may refl
is_run-lengthened s h n (e ∷ (f ∷ rest)) ends is goes =
    and_from _ _ (and_left (legal s e) _ is) (is_run-lengthened (after s e) h n (f ∷ rest) ends (and_right (legal s e) _ is) goes)

-- they are the inside of a call where its frame is still open
pub legal_inside-lengthened : (s : State) (h d n : ℕ) (es : List Entry) → ends_in_ran_of h n es ≡ true → legal_inside s h d es ≡ true → can_run (state_after s es) h n ≡ true
    → d < frames_at (ran (state_after s es) h n) h → legal_inside s h d (lengthened_by n es) ≡ true
legal_inside-lengthened s h d n [] ends is goes above = cc
legal_inside-lengthened s h d n (e ∷ []) ends is goes above =
    let may = and_right (is_of h e) _ (and_left _ _ (and_left _ _ is)) in
    let grown = entry_grown s h n e ends may goes in
    let less : d < frames_at (after s (longer_by n e)) h = subst (λ (t : State). d < frames_at t h) (sym grown.after) above in
    and_from _ true (and_from _ _ (and_from _ _ grown.own grown.may) (lt-ltb d _ less)) refl
legal_inside-lengthened s h d n (e ∷ (f ∷ rest)) ends is goes above =
    and_from _ _ (and_left _ _ is)
    (legal_inside-lengthened (after s e) h d n (f ∷ rest) ends (and_right (is_of h e && legal s e && nat_lt d (frames_at (after s e) h)) _ is) goes above)
