-- Histories with more entries behind.
use Rattle.std.proofs.Common.{◌≡◌, ℕ, ◌<◌, true, ◌&&◌, nat_lt, List, [], ◌∷◌, ◌++◌, refl, ap, ◌∙◌}
use Rattle.std.proofs.lemmas.Bool.{and_from, lt-ltb}
use Rattle.guest_words.specs.State.{State, frames_at}
use Rattle.run_history.specs.declared.entry.Entry.{Entry}
use Rattle.run_history.specs.After.{after, state_after}
use Rattle.run_history.specs.Legal.{is_of, legal, legal_inside}
use Rattle.run_history.specs.Run.{is_run}
use Rattle.run_history.proofs.Ands.{and_joined, and_left, and_right}

-- the state after two lists is that after the second, from that after the first
pub state_after-append : (s : State) (es fs : List Entry) → state_after s (es ++ fs) ≡ state_after (state_after s es) fs
state_after-append s [] fs = refl
state_after-append s (e ∷ es) fs = state_after-append (after s e) es fs

pub state_after-push : (s : State) (es : List Entry) (e : Entry) → state_after s (es ++ e ∷ []) ≡ after (state_after s es) e
state_after-push s es e = state_after-append s es (e ∷ [])

-- two lists are a run where each is one from where it begins
pub is_run-append : (s : State) (es fs : List Entry) → is_run s (es ++ fs) ≡ (is_run s es && is_run (state_after s es) fs)
is_run-append s [] fs = refl
is_run-append s (e ∷ es) fs = ap (λ b. legal s e && b) (is_run-append (after s e) es fs) ∙ and_joined (legal s e) (is_run (after s e) es) (is_run (state_after (after s e) es) fs)

pub is_run-join : (s : State) (es fs : List Entry) → is_run s es ≡ true → is_run (state_after s es) fs ≡ true → is_run s (es ++ fs) ≡ true
is_run-join s es fs first second = is_run-append s es fs ∙ and_from _ _ first second

pub is_run-push : (s : State) (es : List Entry) (e : Entry) → is_run s es ≡ true → legal (state_after s es) e ≡ true → is_run s (es ++ e ∷ []) ≡ true
is_run-push s es e run is = is_run-join s es (e ∷ []) run (and_from _ true is refl)

-- the same of the inside of a call
pub legal_inside-append : (s : State) (h d : ℕ) (es fs : List Entry) → legal_inside s h d (es ++ fs) ≡ (legal_inside s h d es && legal_inside (state_after s es) h d fs)
legal_inside-append s h d [] fs = refl
legal_inside-append s h d (e ∷ es) fs =
    let here = is_of h e && legal s e && nat_lt d (frames_at (after s e) h) in
    ap (λ b. here && b) (legal_inside-append (after s e) h d es fs) ∙ and_joined here (legal_inside (after s e) h d es) (legal_inside (state_after (after s e) es) h d fs)

pub legal_inside-join : (s : State) (h d : ℕ) (es fs : List Entry) → legal_inside s h d es ≡ true → legal_inside (state_after s es) h d fs ≡ true → legal_inside s h d (es ++ fs) ≡ true
legal_inside-join s h d es fs first second = legal_inside-append s h d es fs ∙ and_from _ _ first second

pub legal_inside-push : (s : State) (h d : ℕ) (es : List Entry) (e : Entry) → legal_inside s h d es ≡ true → is_of h e ≡ true → legal (state_after s es) e ≡ true
    → d < frames_at (after (state_after s es) e) h → legal_inside s h d (es ++ e ∷ []) ≡ true
legal_inside-push s h d es e so_far of_hart is above =
    legal_inside-join s h d es (e ∷ []) so_far (and_from _ true (and_from _ _ (and_from _ _ of_hart is) (lt-ltb d _ above)) refl)

-- the inside of a call is a run from where the call begins
pub legal_inside-runs : (s : State) (h d : ℕ) (es : List Entry) → legal_inside s h d es ≡ true → is_run s es ≡ true
legal_inside-runs s h d [] is = refl
legal_inside-runs s h d (e ∷ es) is =
    and_from _ _ (and_right (is_of h e) _ (and_left _ _ (and_left _ _ is))) (legal_inside-runs (after s e) h d es (and_right (is_of h e && legal s e && nat_lt d (frames_at (after s e) h)) _ is))
