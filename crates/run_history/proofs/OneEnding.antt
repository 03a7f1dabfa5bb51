-- A run ends once, with its last entry.
use Rattle.std.proofs.Common.{◌≡◌, ℕ, true, false, not, List, [], ◌∷◌, Some, None, is_none, refl, ap, sym, ◌∙◌, subst}
use Rattle.std.proofs.lemmas.Bool.{and_from}
use Rattle.guest_words.specs.declared.ending.Ending.{Ending}
use Rattle.guest_words.specs.declared.ending.Ending.TheVariants as ending
use Rattle.guest_words.specs.State.{State}
use Rattle.run_history.specs.declared.entry.Entry.{Entry, Ran, Entered, Called, Rescued', Ended}
use Rattle.run_history.specs.After.{after, state_after}
use Rattle.run_history.specs.Legal.{legal, is_ending, may_act}
use Rattle.run_history.specs.Run.{EndsOnce, has_no_end, is_ended, is_run}
use Rattle.run_history.proofs.Ands.{and_left, and_right}
use Rattle.run_history.proofs.Kept.{after_ending}

may_goes : (s : State) (h : ℕ) → may_act s h ≡ true → is_none s.ending ≡ true
may_goes s h is = and_left _ _ (and_left _ _ (and_left _ _ is))

ending_goes : (x : Ending) (s : State) → is_ending s x ≡ true → is_none s.ending ≡ true
ending_goes (ending.Exit h code) s is = may_goes s h (and_left _ _ is)
ending_goes (ending.Fault h fault) s is = may_goes s h (and_left _ _ is)
ending_goes ending.Stuck s is = and_left _ _ (and_left _ _ is)
ending_goes ending.Budget s is = and_left _ _ is

-- an entry is legal where only the run hasn't ended
pub legal_goes : (s : State) (e : Entry) → legal s e ≡ true → is_none s.ending ≡ true
unfolding legal
legal_goes s (Ran h n) is = may_goes s h (and_left _ _ (and_left _ _ is))
legal_goes s (Entered h p) is = may_goes s h (and_left _ _ is)
legal_goes s (Called h call) is = may_goes s h (and_left _ _ is)
legal_goes s (Rescued' h p f shape inside) is = may_goes s h (and_left _ _ (and_left _ _ is))
legal_goes s (Ended x) is = ending_goes x s is

-- behind an ending there is no entry
pub none_behind : (s : State) (es : List Entry) (x : Ending) → s.ending ≡ Some x → is_run s es ≡ true → es ≡ []
none_behind s [] x ended run = refl
none_behind s (e ∷ es) x ended run = let goes = sym (ap is_none ended) ∙ legal_goes s e (and_left _ _ run) in cc

ending-Ended : (s : State) (x : Ending) → (after s (Ended x)).ending ≡ Some x
unfolding after
ending-Ended s x = refl

once_more : (e : Entry) (es : List Entry) (x : Ending) → is_ended e ≡ false → EndsOnce es x → EndsOnce (e ∷ es) x
once_more e es x other rest =
    record {
      before = e ∷ rest.before;
      parts = ap (λ fs. e ∷ fs) rest.parts;
      none = and_from _ _ (ap not other) rest.none;
    }

last_once : (s : State) (y : Ending) (es : List Entry) (x : Ending) → is_run (after s (Ended y)) es ≡ true → (state_after (after s (Ended y)) es).ending ≡ Some x → EndsOnce (Ended y ∷ es) x
last_once s y es x run ended =
    let none : es ≡ [] = none_behind (after s (Ended y)) es y (ending-Ended s y) run in
    let at : Some y ≡ Some x = sym (ending-Ended s y) ∙ subst (λ (fs : List Entry). (state_after (after s (Ended y)) fs).ending ≡ Some x) none ended in
    let same : y ≡ x = cc in
    record {
      before = [];
      parts = ap (λ fs. Ended y ∷ fs) none ∙ ap (λ z. Ended z ∷ []) same;
      none = refl;
    }

-- a run that begins without an ending and reaches one ends with it, and it alone
pub one_ending : (s : State) (es : List Entry) (x : Ending) → is_run s es ≡ true → s.ending ≡ None → (state_after s es).ending ≡ Some x → EndsOnce es x
one_ending s [] x run fresh ended = cc
one_ending s (Ran h n ∷ es) x run fresh ended =
    let e = Ran h n in
    once_more e es x refl (one_ending (after s e) es x (and_right (legal s e) _ run) (after_ending s e refl ∙ fresh) ended)
one_ending s (Entered h p ∷ es) x run fresh ended =
    let e = Entered h p in
    once_more e es x refl (one_ending (after s e) es x (and_right (legal s e) _ run) (after_ending s e refl ∙ fresh) ended)
one_ending s (Called h call ∷ es) x run fresh ended =
    let e = Called h call in
    once_more e es x refl (one_ending (after s e) es x (and_right (legal s e) _ run) (after_ending s e refl ∙ fresh) ended)
one_ending s (Rescued' h p f shape inside ∷ es) x run fresh ended =
    let e = Rescued' h p f shape inside in
    once_more e es x refl (one_ending (after s e) es x (and_right (legal s e) _ run) (after_ending s e refl ∙ fresh) ended)
one_ending s (Ended y ∷ es) x run fresh ended = last_once s y es x (and_right (legal s (Ended y)) _ run) ended

last_none : (s : State) (y : Ending) (es : List Entry) → is_run (after s (Ended y)) es ≡ true → (state_after (after s (Ended y)) es).ending ≡ None → has_no_end (Ended y ∷ es) ≡ true
last_none s y es run going =
    let none : es ≡ [] = none_behind (after s (Ended y)) es y (ending-Ended s y) run in
    let at : Some y ≡ None = sym (ending-Ended s y) ∙ subst (λ (fs : List Entry). (state_after (after s (Ended y)) fs).ending ≡ None) none going in
    cc

-- a run that hasn't ended has no ending among its entries
pub no_ending : (s : State) (es : List Entry) → is_run s es ≡ true → (state_after s es).ending ≡ None → has_no_end es ≡ true
no_ending s [] run going = refl
no_ending s (Ran h n ∷ es) run going = no_ending (after s (Ran h n)) es (and_right (legal s (Ran h n)) _ run) going
no_ending s (Entered h p ∷ es) run going = no_ending (after s (Entered h p)) es (and_right (legal s (Entered h p)) _ run) going
no_ending s (Called h call ∷ es) run going = no_ending (after s (Called h call)) es (and_right (legal s (Called h call)) _ run) going
no_ending s (Rescued' h p f shape inside ∷ es) run going =
    no_ending (after s (Rescued' h p f shape inside)) es (and_right (legal s (Rescued' h p f shape inside)) _ run) going
no_ending s (Ended y ∷ es) run going = last_none s y es (and_right (legal s (Ended y)) _ run) going
