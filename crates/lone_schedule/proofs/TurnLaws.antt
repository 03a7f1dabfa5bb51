-- Turns, one more at the end, and what makes one.
use Rattle.std.proofs.Common.{◌≡◌, ℕ, ◌+◌, ◌<◌, Bool, true, false, not, ◌&&◌, ◌||◌, ◌==◌, nat_le, if◌then◌else◌, List, [], ◌∷◌, ◌++◌, length, Some, refl, ap, sym, ◌∙◌, arith, eq-eqb}
use Rattle.std.proofs.lemmas.Bool.{and_from}
use Rattle.std.proofs.lemmas.Bool.Decides.{nat_tests}
use Rattle.std.proofs.lemmas.List.{append_assoc, append-nil}
use Rattle.guest_words.specs.State.{State}
use Rattle.run_history.specs.declared.entry.Entry.{Entry, Ran, Ended}
use Rattle.run_history.specs.After.{ran, state_after}
use Rattle.run_history.proofs.Ands.{and_left, and_right}
use Rattle.run_history.proofs.Appends.{state_after-append}
use Rattle.lone_schedule.specs.Choice.{chosen}
use Rattle.lone_schedule.specs.Lone.{are_turns, joined}
use Rattle.lone_schedule.specs.Rows.{can_join, is_row}
use Rattle.lone_schedule.specs.Turns.{is_due, is_greatest, is_last, is_over, is_turn, is_turn_of}
use Rattle.seed_words.specs.Words.{word}

pub joined-push : (ts : List (List Entry)) (t : List Entry) → joined (ts ++ t ∷ []) ≡ joined ts ++ t
joined-push [] t = append-nil t
joined-push (u ∷ ts) t = ap (λ es. u ++ es) (joined-push ts t) ∙ sym (append_assoc u (joined ts) t)

-- a turn more, behind turns that are over
pub turns-push : (s : State) (seed drawn : ℕ) (ts : List (List Entry)) (t : List Entry) → are_turns s seed drawn ts ≡ true
    → is_over (state_after s (joined ts)) ≡ true → is_turn (state_after s (joined ts)) (word seed (drawn + length ts)) t ≡ true
    → are_turns s seed drawn (ts ++ t ∷ []) ≡ true
unfolding are_turns
turns-push s seed drawn [] t are over is =
    let none : drawn + 0 ≡ drawn = omega arith in
    and_from _ true (and_from _ true (sym (ap (λ n. is_turn s (word seed n) t) none) ∙ is) refl) refl
turns-push s seed drawn (u ∷ []) t are over is =
    let more : drawn + 1 ≡ drawn + 1 + 0 = omega arith in
    let here : joined (u ∷ []) ≡ u = append-nil u in
    let mid = state_after s u in
    let over_u : is_over mid ≡ true = ap (λ es. is_over (state_after s es)) (sym here) ∙ over in
    let first : is_turn s (word seed drawn) u ≡ true = and_left _ _ (and_left _ _ are) in
    let next : is_turn mid (word seed (drawn + 1)) t ≡ true = ap (λ es. is_turn (state_after s es) (word seed (drawn + 1)) t) (sym here) ∙ is in
    and_from _ _ (and_from _ _ first over_u) (and_from _ true (and_from _ true next refl) refl)
turns-push s seed drawn (u ∷ (v ∷ ts)) t are over is =
    let mid = state_after s u in
    let same : state_after s (joined (u ∷ (v ∷ ts))) ≡ state_after mid (joined (v ∷ ts)) = state_after-append s u (joined (v ∷ ts)) in
    let count : drawn + 1 + length (v ∷ ts) ≡ drawn + length (u ∷ (v ∷ ts)) = omega arith in
    and_from _ _ (and_left _ _ are)
    (turns-push mid seed (drawn + 1) (v ∷ ts) t (and_right (is_turn s (word seed drawn) u && (false || is_over mid)) _ are)
    (ap is_over (sym same) ∙ over)
    (ap (λ n. is_turn (state_after mid (joined (v ∷ ts))) (word seed n) t) count
    ∙ ap (λ (x : State). is_turn x (word seed (drawn + length (u ∷ (v ∷ ts)))) t) (sym same) ∙ is))

-- kinds of turn

pub turn-due : (s : State) (w : ℕ) (x : _) → is_due s ≡ true → is_turn s w (Ended x ∷ []) ≡ true
turn-due s w x due = ap (λ b. if b then true else is_turn_of s (chosen s w) (Ended x) []) due

pub turn-of : (s : State) (w h : ℕ) (e : Entry) (es : List Entry) → is_due s ≡ false → chosen s w ≡ Some h → is_turn_of s (Some h) e es ≡ true
    → is_turn s w (e ∷ es) ≡ true
turn-of s w h e es due is turn =
    ap (λ b. if b then is_last e es else is_turn_of s (chosen s w) e es) due ∙ ap (λ o. is_turn_of s o e es) is ∙ turn

pub greatest : (s : State) (h n : ℕ) → n < 65 → is_row s h n ≡ true → (n < 64 → can_join (ran s h n) h ≡ false) → is_greatest s h n ≡ true
greatest s h n within row stops =
    let few : nat_le n 64 ≡ true = grind (arith, nat_tests, within) in
    and_from _ _ (and_from _ _ few row) (by (n == 64) refl)
  where
    by : (b : Bool) → (n == 64) ≡ b → ((n == 64) || not (can_join (ran s h n) h)) ≡ true
    by true is = ap (λ b. b || not (can_join (ran s h n) h)) is
    by false is =
        let less : n < 64 = grind (arith, nat_tests, is, within) in
        ap (λ b. b || not (can_join (ran s h n) h)) is ∙ ap not (stops less)

pub ran-begins : (s : State) (h n : ℕ) → is_greatest s h n ≡ true → is_turn_of s (Some h) (Ran h n) [] ≡ true
ran-begins s h n most = and_from _ true (and_from _ _ (eq-eqb h h refl) most) refl
