-- The inside of a call within that of another: what enters it, and its own inside.
use Rattle.std.proofs.Common.{◌≡◌, ℕ, ◌+◌, ◌<◌, ◌≤◌, true, ◌&&◌, nat_lt, List, [], ◌∷◌, refl, ap, ◌∙◌, arith, eq-eqb}
use Rattle.std.proofs.lemmas.Bool.{and_from, lt-ltb}
use Rattle.std.proofs.lemmas.Bool.Decides.{nat_tests}
use Rattle.guest_words.specs.declared.point.PointRef.{PointRef}
use Rattle.guest_words.specs.State.{State, enter, frames_at}
use Rattle.run_history.specs.declared.entry.Entry.{Entry, Entered}
use Rattle.run_history.specs.After.{after}
use Rattle.run_history.specs.Legal.{is_of, legal, legal_inside}
use Rattle.run_history.proofs.Ands.{and_left, and_right}
use Rattle.run_history.proofs.EnteredFrames.{frames_entered_ready}
use Rattle.run_history.proofs.Entries.{after-Entered, legal-Entered-may, may-ready}

-- a legal entering opens a frame
pub frames-Entered : (s : State) (h : ℕ) (p : PointRef) → legal s (Entered h p) ≡ true → frames_at (enter s h p) h ≡ frames_at s h + 1
frames-Entered s h p is = frames_entered_ready s h p (may-ready s h (legal-Entered-may s h p is))

below : (m n : ℕ) → nat_lt m n ≡ true → m < n
below m n is = grind (arith, nat_tests, is)

-- the inside of a call is one for fewer frames too
pub legal_inside-fewer : (s : State) (h d c : ℕ) (es : List Entry) → c ≤ d → legal_inside s h d es ≡ true → legal_inside s h c es ≡ true
legal_inside-fewer s h d c [] few is = refl
legal_inside-fewer s h d c (e ∷ es) few is =
    let here = and_left (is_of h e && legal s e && nat_lt d (frames_at (after s e) h)) _ is in
    let over = below d (frames_at (after s e) h) (and_right (is_of h e && legal s e) _ here) in
    and_from _ _ (and_from _ _ (and_left (is_of h e && legal s e) _ here) (lt-ltb c (frames_at (after s e) h) (omega (arith, few, over))))
    (legal_inside-fewer (after s e) h d c es few (and_right (is_of h e && legal s e && nat_lt d (frames_at (after s e) h)) _ is))

-- a call in the inside of another
pub legal_inside-entered : (s : State) (h d : ℕ) (p : PointRef) (es : List Entry) → d ≤ frames_at s h → legal s (Entered h p) ≡ true
    → legal_inside (enter s h p) h (frames_at s h) es ≡ true → legal_inside s h d (Entered h p ∷ es) ≡ true
legal_inside-entered s h d p es few is inside =
    let to = after-Entered s h p in
    let one = frames-Entered s h p is in
    let same = ap (λ (t : State). frames_at t h) to in
    and_from _ _ (and_from _ _ (and_from _ _ (eq-eqb h h refl) is) (lt-ltb d (frames_at (after s (Entered h p)) h) (omega (arith, few, one, same))))
    (ap (λ t. legal_inside t h d es) to ∙ legal_inside-fewer (enter s h p) h (frames_at s h) d es few inside)
