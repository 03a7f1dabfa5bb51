-- Tests of the harts, or of the frames, of slots.
use Rattle.std.proofs.Common.{◌≡◌, ℕ, ◌+◌, Bool, ◌||◌, ◌&&◌, List, [], ◌∷◌, length, map, take, drop, refl, ap, sym, ◌∙◌, Some, cond}
use Rattle.std.specs.List.{list_any, list_all, position_from}
use Rattle.std.proofs.lemmas.List.{take-map, drop-map}
use Rattle.std.proofs.lemmas.List.Folds.{list_all-map}
use Rattle.guest_words.specs.declared.hart.Frame.{Frame}
use Rattle.guest_words.specs.declared.hart.Hart.{Hart}
use Rattle.guest_words.specs.declared.hart.Slot.{Slot}
use Rattle.guest_words.specs.CallChanges.{any_other, each_other}
use Rattle.hart_slots.specs.Rejoined.{hart_of, joined}
use Rattle.hart_slots.proofs.Joins.{map-hart_of-joined, map-frames-joined}

list_any-map : (test : Hart → Bool) (slots : List Slot) → list_any test (map hart_of slots) ≡ list_any (λ slot. test slot.hart) slots
list_any-map test [] = refl
list_any-map test (slot ∷ slots) = ap (λ b. test slot.hart || b) (list_any-map test slots)

position-map : (test : Hart → Bool) (n : ℕ) (slots : List Slot) → position_from test n (map hart_of slots) ≡ position_from (λ slot. test slot.hart) n slots
position-map test n [] = refl
position-map test n (slot ∷ slots) = ap (cond (test slot.hart) (Some n)) (position-map test (n + 1) slots)

pub any-joined : (test : Hart → Bool) (hs : List Hart) (fs : List (List Frame)) → length hs ≡ length fs → list_any test hs ≡ list_any (λ slot. test slot.hart) (joined hs fs)
any-joined test hs fs same = ap (list_any test) (sym (map-hart_of-joined hs fs same)) ∙ list_any-map test (joined hs fs)

any-take : (test : Hart → Bool) (n : ℕ) (hs : List Hart) (fs : List (List Frame)) → length hs ≡ length fs
    → list_any test (take n hs) ≡ list_any (λ slot. test slot.hart) (take n (joined hs fs))
any-take test n hs fs same =
    ap (λ xs. list_any test (take n xs)) (sym (map-hart_of-joined hs fs same))
    ∙ ap (list_any test) (take-map hart_of n (joined hs fs)) ∙ list_any-map test (take n (joined hs fs))

any-drop : (test : Hart → Bool) (n : ℕ) (hs : List Hart) (fs : List (List Frame)) → length hs ≡ length fs
    → list_any test (drop n hs) ≡ list_any (λ slot. test slot.hart) (drop n (joined hs fs))
any-drop test n hs fs same =
    ap (λ xs. list_any test (drop n xs)) (sym (map-hart_of-joined hs fs same))
    ∙ ap (list_any test) (drop-map hart_of n (joined hs fs)) ∙ list_any-map test (drop n (joined hs fs))

pub position-drop : (test : Hart → Bool) (n : ℕ) (hs : List Hart) (fs : List (List Frame)) → length hs ≡ length fs
    → position_from test n (drop n hs) ≡ position_from (λ slot. test slot.hart) n (drop n (joined hs fs))
position-drop test n hs fs same =
    ap (λ xs. position_from test n (drop n xs)) (sym (map-hart_of-joined hs fs same))
    ∙ ap (position_from test n) (drop-map hart_of n (joined hs fs)) ∙ position-map test n (drop n (joined hs fs))

all-take : (test : List Frame → Bool) (n : ℕ) (hs : List Hart) (fs : List (List Frame)) → length hs ≡ length fs
    → list_all test (take n fs) ≡ list_all (λ slot. test slot.frames) (take n (joined hs fs))
all-take test n hs fs same =
    ap (λ xs. list_all test (take n xs)) (sym (map-frames-joined hs fs same))
    ∙ ap (list_all test) (take-map (λ (slot : Slot). slot.frames) n (joined hs fs)) ∙ list_all-map test (λ (slot : Slot). slot.frames) (take n (joined hs fs))

all-drop : (test : List Frame → Bool) (n : ℕ) (hs : List Hart) (fs : List (List Frame)) → length hs ≡ length fs
    → list_all test (drop n fs) ≡ list_all (λ slot. test slot.frames) (drop n (joined hs fs))
all-drop test n hs fs same =
    ap (λ xs. list_all test (drop n xs)) (sym (map-frames-joined hs fs same))
    ∙ ap (list_all test) (drop-map (λ (slot : Slot). slot.frames) n (joined hs fs)) ∙ list_all-map test (λ (slot : Slot). slot.frames) (drop n (joined hs fs))

pub any-other : (test : Hart → Bool) (h : ℕ) (hs : List Hart) (fs : List (List Frame)) → length hs ≡ length fs
    → (list_any test (take h hs) || list_any test (drop (h + 1) hs)) ≡ any_other (λ slot. test slot.hart) h (joined hs fs)
any-other test h hs fs same =
    ap (λ b. b || list_any test (drop (h + 1) hs)) (any-take test h hs fs same)
    ∙ ap (λ b. list_any (λ (slot : Slot). test slot.hart) (take h (joined hs fs)) || b) (any-drop test (h + 1) hs fs same)

pub each-other : (test : List Frame → Bool) (h : ℕ) (hs : List Hart) (fs : List (List Frame)) → length hs ≡ length fs
    → (list_all test (take h fs) && list_all test (drop (h + 1) fs)) ≡ each_other (λ slot. test slot.frames) h (joined hs fs)
each-other test h hs fs same =
    ap (λ b. b && list_all test (drop (h + 1) fs)) (all-take test h hs fs same)
    ∙ ap (λ b. list_all (λ (slot : Slot). test slot.frames) (take h (joined hs fs)) && b) (all-drop test (h + 1) hs fs same)
