-- Waiters that are made ready, slot by slot.
use Rattle.std.proofs.Common.{◌≡◌, ◌≢◌, ℕ, zero, suc, Bool, true, false, ◌||◌, List, [], ◌∷◌, refl, ap, sym, ◌∙◌, nat_eq, Option, Some, None, slice_get, option_map}
use Rattle.std.proofs.lemmas.Bool.{eqb-true, eq-eqb}
use Rattle.std.specs.List.{slice_index_or}
use Rattle.guest_words.specs.declared.hart.Frame.{Frame}
use Rattle.guest_words.specs.declared.hart.Hart.{Hart}
use Rattle.guest_words.specs.declared.hart.Slot.{Slot}
use Rattle.guest_words.specs.declared.hart.Waiter.{Waiter}
use Rattle.guest_words.specs.State.{changed, on_hart}
use Rattle.guest_words.specs.CallChanges.{ready, readied}
use Rattle.futex_table.specs.Slots.{MarksSlots, has_slot}
use Rattle.run_history.proofs.Slots.{changed-get, changed-other}
use Rattle.hart_slots.specs.Parts.{ready_where}
use Rattle.hart_slots.specs.Rejoined.{joined}

ext-slice_get : {X : Type 0} (xs ys : List X) → ((k : ℕ) → slice_get xs k ≡ slice_get ys k) → xs ≡ ys
ext-slice_get [] [] same = refl
ext-slice_get [] (y ∷ ys) same = let e : None ≡ Some y = same zero in cc
ext-slice_get (x ∷ xs) [] same = let e : Some x ≡ None = same zero in cc
ext-slice_get (x ∷ xs) (y ∷ ys) same =
    let e : Some x ≡ Some y = same zero in
    let rest : xs ≡ ys = ext-slice_get xs ys (λ k. same (suc k)) in cc

-- the hart of a place with the frames of a place
abbrev both : Option Hart → Option (List Frame) → Option Slot
both (Some hart) (Some frames) = Some (record { hart = hart; frames = frames })
both _ _ = None

both-none : (hart : Option Hart) → None ≡ both hart None
both-none None = refl
both-none (Some hart) = refl

slice_get-joined : (hs : List Hart) (fs : List (List Frame)) (k : ℕ) → slice_get (joined hs fs) k ≡ both (slice_get hs k) (slice_get fs k)
slice_get-joined [] fs k = refl
slice_get-joined (h ∷ hs) [] k = both-none (slice_get (h ∷ hs) k)
slice_get-joined (h ∷ hs) (f ∷ fs) zero = refl
slice_get-joined (h ∷ hs) (f ∷ fs) (suc k) = slice_get-joined hs fs k

both-map : (f : Hart → Hart) (hart : Option Hart) (frames : Option (List Frame)) → both (option_map f hart) frames ≡ option_map (on_hart f) (both hart frames)
both-map f None frames = refl
both-map f (Some hart) None = refl
both-map f (Some hart) (Some frames) = refl

unmarked : (o : Option Slot) → o ≡ option_map (on_hart (ready_where false)) o
unmarked None = refl
unmarked (Some slot) = refl

ready-again : (b : Bool) (slot : Slot) → on_hart (ready_where b) (on_hart ready slot) ≡ on_hart ready slot
ready-again true slot = refl
ready-again false slot = refl

marked-first : (b : Bool) (o : Option Slot) → option_map (on_hart (ready_where b)) (option_map (on_hart ready) o) ≡ option_map (on_hart (ready_where true)) o
marked-first b None = refl
marked-first b (Some slot) = ap Some (ready-again b slot)

-- each slot, where these waiters are made ready
readied-get : (waiters : List Waiter) (slots : List Slot) (k : ℕ) → slice_get (readied waiters slots) k ≡ option_map (on_hart (ready_where (has_slot k waiters))) (slice_get slots k)
unfolding readied
readied-get [] slots k = unmarked (slice_get slots k)
readied-get (waiter ∷ waiters) slots k =
    readied-get waiters (changed (on_hart ready) waiter.slot slots) k ∙ by (nat_eq k waiter.slot) refl
  where
    by : (b : Bool) → nat_eq k waiter.slot ≡ b
        → option_map (on_hart (ready_where (has_slot k waiters))) (slice_get (changed (on_hart ready) waiter.slot slots) k)
        ≡ option_map (on_hart (ready_where (b || has_slot k waiters))) (slice_get slots k)
    by true is =
        let same : k ≡ waiter.slot = eqb-true k waiter.slot is in
        ap (option_map (on_hart (ready_where (has_slot k waiters))))
        (ap (λ n. slice_get (changed (on_hart ready) n slots) k) (sym same) ∙ changed-get (on_hart ready) k slots)
        ∙ marked-first (has_slot k waiters) (slice_get slots k)
    by false is =
        let apart : k ≢ waiter.slot = λ e. (let not : nat_eq k waiter.slot ≡ true = eq-eqb k waiter.slot e in cc) in
        ap (option_map (on_hart (ready_where (has_slot k waiters)))) (changed-other (on_hart ready) waiter.slot slots k apart)

pub joined-readied : (flags : List Bool) (waiters : List Waiter) (before after : List Hart) (fs : List (List Frame))
    → ((k : ℕ) → slice_get after k ≡ option_map (ready_where (slice_index_or flags k false)) (slice_get before k))
    → MarksSlots flags waiters → joined after fs ≡ readied waiters (joined before fs)
joined-readied flags waiters before after fs each marks =
    ext-slice_get (joined after fs) (readied waiters (joined before fs)) (λ k.
    slice_get-joined after fs k
    ∙ ap (λ hart. both hart (slice_get fs k)) (each k ∙ ap (λ b. option_map (ready_where b) (slice_get before k)) (marks k))
    ∙ both-map (ready_where (has_slot k waiters)) (slice_get before k) (slice_get fs k)
    ∙ ap (option_map (on_hart (ready_where (has_slot k waiters)))) (sym (slice_get-joined before fs k))
    ∙ sym (readied-get waiters (joined before fs) k))
