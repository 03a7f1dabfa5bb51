-- The harts of the waiting list wait, whatever other harts do.
use Rattle.std.proofs.Common.{◌≡◌, ℕ, zero, suc, ◌+◌, ◌<◌, Bool, true, false, if◌then◌else◌, List, [], ◌∷◌, ◌++◌, length, get_or, set, map, take, ◌||◌, nat_eq, Option, Some, None, option_map, inl, inr, refl, ap, sym, ◌∙◌, subst, slice_get, arith}
use Rattle.std.specs.List.{AllByRecursion, filter, position_from}
use Rattle.std.proofs.lemmas.Bool.{eqb-true}
use Rattle.std.proofs.lemmas.Bool.Decides.{nat_tests}
use Rattle.std.proofs.lemmas.List.Elements.{All-cons, All-append}
use Rattle.std.proofs.lemmas.Map.Keys.{IsDistinct-head, IsDistinct-tail}
use Rattle.std.proofs.lemmas.Option.{slice_get-map}
use Rattle.guest_words.specs.declared.hart.Hart.{Hart}
use Rattle.guest_words.specs.declared.hart.HartState.{HartState}
use Rattle.guest_words.specs.declared.hart.HartState.TheVariants.{Waiting, Empty}
use Rattle.guest_words.specs.declared.hart.Slot.{Slot}
use Rattle.guest_words.specs.declared.hart.Waiter.{Waiter}
use Rattle.guest_words.specs.CallChanges.{asleep, free_slot, readied, ready, unwoken, waits_at, with_child, woken}
use Rattle.guest_words.specs.Harts.{is_free, is_ready}
use Rattle.guest_words.specs.State.{changed, on_each, on_hart}
use Rattle.run_history.specs.Legal.{is_ready_slot}
use Rattle.run_history.proofs.Ands.{if_by, same_or}
use Rattle.run_history.proofs.Slots.{changed-get, changed-other}
use Rattle.futex_table.specs.Slots.{has_slot, slots_of, HasOwnSlots}
use Rattle.hart_slots.specs.Rejoined.{hart_of}
use Rattle.hart_step.specs.Live.{Waits, WaitsAt}

abbrev pub state_of : Slot → HartState
state_of slot = slot.hart.state

-- whether the hart in a slot may go on
abbrev pub state_at : List Slot → ℕ → Option HartState
state_at slots k = option_map state_of (slice_get slots k)

-- harts that wait go on waiting
abbrev pub StaysWaiting : List Slot → List Slot → Type 0
StaysWaiting old new = (k place : ℕ) → state_at old k ≡ Some (Waiting place) → state_at new k ≡ Some (Waiting place)

nobody : Hart
nobody = record { pc = 0; regs = []; arrived = false; reservation = None; state = Empty; tid = 0; clear = 0 }

waits_get : (slots : List Slot) (k place : ℕ) → ((d : Hart) → (k < length (map hart_of slots)) × ((get_or (map hart_of slots) k d).state ≡ Waiting place)) → state_at slots k ≡ Some (Waiting place)
waits_get [] k place at = let within = (at nobody).0 in absurd (omega (arith, within))
waits_get (slot ∷ slots) zero place at = ap Some (at nobody).1
waits_get (slot ∷ slots) (suc k) place at = waits_get slots k place (λ d. let within = (at d).0 in (omega (arith, within), (at d).1))

get_waits : (slots : List Slot) (k place : ℕ) → state_at slots k ≡ Some (Waiting place) → (d : Hart) → (k < length (map hart_of slots)) × ((get_or (map hart_of slots) k d).state ≡ Waiting place)
get_waits [] k place at d = absurd (cc)
get_waits (slot ∷ slots) zero place at d = (omega arith, cc)
get_waits (slot ∷ slots) (suc k) place at d = let rest = get_waits slots k place at d in let within = rest.0 in (omega (arith, within), rest.1)

pub waits_kept : (waiting : List Waiter) (old new : List Slot) → StaysWaiting old new → Waits waiting (map hart_of old) → Waits waiting (map hart_of new)
waits_kept waiting old new stays waits k d within =
    let waiter = get_or waiting k d in
    get_waits new waiter.slot waiter.place (stays waiter.slot waiter.place (waits_get old waiter.slot waiter.place (waits k d within)))

pub stays_both : (a b c : List Slot) → StaysWaiting a b → StaysWaiting b c → StaysWaiting a c
stays_both a b c first second k place at = second k place (first k place at)

pub stays_each : (f : Hart → Hart) (slots : List Slot) → ((hart : Hart) → (f hart).state ≡ hart.state) → StaysWaiting slots (on_each f slots)
stays_each f slots same k place at = ap (option_map state_of) (slice_get-map (on_hart f) slots k) ∙ by (slice_get slots k) at
  where
    by : (o : Option Slot) → option_map state_of o ≡ Some (Waiting place) → option_map state_of (option_map (on_hart f) o) ≡ Some (Waiting place)
    by None e = e
    by (Some slot) e = ap Some (same slot.hart) ∙ e

-- a change of one slot, if a hart that waits there goes on waiting
changed_stays : (f : Slot → Slot) (h : ℕ) (slots : List Slot) → ((slot : Slot) (place : ℕ) → slice_get slots h ≡ Some slot → slot.hart.state ≡ Waiting place → (f slot).hart.state ≡ Waiting place)
    → StaysWaiting slots (changed f h slots)
changed_stays f h slots keeps k place at =
    elim (same_or k h) [
      | inl same ↦
          subst (λ (j : ℕ). state_at (changed f h slots) j ≡ Some (Waiting place)) (sym same)
          (ap (option_map state_of) (changed-get f h slots) ∙ by (slice_get slots h) refl (ap (state_at slots) (sym same) ∙ at))
      | inr apart ↦ ap (option_map state_of) (changed-other f h slots k apart) ∙ at
    ]
  where
    by : (o : Option Slot) → slice_get slots h ≡ o → option_map state_of o ≡ Some (Waiting place) → option_map state_of (option_map f o) ≡ Some (Waiting place)
    by None is e = e
    by (Some slot) is e = ap Some (keeps slot place is (cc))

pub stays_changed : (f : Slot → Slot) (h : ℕ) (slots : List Slot) → ((slot : Slot) → (f slot).hart.state ≡ slot.hart.state) → StaysWaiting slots (changed f h slots)
stays_changed f h slots same = changed_stays f h slots (λ slot place is waits. same slot ∙ waits)

pub stays_ready : (f : Slot → Slot) (h : ℕ) (slots : List Slot) → is_ready_slot (slice_get slots h) ≡ true → StaysWaiting slots (changed f h slots)
stays_ready f h slots can =
    changed_stays f h slots (λ slot place is waits.
    let no : is_ready slot.hart.state ≡ false = ap is_ready waits in
    let yes : is_ready slot.hart.state ≡ true = sym (ap is_ready_slot is) ∙ can in
    absurd (cc))

-- a new hart in a slot that was free

abbrev FreeFrom : List Slot → ℕ → ℕ → Type 0
FreeFrom slots k slot = (j : ℕ) × (slot ≡ k + j) × ((o : HartState) → state_at slots j ≡ Some o → is_free o ≡ true)

free_at : (slots : List Slot) (k slot : ℕ) → position_from (λ (s : Slot). is_free s.hart.state) k slots ≡ Some slot → FreeFrom slots k slot
free_at [] k slot is = absurd (cc)
free_at (x ∷ xs) k slot is = by (is_free x.hart.state) refl is (free_at xs (k + 1) slot)
  where
    by : (b : Bool) → is_free x.hart.state ≡ b → (if b then Some k else position_from (λ (s : Slot). is_free s.hart.state) (k + 1) xs) ≡ Some slot
        → (position_from (λ (s : Slot). is_free s.hart.state) (k + 1) xs ≡ Some slot → FreeFrom xs (k + 1) slot) → FreeFrom (x ∷ xs) k slot
    by true free at rest = let same : k ≡ slot = cc in (0, omega (arith, same), λ o e. let is : x.hart.state ≡ o = cc in ap is_free (sym is) ∙ free)
    by false free at rest = let later = rest at in let same = later.1 in (suc later.0, omega (arith, same), later.2)

set_stays : (slots : List Slot) (slot : ℕ) (x : Slot) → ((o : HartState) → state_at slots slot ≡ Some o → is_free o ≡ true) → StaysWaiting slots (set slots slot x)
set_stays [] slot x free k place at = at
set_stays (y ∷ ys) zero x free zero place at = let no = free (Waiting place) at in absurd (cc)
set_stays (y ∷ ys) zero x free (suc k) place at = at
set_stays (y ∷ ys) (suc slot) x free zero place at = at
set_stays (y ∷ ys) (suc slot) x free (suc k) place at = set_stays ys slot x free k place at

pub stays_child : (slot : ℕ) (child : Slot → Slot) (parent : Option Slot) (slots : List Slot) → free_slot slots ≡ Some slot → StaysWaiting slots (with_child slot child parent slots)
stays_child slot child None slots free k place at = at
stays_child slot child (Some parent) slots free k place at = set_stays slots slot (child parent) (found slots slot free) k place at
  where
    found : (slots : List Slot) (slot : ℕ) → free_slot slots ≡ Some slot → (o : HartState) → state_at slots slot ≡ Some o → is_free o ≡ true
    found [] slot is o at = absurd (cc)
    found (x ∷ xs) slot is o at =
        let at_next = free_at xs 1 slot is in
        let same : slot ≡ suc at_next.0 = let e = at_next.1 in omega (arith, e) in
        at_next.2 o (ap (state_at (x ∷ xs)) (sym same) ∙ at)

-- a ready hart is not in the waiting list

pub ready_absent : (waiting : List Waiter) (slots : List Slot) (h : ℕ) → is_ready_slot (slice_get slots h) ≡ true → Waits waiting (map hart_of slots) → has_slot h waiting ≡ false
ready_absent [] slots h can waits = refl
ready_absent (w ∷ ws) slots h can waits = by (nat_eq h w.slot) refl (ready_absent ws slots h can (λ k d within. waits (suc k) d (omega (arith, within))))
  where
    apart : state_at slots h ≡ Some (Waiting w.place) → ⊥
    apart at = by (slice_get slots h) can at
      where
        by : (o : Option Slot) → is_ready_slot o ≡ true → option_map state_of o ≡ Some (Waiting w.place) → ⊥
        by None can at = cc
        by (Some slot) can at = let is : slot.hart.state ≡ Waiting w.place = cc in let no : is_ready slot.hart.state ≡ false = ap is_ready is in cc

    by : (b : Bool) → nat_eq h w.slot ≡ b → has_slot h ws ≡ false → has_slot h (w ∷ ws) ≡ false
    by true same others =
        let is = eqb-true h w.slot same in
        absurd (apart (ap (state_at slots) is ∙ waits_get slots w.slot w.place (waits 0 w (omega arith))))
    by false other others = ap (λ b. b || has_slot h ws) other ∙ others

-- the harts that are not woken go on waiting

abbrev Apart : ℕ → List Waiter → Type 0
Apart k waiting = AllByRecursion (λ slot. nat_eq k slot ≡ false) (slots_of waiting)

readied_apart : (waiting : List Waiter) (k : ℕ) (slots : List Slot) → Apart k waiting → state_at (readied waiting slots) k ≡ state_at slots k
unfolding readied
readied_apart [] k slots apart = refl
readied_apart (w ∷ ws) k slots apart =
    readied_apart ws k (changed (on_hart ready) w.slot slots) apart.1
    ∙ ap (option_map state_of) (changed-other (on_hart ready) w.slot slots k (λ same. let no = apart.0 in let yes : nat_eq k w.slot ≡ true = grind (arith, nat_tests, same) in cc))

woken_apart : (k place most : ℕ) (waiting : List Waiter) → Apart k waiting → Apart k (woken place most waiting)
woken_apart k place zero waiting apart = tt
woken_apart k place (suc most) [] apart = tt
woken_apart k place (suc most) (w ∷ ws) apart =
    if_by (λ (ys : List Waiter). Apart k (take (suc most) ys)) (waits_at place w) (w ∷ filter (waits_at place) ws) (filter (waits_at place) ws)
    (λ e. (apart.0, woken_apart k place most ws apart.1)) (λ e. woken_apart k place (suc most) ws apart.1)

waits_apart : (ws : List Waiter) (h : ℕ) (old new : List Slot) → ((k : ℕ) → nat_eq h k ≡ false → state_at new k ≡ state_at old k) → Apart h ws → Waits ws (map hart_of old) → Waits ws (map hart_of new)
waits_apart [] h old new same apart waits = λ k d within. absurd (omega (arith, within))
waits_apart (w ∷ ws) h old new same apart waits =
    All-cons (λ (x : Waiter). WaitsAt x (map hart_of new)) w ws
    (get_waits new w.slot w.place (same w.slot apart.0 ∙ waits_get old w.slot w.place (waits 0 w (omega arith))))
    (waits_apart ws h old new same apart.1 (λ k d within. waits (suc k) d (omega (arith, within))))

pub rouse_waits : (place most : ℕ) (waiting : List Waiter) (slots : List Slot) → HasOwnSlots waiting → Waits waiting (map hart_of slots)
    → Waits (unwoken place most waiting) (map hart_of (readied (woken place most waiting) slots))
unfolding unwoken readied
rouse_waits place most [] slots own waits = λ k d within. absurd (omega (arith, within))
rouse_waits place zero (w ∷ ws) slots own waits = waits
rouse_waits place (suc most) (w ∷ ws) slots own waits =
    let others : Apart w.slot ws = IsDistinct-head nat_eq w.slot (slots_of ws) own.distinct in
    let mine : HasOwnSlots ws = record { below = λ k d within. own.below (suc k) d (omega (arith, within)); distinct = IsDistinct-tail nat_eq w.slot (slots_of ws) own.distinct } in
    let rest : Waits ws (map hart_of slots) = λ k d within. waits (suc k) d (omega (arith, within)) in
    let woke : List Slot = changed (on_hart ready) w.slot slots in
    let left : Waits ws (map hart_of woke) =
    waits_apart ws w.slot slots woke
    (λ k other. ap (option_map state_of) (changed-other (on_hart ready) w.slot slots k (λ same. let yes : nat_eq w.slot k ≡ true = grind (arith, nat_tests, same) in cc))) others rest in
    either (waits_at place w) (rouse_waits place most ws woke mine left)
    (All-cons (λ (x : Waiter). WaitsAt x (map hart_of (readied (woken place (suc most) ws) slots))) w (unwoken place (suc most) ws)
    (get_waits (readied (woken place (suc most) ws) slots) w.slot w.place
    (readied_apart (woken place (suc most) ws) w.slot slots (woken_apart w.slot place (suc most) ws others) ∙ waits_get slots w.slot w.place (waits 0 w (omega arith))))
    (rouse_waits place (suc most) ws slots mine rest))
  where
    either : (b : Bool) → Waits (unwoken place most ws) (map hart_of (readied (take (suc most) (w ∷ filter (waits_at place) ws)) slots))
        → Waits (w ∷ unwoken place (suc most) ws) (map hart_of (readied (woken place (suc most) ws) slots))
        → Waits (if b then unwoken place most ws else w ∷ unwoken place (suc most) ws) (map hart_of (readied (take (suc most) (if b then w ∷ filter (waits_at place) ws else filter (waits_at place) ws)) slots))
    either true kept other = kept
    either false kept other = other

-- a hart that begins to wait behind the others
pub sleep_waits : (waiting : List Waiter) (slots : List Slot) (h place : ℕ) → is_ready_slot (slice_get slots h) ≡ true → Waits waiting (map hart_of slots)
    → Waits (waiting ++ (record { slot = h; place = place }) ∷ []) (map hart_of (changed (on_hart (asleep place)) h slots))
sleep_waits waiting slots h place can waits =
    let new : Waiter = record { slot = h; place = place } in
    let after = changed (on_hart (asleep place)) h slots in
    let P : Waiter → Type 0 = λ x. WaitsAt x (map hart_of after) in
    All-append P waiting (new ∷ []) (waits_kept waiting slots after (stays_ready (on_hart (asleep place)) h slots can) waits)
    (All-cons P new [] (get_waits after h place (ap (option_map state_of) (changed-get (on_hart (asleep place)) h slots) ∙ there (slice_get slots h) can)) (λ k d within. absurd (omega (arith, within))))
  where
    there : (o : Option Slot) → is_ready_slot o ≡ true → option_map state_of (option_map (on_hart (asleep place)) o) ≡ Some (Waiting place)
    there None can = absurd (cc)
    there (Some slot) can = refl
