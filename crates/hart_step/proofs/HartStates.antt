-- Changes of slots that leave each hart's state as it is: who waits still does.
use Rattle.std.proofs.Common.{◌≡◌, ℕ, zero, suc, ◌<◌, List, [], ◌∷◌, length, get_or, set, map, ap, sym, ◌∙◌, refl, subst, Option, Some, None, slice_get, arith}
use Rattle.std.proofs.lemmas.List.{length-map}
use Rattle.guest_words.specs.declared.hart.Hart.{Hart}
use Rattle.guest_words.specs.declared.hart.HartState.{HartState}
use Rattle.guest_words.specs.declared.hart.HartState.TheVariants.{Waiting}
use Rattle.guest_words.specs.declared.hart.Slot.{Slot}
use Rattle.guest_words.specs.declared.hart.Waiter.{Waiter}
use Rattle.guest_words.specs.declared.point.PointRef.{PointRef}
use Rattle.guest_words.specs.declared.point.Ret.{Ret}
use Rattle.guest_words.specs.declared.point.Ret.TheVariants.{Code, Void}
use Rattle.guest_words.specs.Harts.{opened, unreserved}
use Rattle.guest_words.specs.State.{changed, changed_by, closed, on_each, on_hart}
use Rattle.hart_slots.specs.Rejoined.{hart_of, rejoined, reopened}
use Rattle.run_history.specs.After.{given_back}
use Rattle.hart_step.specs.Live.{Waits}

abbrev pub state_of : Slot → HartState
state_of slot = slot.hart.state

abbrev pub states : List Slot → List HartState
states slots = map state_of slots

abbrev KeepsState : (Slot → Slot) → Type 0
KeepsState f = (slot : Slot) → state_of (f slot) ≡ state_of slot

pub states-each : (f : Slot → Slot) (slots : List Slot) → KeepsState f → states (map f slots) ≡ states slots
states-each f [] same = refl
states-each f (slot ∷ slots) same = λ i. same slot i ∷ states-each f slots same i

states-set : (slots : List Slot) (h : ℕ) (x slot : Slot) → slice_get slots h ≡ Some slot → state_of x ≡ state_of slot → states (set slots h x) ≡ states slots
states-set [] h x slot is same = refl
states-set (y ∷ ys) zero x slot is same = let own : slot ≡ y = cc in let whole = same ∙ ap state_of own in λ i. whole i ∷ states ys
states-set (y ∷ ys) (suc h) x slot is same = λ i. state_of y ∷ states-set ys h x slot is same i

pub states-changed : (f : Slot → Slot) (h : ℕ) (slots : List Slot) → KeepsState f → states (changed f h slots) ≡ states slots
unfolding changed
states-changed f h slots same = by (slice_get slots h) refl
  where
    by : (o : Option Slot) → slice_get slots h ≡ o → states (changed_by f h slots o) ≡ states slots
    by None is = refl
    by (Some slot) is = states-set slots h (f slot) slot is (same slot)

-- the waiting list looks at the states alone

state_at : (slots : List Slot) (k : ℕ) (d : Slot) → get_or (states slots) k (state_of d) ≡ (get_or (map hart_of slots) k d.hart).state
state_at [] k d = refl
state_at (slot ∷ slots) zero d = refl
state_at (slot ∷ slots) (suc k) d = state_at slots k d

pub waits-states : (waiting : List Waiter) (xs ys : List Slot) → states xs ≡ states ys → Waits waiting (map hart_of xs) → Waits waiting (map hart_of ys)
waits-states waiting xs ys same all k d less e =
    let waiter = get_or waiting k d in
    let slot : Slot = record { hart = e; frames = [] } in
    let at : (waiter.slot < length (map hart_of xs)) × ((get_or (map hart_of xs) waiter.slot e).state ≡ Waiting waiter.place) = all k d less e in
    let within = at.0 in
    let long : length xs ≡ length ys = sym (length-map xs state_of) ∙ ap length same ∙ length-map ys state_of in
    let before : length (map hart_of xs) ≡ length xs = length-map xs hart_of in
    let after : length (map hart_of ys) ≡ length ys = length-map ys hart_of in
    (omega (arith, within, long, before, after), sym (state_at ys waiter.slot slot) ∙ sym (ap (λ zs. get_or zs waiter.slot e.state) same) ∙ state_at xs waiter.slot slot ∙ at.1)

-- each change

pub states-opened : (point : PointRef) (h : ℕ) (slots : List Slot) → states (changed (opened point) h slots) ≡ states slots
states-opened point h slots = states-changed (opened point) h slots (λ slot. refl)

pub states-unreserved : (slots : List Slot) → states (on_each unreserved slots) ≡ states slots
states-unreserved slots = states-each (on_hart unreserved) slots (λ slot. refl)

pub states-closed : (h : ℕ) (slots : List Slot) → states (changed closed h slots) ≡ states slots
states-closed h slots = states-changed closed h slots (λ slot. refl)

back_same : (ret : Ret) (slot : Slot) → state_of (on_hart (given_back ret) slot) ≡ state_of slot
back_same (Code value) slot = refl
back_same Void slot = refl

-- a hart that returns from its call
pub states-back : (ret : Ret) (h : ℕ) (slots : List Slot) → states (changed closed h (changed (on_hart (given_back ret)) h (on_each unreserved slots))) ≡ states slots
states-back ret h slots =
    let plain = on_each unreserved slots in
    let back = changed (on_hart (given_back ret)) h plain in
    states-closed h back ∙ states-changed (on_hart (given_back ret)) h plain (back_same ret) ∙ states-unreserved slots

-- harts that are put back
rejoined_harts : (harts : List Hart) (slots : List Slot) → length harts ≡ length slots → map hart_of (rejoined harts slots) ≡ harts
rejoined_harts [] [] long = refl
rejoined_harts [] (slot ∷ slots) long = cc
rejoined_harts (hart ∷ harts) [] long = cc
rejoined_harts (hart ∷ harts) (slot ∷ slots) long = λ i. hart ∷ rejoined_harts harts slots (omega (arith, long)) i

pub waits-rejoined : (waiting : List Waiter) (harts : List Hart) (h : ℕ) (slots : List Slot) → length harts ≡ length slots → Waits waiting harts
    → Waits waiting (map hart_of (changed reopened h (rejoined harts slots)))
waits-rejoined waiting harts h slots long all =
    let again = rejoined harts slots in
    waits-states waiting again (changed reopened h again) (sym (states-changed reopened h again (λ slot. refl)))
    (subst (Waits waiting) (sym (rejoined_harts harts slots long)) all)
