-- The hart that a word chooses.
use Rattle.std.proofs.Common.{◌≡◌, ℕ, zero, suc, ◌+◌, ◌%◌, ◌<◌, Bool, true, false, not, ◌||◌, if◌then◌else◌, List, [], ◌∷◌, length, get_or, Option, Some, None, refl, ◌∙◌, subst, slice_get, arith}
use Rattle.std.specs.List.{list_any}
use Rattle.std.proofs.lemmas.Nat.{mod_below}
use Rattle.std.proofs.lemmas.Option.{slice_get-get_or}
use Rattle.guest_words.specs.declared.hart.Slot.{Slot}
use Rattle.guest_words.specs.Endings.{is_stuck}
use Rattle.guest_words.specs.Harts.{is_ready}
use Rattle.guest_words.specs.State.{State}
use Rattle.run_history.specs.Legal.{is_ready_at, is_ready_slot}
use Rattle.lone_schedule.specs.Choice.{chosen, ready_from, ready_slots}

record Placed (base h : ℕ) (slots : List Slot) : Type 0 where
  pub at : ℕ
  pub is : h ≡ base + at
  pub ready : is_ready_slot (slice_get slots at) ≡ true

later : (base h : ℕ) (slot : Slot) (slots : List Slot) → Placed (base + 1) h slots → Placed base h (slot ∷ slots)
later base h slot slots p = let is = p.is in record { at = suc p.at; is = omega (arith, is); ready = p.ready }

placed_by : (b : Bool) (base h : ℕ) (slot : Slot) (slots : List Slot) → is_ready slot.hart.state ≡ b
    → ((i : ℕ) → slice_get (ready_from (base + 1) slots) i ≡ Some h → Placed (base + 1) h slots)
    → (i : ℕ) → slice_get (if b then base ∷ ready_from (base + 1) slots else ready_from (base + 1) slots) i ≡ Some h → Placed base h (slot ∷ slots)
placed_by true base h slot slots ready rest zero is = let same : base ≡ h = cc in record { at = 0; is = omega (arith, same); ready = ready }
placed_by true base h slot slots ready rest (suc i) is = later base h slot slots (rest i is)
placed_by false base h slot slots ready rest i is = later base h slot slots (rest i is)

placed : (slots : List Slot) (base h i : ℕ) → slice_get (ready_from base slots) i ≡ Some h → Placed base h slots
unfolding ready_from
placed [] base h i is = absurd (cc is)
placed (slot ∷ slots) base h i is = placed_by (is_ready slot.hart.state) base h slot slots refl (placed slots (base + 1) h) i is

there : (slots : List Slot) (h : ℕ) → is_ready_slot (slice_get slots h) ≡ true → h < length slots
there [] h is = absurd (cc is)
there (slot ∷ slots) zero is = omega arith
there (slot ∷ slots) (suc h) is = let rest = there slots h is in omega (arith, rest)

pub chosen_ready : (s : State) (w h : ℕ) → chosen s w ≡ Some h → is_ready_at s h ≡ true
chosen_ready s w h is =
    let p = placed s.slots 0 h (w % length (ready_slots s)) is in
    let at : p.at ≡ h = let q = p.is in omega (arith, q) in
    subst (λ k. is_ready_slot (slice_get s.slots k) ≡ true) at p.ready

pub chosen_there : (s : State) (w h : ℕ) → chosen s w ≡ Some h → h < length s.slots
chosen_there s w h is = there s.slots h (chosen_ready s w h is)

some_by : (b rest : Bool) (base : ℕ) (xs : List ℕ) → (rest ≡ true → 0 < length xs) → (b || rest) ≡ true → 0 < length (if b then base ∷ xs else xs)
some_by true rest base xs later is = omega arith
some_by false rest base xs later is = later is

some_ready : (slots : List Slot) (base : ℕ) → list_any (λ (slot : Slot). is_ready slot.hart.state) slots ≡ true → 0 < length (ready_from base slots)
unfolding ready_from
some_ready [] base is = absurd (cc is)
some_ready (slot ∷ slots) base is =
    some_by (is_ready slot.hart.state) (list_any (λ (slot : Slot). is_ready slot.hart.state) slots) base (ready_from (base + 1) slots) (some_ready slots (base + 1)) is

not_false : (b : Bool) → not b ≡ false → b ≡ true
not_false true is = refl
not_false false is = cc

-- one is chosen where one is ready
pub chosen_some : (s : State) (w : ℕ) → is_stuck s ≡ false → (h : ℕ) × (chosen s w ≡ Some h)
chosen_some s w stuck =
    let ready = ready_slots s in
    let some = some_ready s.slots 0 (not_false _ stuck) in
    let k = w % length ready in
    (get_or ready k 0, slice_get-get_or ready k 0 (mod_below w (length ready) some))

none_some : (h : ℕ) → ◌≡◌ {A = Option ℕ} None (Some h) → ⊥
none_some h e = cc

pub none_stuck : (s : State) (w : ℕ) → None ≡ chosen s w → is_stuck s ≡ false → ⊥
none_stuck s w none stuck = let c = chosen_some s w stuck in none_some c.0 (none ∙ c.1)
