-- What a step of a hart answers.
use Rattle.std.proofs.Common.{◌≡◌, ◌⊎◌, inl, inr, ℕ, Bool, true, false, ◌||◌, if◌then◌else◌, Option, Some, None, refl, subst, slice_get, eq-eqb}
use Rattle.guest_words.specs.declared.ending.Ending.TheVariants as ending
use Rattle.guest_words.specs.declared.hart.Slot.{Slot}
use Rattle.guest_words.specs.Act.{StateAct, Ordinary, Fault, Request, Arrival, End, Absent, act_of}
use Rattle.guest_words.specs.Endings.{is_budget_spent, is_stuck}
use Rattle.guest_words.specs.Harts.{is_ready}
use Rattle.guest_words.specs.State.{State}
use Rattle.run_history.specs.Legal.{is_ready_at, is_ready_slot}
use Rattle.machine_core.specs.declared.stepped.Stepped.{Stepped}
use Rattle.machine_core.specs.declared.stepped.Stepped.TheVariants.{Moved, Arrived, Idle, Ended as Over}
use Rattle.machine_core.specs.QuietSteps.{stepped_by, stepped_in, stepped_of}
use Rattle.lone_schedule.specs.Turns.{ends_hart, is_due}

-- what an answer says of the hart, where none is due without a word
abbrev Fits : Bool → ℕ → Option Stepped → Type 0
Fits ready h (Some (Idle t)) = ready ≡ false
Fits ready h (Some (Over x)) = ends_hart h x ≡ true
Fits ready h _ = Unit {0}

by_act : (b : Bool) (act : StateAct) (h pc : ℕ) → Fits b h (stepped_by act h pc)
by_act b (Ordinary t) h pc = tt
by_act b (Fault name) h pc = eq-eqb h h refl
by_act b (Request way port asked place) h pc = tt
by_act b (Arrival p) h pc = tt
by_act b (End code) h pc = eq-eqb h h refl
by_act b Absent h pc = tt

by_ready : (b : Bool) (act : StateAct) (h pc : ℕ) (t : _) → Fits b h (if b then stepped_by act h pc else Some (Idle t))
by_ready true act h pc t = by_act true act h pc
by_ready false act h pc t = refl

by_slot : (s : State) (h : ℕ) (o : Option Slot) → Fits (is_ready_slot o) h (stepped_in s h o)
by_slot s h None = tt
by_slot s h (Some slot) = by_ready (is_ready slot.hart.state) (act_of s h) h slot.hart.pc slot.hart.state

-- an answer, where an ending is due and where none is
abbrev IsAnswer : Bool → Bool → ℕ → Option Stepped → Type 0
IsAnswer true ready h (Some (Over x)) = Unit {0}
IsAnswer true ready h _ = ⊥
IsAnswer false ready h o = Fits ready h o

is_answer : (s : State) (h : ℕ) → IsAnswer (is_due s) (is_ready_at s h) h (stepped_of s h)
is_answer s h = by (is_budget_spent s) (is_stuck s)
  where
    by : (b c : Bool) → IsAnswer (b || c) (is_ready_at s h) h
        (if b then Some (Over ending.Budget) else if c then Some (Over ending.Stuck) else stepped_in s h (slice_get s.slots h))
    by true c = tt
    by false true = tt
    by false false = by_slot s h (slice_get s.slots h)

answer : (s : State) (h : ℕ) (x : Stepped) → stepped_of s h ≡ Some x → IsAnswer (is_due s) (is_ready_at s h) h (Some x)
answer s h x is = subst (IsAnswer (is_due s) (is_ready_at s h) h) is (is_answer s h)

-- each answer by itself

on : (b ready : Bool) (h : ℕ) (x : Stepped) → IsAnswer b ready h (Some x) → (IsAnswer true ready h (Some x) → ⊥) → (b ≡ false) × Fits ready h (Some x)
on true ready h x is never = absurd (never is)
on false ready h x is never = (refl, is)

pub moved_is : (s : State) (h : ℕ) → stepped_of s h ≡ Some Moved → is_due s ≡ false
moved_is s h is = (on (is_due s) _ h Moved (answer s h Moved is) (λ never. never)).0

pub arrived_is : (s : State) (h : ℕ) (p : _) → stepped_of s h ≡ Some (Arrived p) → is_due s ≡ false
arrived_is s h p is = (on (is_due s) _ h (Arrived p) (answer s h (Arrived p) is) (λ never. never)).0

pub idle_is : (s : State) (h : ℕ) (t : _) → stepped_of s h ≡ Some (Idle t) → (is_due s ≡ false) × (is_ready_at s h ≡ false)
idle_is s h t is = on (is_due s) _ h (Idle t) (answer s h (Idle t) is) (λ never. never)

pub over_is : (s : State) (h : ℕ) (x : _) → stepped_of s h ≡ Some (Over x) → (is_due s ≡ true) ⊎ ((is_due s ≡ false) × (ends_hart h x ≡ true))
over_is s h x is = by (is_due s) (answer s h (Over x) is)
  where
    by : (b : Bool) → IsAnswer b (is_ready_at s h) h (Some (Over x)) → (b ≡ true) ⊎ ((b ≡ false) × (ends_hart h x ≡ true))
    by true is = inl refl
    by false is = inr (refl, is)

pub unstuck : (s : State) → is_due s ≡ false → (is_budget_spent s ≡ false) × (is_stuck s ≡ false)
unstuck s due = by (is_budget_spent s) (is_stuck s) due
  where
    by : (b c : Bool) → (b || c) ≡ false → (b ≡ false) × (c ≡ false)
    by true c is = cc
    by false c is = (refl, is)
