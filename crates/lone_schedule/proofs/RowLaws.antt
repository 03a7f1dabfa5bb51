-- Rows of acts by each of their acts, and what a call for pages is to the machine.
use Rattle.std.proofs.Common.{◌≡◌, ℕ, zero, suc, ◌<◌, true, false, not, length, Option, Some, None, refl, ap, sym, arith, slice_get}
use Rattle.std.proofs.lemmas.Bool.{and_from}
use Rattle.guest_words.specs.declared.act.Act.{Act}
use Rattle.guest_words.specs.declared.act.Act.TheVariants as act
use Rattle.guest_words.specs.declared.call.Request.{Request}
use Rattle.guest_words.specs.declared.call.Request.TheVariants as request
use Rattle.guest_words.specs.declared.hart.Slot.{Slot}
use Rattle.guest_words.specs.HartAct.{hart_act}
use Rattle.guest_words.specs.State.{State}
use Rattle.hart_step.specs.Stops.{act_wants, can_want, slot_wants, wants_memory}
use Rattle.run_history.specs.After.{next, ran}
use Rattle.lone_schedule.specs.Rows.{act_asks, asks_pages, is_row, slot_asks, takes_none, takes_pages}

none-shown : (s : State) (h n : ℕ) → ((i : ℕ) → i < n → takes_pages (ran s h i) h ≡ false) → takes_none s h n ≡ true
unfolding takes_none ran
none-shown s h zero each = refl
none-shown s h (suc n) each =
    and_from _ _ (ap not (each 0 (omega arith))) (none-shown (next s h) h n (λ i less. each (suc i) (omega (arith, less))))

-- a row by its acts: none behind the first takes pages
pub row-shown : (s : State) (h n : ℕ) → ((i : ℕ) → 0 < i → i < n → takes_pages (ran s h i) h ≡ false) → is_row s h n ≡ true
unfolding is_row ran
row-shown s h zero each = refl
row-shown s h (suc n) each = none-shown (next s h) h n (λ i less. each (suc i) (omega arith) (omega (arith, less)))

-- the machine stops a row before just these calls

wants-call : (call : Request) → can_want false call ≡ asks_pages call
wants-call (request.Read fd place size) = refl
wants-call (request.Write fd place size) = refl
wants-call (request.Close fd) = refl
wants-call (request.Exit code) = refl
wants-call (request.ExitGroup code) = refl
wants-call (request.Wait place value timeout) = refl
wants-call (request.Wake place value) = refl
wants-call (request.Clone flags stack parent tls child) = refl
wants-call (request.Break to) = refl
wants-call (request.Map size prot flags) = refl
wants-call (request.Unmap place size) = refl
wants-call request.Yield = refl
wants-call request.Tid = refl
wants-call request.Unknown = refl

wants-act : (a : Act) → act_wants false a ≡ act_asks a
wants-act (act.Next hart write) = refl
wants-act (act.Fault name) = refl
wants-act (act.Call call) = wants-call call
wants-act (act.Arrived point) = refl

pub takes-wants : (s : State) (h : ℕ) → takes_pages s h ≡ wants_memory false s h
unfolding takes_pages
takes-wants s h = by (slice_get s.slots h)
  where
    by : (o : Option Slot) → slot_asks s o ≡ slot_wants false s o
    by None = refl
    by (Some slot) = sym (wants-act (hart_act s.memory s.points (length slot.frames) slot.hart))
