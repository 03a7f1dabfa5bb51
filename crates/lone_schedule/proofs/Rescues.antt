-- The entry of a rescued call, which is no Ran and no ending.
use Rattle.std.proofs.Common.{◌≡◌, ℕ, Bool, true, false, ◌&&◌, List, refl, ap, sym, ◌∙◌, eq-eqb}
use Rattle.std.proofs.lemmas.Bool.{and_from, both_ways}
use Rattle.guest_words.specs.declared.point.PointRef.{PointRef}
use Rattle.guest_words.specs.declared.fault.Fault.{Fault}
use Rattle.guest_words.specs.State.{State}
use Rattle.run_history.specs.declared.entry.Entry.{Entry, Ran, Entered, Called, Rescued', Ended, out-Entry}
use Rattle.run_history.specs.declared.entry.Entry.TheOpen.{Entry-F}
use Rattle.run_history.specs.declared.entry.Entry.TheViews as v
use Rattle.run_history.specs.declared.entry.Entry.TheVariants.{outs-Ran, outs-Entered, outs-Called, outs-Rescued', outs-Ended}
use Rattle.run_history.specs.Legal.{is_of}
use Rattle.run_history.specs.Run.{is_ended}
use Rattle.run_history.proofs.Insides.{is_of-Rescued, out-Rescued}
use Rattle.lone_schedule.specs.Insides.{is_ran, is_apart, are_apart}
use Rattle.lone_schedule.specs.Turns.{begins, follows}
use Rattle.lone_schedule.proofs.InsideLaws.{apart-Rescued, ran-Rescued}

ended_at : Entry-F Entry → Bool
ended_at (Entry-F.Ended x) = true
ended_at _ = false

ended-at : (e : Entry) → is_ended e ≡ ended_at (out-Entry e)
unfolding ended_at
ended-at (Ran h n) = sym (ap ended_at (outs-Ran h n))
ended-at (Entered h p) = sym (ap ended_at (outs-Entered h p))
ended-at (Called h r) = sym (ap ended_at (outs-Called h r))
ended-at (Rescued' h p f shape row) = sym (ap ended_at (outs-Rescued' h p f shape row))
ended-at (Ended x) = sym (ap ended_at (outs-Ended x))

ended-Rescued : (h : ℕ) (p : PointRef) (f : Fault) (xs : List Entry) → is_ended (v.Rescued h p f xs) ≡ false
unfolding ended_at
ended-Rescued h p f xs = ended-at _ ∙ ap ended_at (out-Rescued h p f xs)

begins-other : (s : State) (h : ℕ) (e : Entry) → is_ran e ≡ false → is_ended e ≡ false → begins s h e ≡ (is_of h e && is_apart e)
begins-other s h (Ran k n) r e = absurd (both_ways true r refl)
begins-other s h (Entered k p) r e = refl
begins-other s h (Called k x) r e = refl
begins-other s h (Rescued' k p f shape row) r e = refl
begins-other s h (Ended x) r e = absurd (both_ways true e refl)

follows-other : (s : State) (h : ℕ) (e : Entry) → is_ran e ≡ false → is_ended e ≡ false → follows s h e ≡ (is_of h e && is_apart e)
follows-other s h (Ran k n) r e = absurd (both_ways true r refl)
follows-other s h (Entered k p) r e = refl
follows-other s h (Called k x) r e = refl
follows-other s h (Rescued' k p f shape row) r e = refl
follows-other s h (Ended x) r e = absurd (both_ways true e refl)

-- where the Rans of the inside stand apart it may begin a turn of its hart, and stand in its rest
module _ (s : State) (h : ℕ) (p : PointRef) (f : Fault) (inside : List Entry) (apart : are_apart false inside ≡ true) where
  own_apart : (is_of h (v.Rescued h p f inside) && is_apart (v.Rescued h p f inside)) ≡ true
  own_apart = and_from _ _ (is_of-Rescued h h p f inside ∙ eq-eqb h h refl) (apart-Rescued h p f inside ∙ apart)

  pub rescue_begins : begins s h (v.Rescued h p f inside) ≡ true
  rescue_begins = begins-other s h (v.Rescued h p f inside) (ran-Rescued h p f inside) (ended-Rescued h p f inside) ∙ own_apart

  pub rescue_follows : follows s h (v.Rescued h p f inside) ≡ true
  rescue_follows = follows-other s h (v.Rescued h p f inside) (ran-Rescued h p f inside) (ended-Rescued h p f inside) ∙ own_apart
