-- A run with so many acts more, and the inside of a call with one entry or so many acts more: a run
-- from where the call was entered, and, while its frame is open, the inside of a rescue.
use Rattle.std.proofs.Common.{◌≡◌, ℕ, zero, suc, ◌<◌, Bool, true, false, if◌then◌else◌, List, [], ◌∷◌, ◌++◌, refl, ap, sym, ◌∙◌, subst, arith, eq-eqb}
use Rattle.guest_words.specs.State.{State, frames_at}
use Rattle.run_history.specs.declared.entry.Entry.{Entry, Ran}
use Rattle.run_history.specs.After.{after, next, ran, state_after}
use Rattle.run_history.specs.LastEntry.{ends_in_ran_of, lengthened_by, with_act, with_acts}
use Rattle.run_history.specs.Legal.{can_go, can_run, is_of, legal, legal_inside, may_act}
use Rattle.run_history.specs.Run.{is_run}
use Rattle.run_history.proofs.Appends.{is_run-push, legal_inside-push, legal_inside-runs, state_after-push}
use Rattle.run_history.proofs.Entries.{after-Ran, legal-Ran}
use Rattle.run_history.proofs.Longer.{is_run-lengthened, legal_inside-lengthened, state_after-lengthened}
use Rattle.run_history.proofs.RunSteps.{can_run-one, ran-none, ran-one}

-- a run from one state to another
pub record RunsTo (from : State) (es : List Entry) (t : State) : Type 0 where
  pub runs : is_run from es ≡ true
  pub reaches : t ≡ state_after from es

pub runs-push : (from : State) (es : List Entry) (s : State) (e : Entry) → RunsTo from es s → legal s e ≡ true → RunsTo from (es ++ e ∷ []) (after s e)
runs-push from es s e so_far may =
    record {
      runs = is_run-push from es e so_far.runs (ap (λ (t : State). legal t e) (sym so_far.reaches) ∙ may);
      reaches = ap (λ (t : State). after t e) so_far.reaches ∙ sym (state_after-push from es e);
    }

-- so many acts of a hart behind a run, where it can make them
pub runs-acts : (from : State) (h n : ℕ) (es : List Entry) (s : State) → RunsTo from es s → may_act s h ≡ true → can_run s h n ≡ true → RunsTo from (with_acts h n es) (ran s h n)
runs-acts from h zero es s so_far may goes = subst (RunsTo from es) (sym (ran-none s h)) so_far
runs-acts from h (suc n) es s so_far may goes = by (ends_in_ran_of h (suc n) es) refl
  where
    m : ℕ
    m = suc n

    there : can_run (state_after from es) h m ≡ true
    there = ap (λ (t : State). can_run t h m) (sym so_far.reaches) ∙ goes

    by : (b : Bool) → ends_in_ran_of h m es ≡ b → RunsTo from (if b then lengthened_by m es else es ++ Ran h m ∷ []) (ran s h m)
    by true ends =
        record {
          runs = is_run-lengthened from h m es ends so_far.runs there;
          reaches = ap (λ (t : State). ran t h m) so_far.reaches ∙ sym (state_after-lengthened from h m es ends so_far.runs there);
        }
    by false ends = subst (RunsTo from (es ++ Ran h m ∷ [])) (after-Ran s h m) (runs-push from es s (Ran h m) so_far (legal-Ran s h m may (omega arith) goes))

pub runs-act : (from : State) (h : ℕ) (es : List Entry) (s : State) → RunsTo from es s → may_act s h ≡ true → can_go s h ≡ true → RunsTo from (with_act h es) (next s h)
runs-act from h es s so_far may goes = subst (RunsTo from (with_act h es)) (ran-one s h) (runs-acts from h 1 es s so_far may (can_run-one s h goes))

-- entries from a state lead to t, and they are the inside of a call over d frames while it is open
pub record Inside (from : State) (h d : ℕ) (es : List Entry) (t : State) : Type 0 where
  pub runs : is_run from es ≡ true
  pub reaches : t ≡ state_after from es
  pub stays : d < frames_at t h → legal_inside from h d es ≡ true

inside-runs : (from : State) (h d : ℕ) (es : List Entry) (s : State) → legal_inside from h d es ≡ true → s ≡ state_after from es → RunsTo from es s
inside-runs from h d es s so_far is = record { runs = legal_inside-runs from h d es so_far; reaches = is }

pub inside-push : (from : State) (h d : ℕ) (es : List Entry) (s : State) (e : Entry) → legal_inside from h d es ≡ true → s ≡ state_after from es
    → is_of h e ≡ true → legal s e ≡ true → Inside from h d (es ++ e ∷ []) (after s e)
inside-push from h d es s e so_far is own may =
    let there = ap (λ (t : State). legal t e) (sym is) ∙ may in
    let to = ap (λ (t : State). after t e) is in
    let more = runs-push from es s e (inside-runs from h d es s so_far is) may in
    record {
      runs = more.runs;
      reaches = more.reaches;
      stays = λ some. legal_inside-push from h d es e so_far own there (subst (λ (t : State). d < frames_at t h) to some);
    }

-- so many acts behind the inside of a call keep it one while its frame is open
pub legal_inside-acts : (from : State) (h d n : ℕ) (es : List Entry) (s : State) → legal_inside from h d es ≡ true → s ≡ state_after from es
    → may_act s h ≡ true → can_run s h n ≡ true → d < frames_at (ran s h n) h → legal_inside from h d (with_acts h n es) ≡ true
legal_inside-acts from h d zero es s so_far is may goes some = so_far
legal_inside-acts from h d (suc n) es s so_far is may goes some = by (ends_in_ran_of h (suc n) es) refl
  where
    m : ℕ
    m = suc n

    there : can_run (state_after from es) h m ≡ true
    there = ap (λ (t : State). can_run t h m) (sym is) ∙ goes

    above : d < frames_at (ran (state_after from es) h m) h
    above = subst (λ (t : State). d < frames_at (ran t h m) h) is some

    by : (b : Bool) → ends_in_ran_of h m es ≡ b → legal_inside from h d (if b then lengthened_by m es else es ++ Ran h m ∷ []) ≡ true
    by true ends = legal_inside-lengthened from h d m es ends so_far there above
    by false ends =
        (inside-push from h d es s (Ran h m) so_far is (eq-eqb h h refl) (legal-Ran s h m may (omega arith) goes)).stays
        (subst (λ (t : State). d < frames_at t h) (sym (after-Ran s h m)) some)

pub inside-acts : (from : State) (h d n : ℕ) (es : List Entry) (s : State) → legal_inside from h d es ≡ true → s ≡ state_after from es
    → may_act s h ≡ true → can_run s h n ≡ true → Inside from h d (with_acts h n es) (ran s h n)
inside-acts from h d n es s so_far is may goes =
    let more = runs-acts from h n es s (inside-runs from h d es s so_far is) may goes in
    record { runs = more.runs; reaches = more.reaches; stays = legal_inside-acts from h d n es s so_far is may goes }

pub inside-act : (from : State) (h d : ℕ) (es : List Entry) (s : State) → legal_inside from h d es ≡ true → s ≡ state_after from es
    → may_act s h ≡ true → can_go s h ≡ true → Inside from h d (with_act h es) (next s h)
inside-act from h d es s so_far is may goes = subst (Inside from h d (with_act h es)) (ran-one s h) (inside-acts from h d 1 es s so_far is may (can_run-one s h goes))
