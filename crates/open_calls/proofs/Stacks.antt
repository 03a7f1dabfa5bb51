-- Calls open within calls over a state: closed, an entry more, acts more, and a call opened.
use Rattle.std.proofs.Common.{◌≡◌, ℕ, ◌<◌, ◌≤◌, Bool, true, false, nat_lt, if◌then◌else◌, List, [], ◌∷◌, ◌++◌, drop, length, length-append, take, refl, ap, sym, ◌∙◌, subst, arith}
use Rattle.std.proofs.lemmas.List.{drop-append-le, drop_all, length-take-le, take-append-le, take-take, take_all}
use Rattle.std.proofs.lemmas.Bool.{and_from, eq-eqb}
use Rattle.guest_words.specs.declared.point.PointRef.{PointRef}
use Rattle.guest_words.specs.State.{State, enter, frames_at}
use Rattle.checkpoints.specs.declared.checkpoint.Checkpoint.{Checkpoint}
use Rattle.guest_memory.specs.Kept.{AddressSpace}
use Rattle.guest_memory.specs.Returning.{put_back}
use Rattle.undo_log.specs.declared.note.Note.{Note}
use Rattle.undo_log.specs.Undo.{undone}
use Rattle.undo_log.proofs.Putting.{undone-append, undone_parts}
use Rattle.run_history.specs.declared.entry.Entry.{Entry, Ran, Entered}
use Rattle.run_history.specs.After.{after, ran, state_after}
use Rattle.run_history.specs.LastEntry.{ends_in_ran_of, lengthened_by, with_acts}
use Rattle.run_history.specs.Legal.{can_run, is_of, legal, legal_inside, may_act}
use Rattle.run_history.specs.Run.{is_run}
use Rattle.run_history.proofs.Ands.{if_by}
use Rattle.run_history.proofs.Appends.{is_run-join, is_run-push, legal_inside-join, legal_inside-push, legal_inside-runs, state_after-append, state_after-push}
use Rattle.run_history.proofs.Entries.{after-Entered, after-Ran, legal-Ran}
use Rattle.run_history.proofs.LastEntries.{with_acts-some}
use Rattle.run_history.proofs.Longer.{is_run-lengthened, legal_inside-lengthened, state_after-lengthened}
use Rattle.run_history.proofs.Nested.{legal_inside-entered}
use Rattle.open_calls.specs.Nest.{Level, Nest, closing, flat_from, joined}
use Rattle.open_calls.specs.Stacked.{Fact, IsSpaceOf, Keeps, Stacked}

-- notes that come behind leave those before a mark, and lead back where they lead back to where the
-- others did

record Longer (mark : ℕ) (ns more : List Note) (k m : AddressSpace) : Type 0 where
  marked : mark ≤ length (ns ++ more)
  undoes : undone put_back (drop mark (ns ++ more)) k ≡ m
  before : take mark ns ≡ take mark (ns ++ more)

longer : (mark : ℕ) (ns more : List Note) (n k m : AddressSpace) → mark ≤ length ns → undone put_back (drop mark ns) n ≡ m → undone put_back more k ≡ n → Longer mark ns more k m
longer mark ns more n k m marked undoes leads =
    let long = length-append ns more in
    record {
      marked = omega (arith, marked, long);
      undoes = ap (λ xs. undone put_back xs k) (drop-append-le mark ns more marked)
          ∙ undone-append put_back (drop mark ns) more k ∙ ap (undone put_back (drop mark ns)) leads ∙ undoes;
      before = sym (take-append-le mark ns more marked);
    }

module _ (Back : Fact) (start : State) (h : ℕ) where
  -- the innermost call closes
  pub closes : (o : Level) (os : List Level) (es : List Entry) (ns : List Note) (t : State) (n : AddressSpace)
      → Stacked Back start h (o ∷ os) es ns t n → Stacked Back start h os (joined h o es) ns t n
  closes o [] es ns t n (b, m, is, outer) =
      let e = Entered h o.point in
      let there = ap (λ s. after s e) outer.1 ∙ after-Entered b h o.point in (
        is_run-join start o.entries (e ∷ es) outer.0
            (and_from _ _ (ap (λ s. legal s e) outer.1 ∙ is.enters) (ap (λ s. is_run s es) there ∙ legal_inside-runs (enter b h o.point) h 0 es is.goes)),
        state_after-append start o.entries (e ∷ es) ∙ ap (λ s. state_after s es) there ∙ is.reaches,
      )
  closes o (p ∷ ps) es ns t n (b, m, is, (c, k, outer, rest)) =
      let e = Entered h o.point in
      let there = ap (λ s. after s e) outer.reaches ∙ after-Entered b h o.point in
      let level = is.depth_is in
      let long = length-take-le o.mark ns is.marked in
      let within = is.marked in
      let marked = outer.marked in
      let less : p.mark ≤ o.mark = omega (arith, marked, long) in (
        c,
        k,
        record {
          depth_is = outer.depth_is;
          enters = outer.enters;
          goes =
              legal_inside-join (enter c h p.point) h (length ps) o.entries (e ∷ es) outer.goes
              (ap (λ s. legal_inside s h (length ps) (e ∷ es)) outer.reaches
              ∙ legal_inside-entered b h (length ps) o.point es (omega (arith, level)) is.enters (ap (λ d. legal_inside (enter b h o.point) h d es) level ∙ is.goes));
          reaches = state_after-append (enter c h p.point) o.entries (e ∷ es) ∙ ap (λ s. state_after s es) there ∙ is.reaches;
          keeps = outer.keeps;
          marked = omega (arith, less, within);
          undoes = undone_parts put_back p.mark o.mark ns n less within ∙ ap (undone put_back (drop p.mark (take o.mark ns))) is.undoes ∙ outer.undoes;
          space = outer.space;
          back = outer.back;
        },
        subst (λ xs. Stacked Back start h ps p.entries xs c k) (take-take p.mark o.mark ns less) rest,
      )

  abbrev pub StackedNest : Nest → List Note → State → AddressSpace → Type 0
  StackedNest x ns t n = Stacked Back start h x.outers x.entries ns t n

  -- so many close
  pub closes_to : (keep : ℕ) (os : List Level) (es : List Entry) (ns : List Note) (t : State) (n : AddressSpace)
      → Stacked Back start h os es ns t n → StackedNest (closing h keep os es) ns t n
  closes_to keep [] es ns t n is = is
  closes_to keep (o ∷ os) es ns t n is = by (nat_lt (length os) keep) (closes_to keep os (joined h o es) ns t n (closes o os es ns t n is))
    where
      by : (b : Bool) → StackedNest (closing h keep os (joined h o es)) ns t n
          → StackedNest (if b then record { outers = o ∷ os; entries = es } else closing h keep os (joined h o es)) ns t n
      by true further = is
      by false further = further

  -- the whole history is a run that gives the state
  pub flat_run : (os : List Level) (es : List Entry) (ns : List Note) (t : State) (n : AddressSpace) → Stacked Back start h os es ns t n
      → (is_run start (flat_from h os es) ≡ true) × (state_after start (flat_from h os es) ≡ t)
  flat_run [] es ns t n is = is
  flat_run (o ∷ os) es ns t n is = flat_run os (joined h o es) ns t n (closes o os es ns t n is)

  -- an entry more
  pub pushes : (os : List Level) (es : List Entry) (ns more : List Note) (e : Entry) (t : State) (n k : AddressSpace)
      → Stacked Back start h os es ns t n → is_of h e ≡ true → legal t e ≡ true → length os ≤ frames_at (after t e) h
      → (0 < length os → undone put_back more k ≡ n) → Stacked Back start h os (es ++ e ∷ []) (ns ++ more) (after t e) k
  pushes [] es ns more e t n k is own ok deep undoes = (
    is_run-push start es e is.0 (ap (λ s. legal s e) is.1 ∙ ok),
    state_after-push start es e ∙ ap (λ s. after s e) is.1,
  )
  pushes (o ∷ os) es ns more e t n k (b, m, is, rest) own ok deep undoes =
      let l = ap (λ (s : State). frames_at (after s e) h) is.reaches in
      let on = longer o.mark ns more n k m is.marked is.undoes (undoes (omega arith)) in (
        b,
        m,
        record {
          depth_is = is.depth_is;
          enters = is.enters;
          goes = legal_inside-push (enter b h o.point) h (length os) es e is.goes own (ap (λ s. legal s e) is.reaches ∙ ok) (omega (arith, deep, l));
          reaches = state_after-push (enter b h o.point) es e ∙ ap (λ s. after s e) is.reaches;
          keeps = is.keeps;
          marked = on.marked;
          undoes = on.undoes;
          space = is.space;
          back = is.back;
        },
        subst (λ xs. Stacked Back start h os o.entries xs b m) on.before rest,
      )

  -- the last Ran grows
  grown : (os : List Level) (count : ℕ) (es : List Entry) (ns more : List Note) (t : State) (n k : AddressSpace)
      → Stacked Back start h os es ns t n → ends_in_ran_of h count es ≡ true → can_run t h count ≡ true → length os ≤ frames_at (ran t h count) h
      → (0 < length os → undone put_back more k ≡ n) → Stacked Back start h os (lengthened_by count es) (ns ++ more) (ran t h count) k
  grown [] count es ns more t n k is ends goes deep undoes =
      let here = ap (λ s. can_run s h count) is.1 ∙ goes in (
        is_run-lengthened start h count es ends is.0 here,
        state_after-lengthened start h count es ends is.0 here ∙ ap (λ s. ran s h count) is.1,
      )
  grown (o ∷ os) count es ns more t n k (b, m, is, rest) ends goes deep undoes =
      let from = enter b h o.point in
      let here = ap (λ s. can_run s h count) is.reaches ∙ goes in
      let l = ap (λ (s : State). frames_at (ran s h count) h) is.reaches in
      let on = longer o.mark ns more n k m is.marked is.undoes (undoes (omega arith)) in (
        b,
        m,
        record {
          depth_is = is.depth_is;
          enters = is.enters;
          goes = legal_inside-lengthened from h (length os) count es ends is.goes here (omega (arith, deep, l));
          reaches =
              state_after-lengthened from h count es ends (legal_inside-runs from h (length os) es is.goes) here
              ∙ ap (λ s. ran s h count) is.reaches;
          keeps = is.keeps;
          marked = on.marked;
          undoes = on.undoes;
          space = is.space;
          back = is.back;
        },
        subst (λ xs. Stacked Back start h os o.entries xs b m) on.before rest,
      )

  -- so many ordinary acts more
  pub acts : (os : List Level) (count : ℕ) (es : List Entry) (ns more : List Note) (t : State) (n k : AddressSpace)
      → Stacked Back start h os es ns t n → 0 < count → may_act t h ≡ true → can_run t h count ≡ true → length os ≤ frames_at (ran t h count) h
      → (0 < length os → undone put_back more k ≡ n) → Stacked Back start h os (with_acts h count es) (ns ++ more) (ran t h count) k
  acts os count es ns more t n k is some may goes deep undoes =
      let e = Ran h count in
      let to = after-Ran t h count in
      subst (λ fs. Stacked Back start h os fs (ns ++ more) (ran t h count) k) (sym (with_acts-some h count es some))
      (if_by (λ (fs : List Entry). Stacked Back start h os fs (ns ++ more) (ran t h count) k) (ends_in_ran_of h count es) _ _
      (λ ends. grown os count es ns more t n k is ends goes deep undoes)
      (λ other. subst (λ s. Stacked Back start h os (es ++ e ∷ []) (ns ++ more) s k) to
      (pushes os es ns more e t n k is (eq-eqb h h refl) (legal-Ran t h count may some goes) (subst (λ (s : State). length os ≤ frames_at s h) (sym to) deep) undoes)))

  -- a call opens, with all notes before its mark
  pub opens : (os : List Level) (es : List Entry) (ns : List Note) (p : PointRef) (kept : Checkpoint) (mark : ℕ) (t : State) (n : AddressSpace)
      → Stacked Back start h os es ns t n → mark ≡ length ns → frames_at t h ≡ length os → legal t (Entered h p) ≡ true → Keeps kept t → IsSpaceOf n t → Back kept n t.steps
      → Stacked Back start h (record { entries = es; mark = mark; point = p; kept = kept } ∷ os) [] ns (enter t h p) n
  opens os es ns p kept mark t n is all level ok keeps space back = (
    t,
    n,
    record {
      depth_is = level;
      enters = ok;
      goes = refl;
      reaches = refl;
      keeps = keeps;
      marked = omega (arith, all);
      undoes = ap (λ xs. undone put_back xs n) (drop_all mark ns (omega (arith, all)));
      space = space;
      back = back;
    },
    subst (λ xs. Stacked Back start h os es xs t n) (sym (take_all mark ns (omega (arith, all)))) is,
  )
