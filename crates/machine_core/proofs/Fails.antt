-- A fault: the innermost call is taken back.
use Rattle.std.proofs.Common.{◌≡◌, ℕ, ◌+◌, ◌<◌, ◌≤◌, true, false, List, [], ◌∷◌, ◌++◌, drop, length, take, Some, refl, ap, sym, ◌∙◌, subst, arith, eq-eqb}
use Rattle.std.proofs.lemmas.Bool.{and_from}
use Rattle.std.proofs.lemmas.List.{append_assoc, append-nil}
use Rattle.guest_words.specs.declared.fault.Fault.{Fault as FaultAt}
use Rattle.guest_words.specs.declared.point.PointRef.{PointRef}
use Rattle.guest_words.specs.Endings.{is_budget_spent}
use Rattle.guest_words.specs.State.{State, frames_at}
use Rattle.edge_ports.specs.Seen.{Seen}
use Rattle.guest_memory.specs.Kept.{AddressSpace}
use Rattle.guest_memory.specs.Returning.{put_back}
use Rattle.undo_log.specs.Noted.{Noted}
use Rattle.undo_log.specs.Undo.{undone, gone_in}
use Rattle.undo_log.proofs.Putting.{gone_in_parts}
use Rattle.run_history.specs.declared.entry.Entry.{Entry, Entered}
use Rattle.run_history.specs.declared.entry.Entry.TheViews as entry
use Rattle.run_history.specs.After.{after, rescued_from}
use Rattle.run_history.specs.Ahead.{ahead}
use Rattle.run_history.specs.Faults.{fault_of}
use Rattle.run_history.specs.Legal.{is_alone}
use Rattle.run_history.specs.Run.{is_run}
use Rattle.run_history.specs.Under.{IsUnder}
use Rattle.run_history.proofs.Ahead.{ahead_rescued}
use Rattle.run_history.proofs.Faulting.{faulting, faulting_faults}
use Rattle.run_history.proofs.FewerFrames.{rescued_fewer}
use Rattle.run_history.proofs.Insides.{is_of-Rescued}
use Rattle.run_history.proofs.Kept.{Rest, rescued_keeps}
use Rattle.run_history.proofs.Quietness.{alone_quiet, alone_rescued}
use Rattle.run_history.proofs.Staying.{state_after_stays}
use Rattle.run_history.proofs.StepsAfter.{more_steps_run}
use Rattle.run_history.proofs.Under.{is_under, rescued_under}
use Rattle.hart_step.specs.Live.{space_of}
use Rattle.hart_step.specs.Returns.{CanReturn}
use Rattle.open_calls.specs.Nest.{Level, flat, flat_from, lowest_from}
use Rattle.open_calls.specs.Stacked.{Stacked, brought_back}
use Rattle.open_calls.proofs.Rescues.{IsTaken, flat_open, legal_erased, taken}
use Rattle.open_calls.proofs.Stacks.{flat_run}
use Rattle.machine_core.specs.Inner.{Holds, Inner, IsGoing, IsUnderSame, opened_in, whole_in}
use Rattle.machine_core.specs.OpenSteps.{Erases}
use Rattle.machine_core.proofs.Gone.{undone_spare}
use Rattle.machine_core.proofs.Holding.{Puts, adds_entry, puts, puts_fewer, puts_push, puts_under, run_so_far}

-- the entries before the outermost call are the first of those before an inner one
since : (h : ℕ) (os : List Level) (es : List Entry) → (more : List Entry) × (flat_from h os es ≡ lowest_from os es ++ more)
since h [] es = ([], sym (append-nil es))
since h (o ∷ os) es =
    let outer = since h os o.entries in (
      outer.0 ++ Entered h o.point ∷ es,
      flat_open h o os es ∙ ap (λ xs. xs ++ Entered h o.point ∷ es) outer.1 ∙ append_assoc (lowest_from os o.entries) outer.0 (Entered h o.point ∷ es),
    )

rescued_steps : (s : State) (h : ℕ) (p : PointRef) (f : FaultAt) (t : State) → (rescued_from s h p f t).steps ≡ t.steps
unfolding rescued_from
rescued_steps s h p f t = refl

abbrev with_spare : State → ℕ → AddressSpace
with_spare s n = record { space = s.memory; low = s.low; brk = s.brk; spare = n }

space_rescued : (s : State) (h : ℕ) (p : PointRef) (f : FaultAt) (t : State) (n : ℕ) → with_spare (rescued_from s h p f t) n ≡ with_spare s n
unfolding rescued_from
space_rescued s h p f t n = refl

module _ (start : State) (told : Seen) (w v : Inner) (p q : Noted) (k : Holds start told w p) (g : IsGoing w) (fresh : is_budget_spent w.live.state ≡ false)
    (fault : FaultAt) (due : fault_of w.live.state w.hart ≡ Some fault) (o : Level) (os : List Level) (innermost : w.nest.outers ≡ o ∷ os) where
  abbrev e : Entry
  e = entry.Rescued w.hart o.point fault w.nest.entries

  abbrev pub is : IsTaken CanReturn start w.hart o os w.nest.entries p.notes fault w.live.state (space_of w.live)
  is =
      taken CanReturn start w.hart o os w.nest.entries p.notes fault w.live.state (space_of w.live)
      (subst (λ ls. Stacked CanReturn start w.hart ls w.nest.entries p.notes w.live.state (space_of w.live)) innermost k.stacked)
      (g.framed ∙ ap length innermost) g.under.alone fresh (faulting_faults w.live.state w.hart fault (faulting w.live.state w.hart fault due))

  later : is.b.steps ≤ w.live.state.steps
  later =
      let run : is_run is.b (e ∷ []) ≡ true = and_from _ true is.legal refl in
      let more = more_steps_run is.b (e ∷ []) run in
      let to = ap (λ (s : State). s.steps) is.after in
      let same = rescued_steps is.b w.hart o.point fault w.live.state in
      omega (arith, more, to, same)

  -- what the executable state asks for

  pub kept_count : length o.kept.harts ≡ length w.live.state.slots
  kept_count = is.count

  pub can_return : CanReturn o.kept (undone put_back (drop o.mark p.notes) (space_of w.live)) w.live.state.steps
  can_return =
      let tid = is.back.tid in
      let more = later in
      subst (λ m. CanReturn o.kept m w.live.state.steps) (sym is.undoes) (record { heap = is.back.heap; waits = is.back.waits; tid = omega (arith, tid, more) })

  -- the parts where the call was entered
  abbrev pub before : Inner
  before = record { hart = w.hart; nest = record { outers = os; entries = o.entries }; notes = take o.mark p.notes; live = record { state = is.b; spare = is.m.spare }; abandoned = w.abandoned }

  -- and the log with the notes of then
  abbrev pub left_log : Noted
  left_log = record { notes = take o.mark p.notes; spare = 0 }

  -- the pages that come back have room
  pub gone_room : gone_in (drop o.mark p.notes) ≤ w.live.spare
  gone_room =
      let gone = k.gone in
      let parts = gone_in_parts o.mark p.notes in
      omega (arith, gone, parts)

  there : is.m ≡ space_of before.live
  there = λ i. record { space = is.space.space i; low = is.space.low i; brk = is.space.brk i; spare = is.m.spare }

  going : IsGoing before
  going = record { under = is_under is.b w.hart is.may; framed = is.level; kept = g.kept }

  held : Holds start told before left_log
  held =
      let gone = k.gone in
      let left = undone_spare (drop o.mark p.notes) (space_of w.live) in
      let same = ap (λ (m : AddressSpace). m.spare) is.undoes in
      let parts = gone_in_parts o.mark p.notes in
      record {
        starts = k.starts;
        stacked = subst (λ m. Stacked CanReturn start w.hart os o.entries (take o.mark p.notes) is.b m) there is.outer;
        gone = omega (arith, gone, left, same, parts);
        calm = λ outers goes kept. let empty : length os ≡ 0 = ap length outers in let level = is.level in
            alone_quiet is.b w.hart going.under.alone (omega (arith, empty, level));
        called = λ some. going;
      }

  -- the state is the one that the entry gives

  module _ (live : v.live.state ≡ rescued_from (brought_back w.live.state w.hart o.kept (undone put_back (drop o.mark p.notes) (space_of w.live))) w.hart o.point fault w.live.state)
      (spare : v.live.spare ≡ (undone put_back (drop o.mark p.notes) (space_of w.live)).spare) where
    pub to_rescued : v.live.state ≡ rescued_from is.b w.hart o.point fault w.live.state
    to_rescued = live ∙ is.brought

    to : v.live.state ≡ after is.b e
    to = to_rescued ∙ sym is.after

    pub back_spare : v.live.spare ≡ before.live.spare + gone_in []
    back_spare = let same = ap (λ (m : AddressSpace). m.spare) is.undoes in let zero : gone_in [] ≡ 0 = refl in omega (arith, same, zero, spare)

    pub back_space : space_of v.live ≡ space_of before.live
    back_space =
        let left = spare ∙ ap (λ (m : AddressSpace). m.spare) is.undoes in
        (λ i. with_spare (to_rescued i) (left i))
        ∙ space_rescued is.b w.hart o.point fault w.live.state is.m.spare

    module _ (x : Puts (λ es. es ++ e ∷ []) before v left_log q) where
      pub fails_hold : Holds start told v q
      fails_hold =
          let s = is.b in
          puts start told before v left_log q (λ es. es ++ e ∷ []) (after s e) held going to
          (subst (λ (t : State). frames_at t w.hart ≤ frames_at s w.hart) (sym is.after) (rescued_fewer s w.hart o.point fault w.live.state w.hart))
          (λ some. subst (λ t. IsUnder t w.hart) (sym is.after) (rescued_under s w.hart going.under o.point fault w.live.state))
          (ap (λ t. is_alone t w.hart) is.after ∙ alone_rescued s w.hart w.hart o.point fault w.live.state going.under.alone)
          (adds_entry start w.hart e s (space_of before.live) (space_of v.live) (is_of-Rescued w.hart w.hart o.point fault w.nest.entries ∙ eq-eqb w.hart w.hart refl) is.legal) x

      pub fails_under : IsUnderSame w v
      fails_under =
          let same = puts_under (λ es. es ++ e ∷ []) before v left_log q x in
          record { hart = same.hart; outermost = λ some. same.outermost some ∙ sym (ap (λ ls. lowest_from ls w.nest.entries) innermost) }

      pub fails_fewer : length v.nest.outers ≤ length w.nest.outers
      fails_fewer =
          let less = puts_fewer (λ es. es ++ e ∷ []) before v left_log q x in
          let one = ap length innermost in
          omega (arith, less, one)

      pub erases : (d : Seen) → Erases start fault (opened_in w d) (whole_in v d)
      erases d =
          let first = flat_from w.hart os o.entries in
          let run = flat_run CanReturn start w.hart os o.entries (take o.mark p.notes) is.b is.m is.outer in
          let more = since w.hart os o.entries in
          record {
            outer = o;
            further = os;
            innermost = innermost;
            before = first;
            encloses = refl;
            was = ap (λ ls. flat_from w.hart ls w.nest.entries) innermost ∙ flat_open w.hart o os w.nest.entries;
            since = more.0;
            follows = more.1 ∙ sym (ap (λ ls. lowest_from ls w.nest.entries ++ more.0) innermost);
            legal = legal_erased CanReturn start w.hart o os w.nest.entries p.notes fault w.live.state (space_of w.live) is;
            same = λ i. record {
              history = puts_push (e ∷ []) before v left_log q x i;
              state = (to ∙ ap (λ s. after s e) (sym run.1)) i;
              devices = d;
              abandoned = (x.kept ∙ g.kept) i;
            };
          }

    pub fails_records : v.live.state.records ≡ w.live.state.records
    fails_records = ap (λ (s : State). s.records) to_rescued ∙ ap (λ (r : Rest). r.records) (rescued_keeps is.b w.hart o.point fault w.live.state)

    pub fails_nearer : ahead v.live.state w.hart < ahead w.live.state w.hart
    fails_nearer =
        let level = is.level in
        let deep = g.framed in
        let one = ap length innermost in
        let run = flat_run CanReturn start w.hart os o.entries (take o.mark p.notes) is.b is.m is.outer in
        let whole = run_so_far start told w p k in
        let b : is.b.budget ≡ start.budget = ap (λ (s : State). s.budget) (sym run.1) ∙ (state_after_stays start (flat_from w.hart os o.entries)).budget in
        let t : w.live.state.budget ≡ start.budget = ap (λ (s : State). s.budget) (sym whole.1) ∙ (state_after_stays start (flat w.hart w.nest)).budget in
        subst (λ (s : State). ahead s w.hart < ahead w.live.state w.hart) (sym to_rescued)
        (ahead_rescued is.b w.hart o.point fault w.live.state (b ∙ sym t) (omega (arith, level, deep, one)))
