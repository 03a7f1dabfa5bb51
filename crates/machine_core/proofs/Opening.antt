-- A call that opens: what is kept, and where it leads.
use Rattle.std.proofs.Common.{◌≡◌, ℕ, ◌<◌, true, false, List, [], ◌∷◌, ◌++◌, length, refl, ap, sym, ◌∙◌, subst, arith}
use Rattle.guest_words.specs.declared.point.PointRef.{PointRef}
use Rattle.guest_words.specs.Act.{Arrival, act_of}
use Rattle.guest_words.specs.Endings.{is_budget_spent}
use Rattle.guest_words.specs.State.{State, enter, frames_at}
use Rattle.checkpoints.specs.declared.checkpoint.Checkpoint.{Checkpoint}
use Rattle.edge_ports.specs.Seen.{Seen}
use Rattle.guest_memory.specs.Kept.{AddressSpace}
use Rattle.undo_log.specs.declared.note.Note.{Note}
use Rattle.undo_log.specs.Noted.{Noted}
use Rattle.undo_log.specs.Undo.{gone_in}
use Rattle.run_history.specs.declared.entry.Entry.{Entered}
use Rattle.run_history.specs.After.{after}
use Rattle.run_history.specs.Ahead.{ahead}
use Rattle.run_history.specs.Legal.{legal}
use Rattle.run_history.specs.Under.{IsUnder}
use Rattle.run_history.proofs.Ahead.{ahead_entered}
use Rattle.run_history.proofs.Entries.{after-Entered, legal-arrival}
use Rattle.run_history.proofs.Nested.{frames-Entered}
use Rattle.run_history.proofs.Under.{entered_under, may_under}
use Rattle.hart_step.specs.Live.{Live, space_of}
use Rattle.hart_step.specs.Returns.{CanReturn}
use Rattle.open_calls.specs.Nest.{Nest, flat, lowest, opened}
use Rattle.open_calls.specs.Stacked.{Keeps, Stacked}
use Rattle.open_calls.proofs.Nests.{flat_push}
use Rattle.open_calls.proofs.Stacks.{opens}
use Rattle.machine_core.specs.Inner.{Holds, Inner, IsGoing, IsUnderSame, whole_in}
use Rattle.machine_core.specs.OpenSteps.{EntersAt}

-- entering leaves memory as it is
space_entered : (l : Live) (h : ℕ) (p : PointRef) → space_of (record l { state = enter l.state h p }) ≡ space_of l
unfolding enter
space_entered l h p = refl

pub entered_records : (s : State) (h : ℕ) (p : PointRef) → (enter s h p).records ≡ s.records
unfolding enter
entered_records s h p = refl

module _ (start : State) (told : Seen) (w v : Inner) (p q : Noted) (k : Holds start told w p) (g : IsGoing w) (fresh : is_budget_spent w.live.state ≡ false)
    (point : PointRef) (kept : Checkpoint) (mark : ℕ) (arrives : act_of w.live.state w.hart ≡ Arrival point)
    (live : v.live ≡ record w.live { state = enter w.live.state w.hart point }) (nest : v.nest ≡ opened point kept mark w.nest) (hart : v.hart ≡ w.hart) (same : v.abandoned ≡ w.abandoned) where
  ok : legal w.live.state (Entered w.hart point) ≡ true
  ok = legal-arrival w.live.state w.hart point (may_under w.live.state w.hart g.under fresh) arrives

  space : space_of v.live ≡ space_of w.live
  space = ap space_of live ∙ space_entered w.live w.hart point

  pub enters_hold : Keeps kept w.live.state → CanReturn kept (space_of w.live) w.live.state.steps → mark ≡ length p.notes → q.notes ≡ p.notes → Holds start told v q
  enters_hold keeps back all same_notes =
      let s = w.live.state in
      let n = w.nest in
      let stacked = opens CanReturn start w.hart n.outers n.entries p.notes point kept mark s (space_of w.live) k.stacked all g.framed ok keeps (record { space = refl; low = refl; brk = refl }) back in
      let one = frames-Entered s w.hart point ok in
      let level = g.framed in
      let before = k.gone in
      let gone = ap gone_in same_notes in
      let spare = ap (λ l. l.spare) live in
      let depth = ap (λ (m : Nest). length m.outers) nest in
      let frames : frames_at v.live.state v.hart ≡ frames_at (enter s w.hart point) w.hart = λ i. frames_at (live i).state (hart i) in
      record {
        starts = k.starts;
        stacked = subst (λ (y : ℕ × Nest × List Note × State × AddressSpace). Stacked CanReturn start y.0 y.1.outers y.1.entries y.2 y.3 y.4) (λ i. (sym hart i, sym nest i, sym same_notes i, (sym live i).state, sym space i)) stacked;
        gone = omega (arith, before, gone, spare);
        calm = λ outers going left. let empty = ap length outers in absurd (omega (arith, empty, depth));
        called = λ some. record {
          under = subst (λ (y : State × ℕ). IsUnder y.0 y.1) (λ i. ((sym live i).state, sym hart i)) (entered_under s w.hart g.under point);
          framed = omega (arith, frames, one, level, depth);
          kept = same ∙ g.kept;
        };
      }

  pub enters : (d : Seen) → EntersAt w.hart point (whole_in w d) (whole_in v d)
  enters d = record {
    legal = ok;
    same =
        let history : flat v.hart v.nest ≡ flat w.hart w.nest ++ Entered w.hart point ∷ [] =
        (λ i. flat (hart i) (nest i)) ∙ flat_push w.hart w.nest.outers w.nest.entries (Entered w.hart point ∷ []) in
        let state : v.live.state ≡ after w.live.state (Entered w.hart point) = ap (λ l. l.state) live ∙ sym (after-Entered w.live.state w.hart point) in
        λ i. record { history = history i; state = state i; devices = d; abandoned = same i };
  }

  pub enters_under : IsUnderSame w v
  enters_under = record { hart = hart; outermost = λ some. ap (λ (n : Nest). lowest n) nest }

  pub enters_nearer : ahead v.live.state w.hart < ahead w.live.state w.hart
  enters_nearer =
      subst (λ (t : State). ahead t w.hart < ahead w.live.state w.hart) (after-Entered w.live.state w.hart point ∙ sym (ap (λ l. l.state) live))
      (ahead_entered w.live.state w.hart point ok)
