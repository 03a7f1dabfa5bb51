use Rattle.std.proofs.Common.{◌≡◌, ℕ, drop, take, sym, ap, ◌∙◌, subst, arith}
use Rattle.guest_memory.specs.Kept.{AddressSpace}
use Rattle.guest_memory.specs.Returning.{put_back}
use Rattle.undo_log.specs.Undo.{undone}
use Rattle.hart_step.specs.Live.{space_of}
use Rattle.hart_step.specs.Returns.{CanReturn}
use Rattle.open_calls.specs.Nest.{mark_in}
use Rattle.open_calls.proofs.Thins.{thins}
use Rattle.machine_core.specs.Inner.{Inner}
use Rattle.machine_core.proofs.inner.Inner.thin_from.Goals as goal

pub invariant_of-self : goal.invariant_of-self
invariant_of-self g c =
    let had = c.self.invariant in
    let live = c.self.inside.engine in
    let calls = c.self.inside.calls in
    let old = c.self.inside.log.notes in
    let new = c.thin.new.log.notes in
    let at : c.args.mark ≡ mark_in calls.nest = c.requires.mark ∙ sym (ap (λ (w : Inner). mark_in w.nest) c.self.view_is) in
    let Older : ℕ → Type 0 = λ mark. take mark new ≡ take mark old in
    let Same : ℕ → Type 0 = λ mark. (memory : AddressSpace) → undone put_back (drop mark new) memory ≡ undone put_back (drop mark old) memory in
    let pages = c.thin.ensures.pages in
    let room = had.gone in
    record {
      starts = had.starts;
      stacked =
          thins CanReturn g.K.Origin.state calls.hart calls.nest.outers calls.nest.entries old new live.state (space_of live)
          (subst Older at c.thin.ensures.older) (subst Same at c.thin.ensures.same) had.stacked;
      gone = omega (arith, pages, room);
      calm = had.calm;
      called = λ some. let going = had.called some in record { under = going.under; framed = going.framed; kept = going.kept };
    }
