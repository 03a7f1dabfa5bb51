use Rattle.std.proofs.Common.{sym, subst, IfOk}
use Rattle.hart_step.specs.Live.{Live, Waits, space_of}
use Rattle.hart_step.specs.Returns.{CanReturn}
use Rattle.hart_step.proofs.Kept.{can_return_if}
use Rattle.hart_step.proofs.engine.Engine.checkpoint.Goals as goal

pub returns-clause-returns : goal.returns-clause-returns
returns-clause-returns c =
    let e = c.self.inside in
    let kept = c.self.invariant in
    subst (λ (live : Live). IfOk c.of.result (λ kept. CanReturn kept (space_of live) live.state.steps)) c.self.view_is
    (can_return_if e.guest.memory e.steps c.harts.result.now e.queue e.next_tid c.of.result c.of.ensures.harts c.of.ensures.queue c.of.ensures.next_tid
    kept.heap (subst (Waits e.queue) (sym c.harts.ensures.value) kept.waits) kept.tid)
