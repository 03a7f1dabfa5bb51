use Rattle.std.proofs.Common.{◌+◌, ap, sym, ◌∙◌, subst, arith}
use Rattle.guest_words.specs.declared.hart.Hart.{Hart}
use Rattle.guest_words.specs.State.{State, on_hart}
use Rattle.run_history.specs.After.{ran}
use Rattle.run_history.specs.Legal.{can_run}
use Rattle.hart_step.specs.contracts.engine.Engine.{the_view}
use Rattle.hart_step.specs.Live.{Live}
use Rattle.hart_step.specs.Stretches.{IsStretch}
use Rattle.hart_step.proofs.Engines.{engine_slots}
use Rattle.hart_step.proofs.Stretching.{stretched_by, Stretched}
use Rattle.hart_step.proofs.Waiting.{stays_ready}
use Rattle.hart_step.proofs.engine.Engine.stretch.Goals as goal

module _ (c : goal.After-self-1) where
  abbrev before : State
  before = (the_view c.self.inside).state

  abbrev done : Stretched before c.args.hart c.args.after c.args.count
  done =
      let stretch = subst (λ (l : Live). (base : Hart) × IsStretch l.state c.args.hart base c.args.after c.args.count) (sym c.self.view_is) c.requires.stretch in
      stretched_by before c.args.hart stretch.0 c.args.after c.args.count c.self.invariant.within c.requires.some stretch.1

pub returns-clause-state : goal.returns-clause-state
returns-clause-state c =
    (λ i. record (before c) { slots = c.put.ensures.value i; steps = (before c).steps + c.from.ensures i }) ∙ sym (done c).is
    ∙ ap (λ (l : Live). ran l.state c.args.hart c.args.count) c.self.view_is

pub returns-clause-goes : goal.returns-clause-goes
returns-clause-goes c = ap (λ (l : Live). can_run l.state c.args.hart c.args.count) (sym c.self.view_is) ∙ (done c).goes

pub invariant_of-self : goal.invariant_of-self
invariant_of-self c =
    let old = engine_slots _ _ c.self.invariant c.put.ensures.value (stays_ready (on_hart (λ before. c.args.after)) c.args.hart c.self.inside.slots (done c).ready) in
    let tid = old.tid in
    let count = c.from.ensures in
    let within = (done c).within in
    record {
      heap = old.heap;
      waits = old.waits;
      tid = omega (arith, tid, count);
      within = omega (arith, within, count);
      most = old.most;
      sum = old.sum;
      shut = old.shut;
    }
