use Rattle.std.proofs.Common.{◌≡◌, ◌<◌, refl, ap, sym, ◌∙◌, subst, arith}
use Rattle.guest_words.specs.State.{State}
use Rattle.hart_slots.specs.Rejoined.{hart_of}
use Rattle.guest_atomics.specs.Free.{IsFreeBut}
use Rattle.guest_words.specs.Endings.{is_budget_spent}
use Rattle.run_history.specs.Legal.{is_ready_at}
use Rattle.std.specs.Prelude.{map}
use Rattle.guest_words.specs.State.{frames_at}
use Rattle.hart_step.specs.Legs.{IsLeg}
use Rattle.hart_step.specs.Live.{Live}
use Rattle.hart_step.specs.declared.engine.Engine.TheInside.{Inside}
use Rattle.hart_step.proofs.Engines.{left_steps}
use Rattle.hart_step.proofs.Hurried.{hurried, after_row, Hurried}
use Rattle.hart_step.proofs.engine.Engine.hurry.Goals as goal

module _ (c : goal.After-self-1) where
  abbrev inside : Inside
  inside = c.self.inside

  abbrev before : Live
  before = record {
    state = record {
      memory = inside.guest.memory.space;
      low = inside.guest.memory.low;
      brk = inside.guest.memory.brk;
      slots = inside.slots;
      waiting = inside.queue;
      next_tid = inside.next_tid;
      records = inside.records.records;
      steps = inside.steps;
      ending = inside.ending;
      points = inside.guest.points;
      ports = inside.ports;
      budget = inside.budget;
    };
    spare = inside.guest.memory.spare;
  }

  abbrev is : before ≡ c.args.self.now
  is = c.self.view_is

  abbrev new : State
  new =
      after_row before.state c.args.hart c.in_row-ran.result.count inside.guest.memory c.in_row-ran.new.guest.memory c.in_row-ran.new.slots c.close_where.new.slots
      c.in_row-ran.new.guest.points c.from-2.result

  abbrev done :
      Hurried c.args.noted before.state c.args.hart c.in_row-ran.result.count c.min-most.result c.in_row-ran.result.closed c.in_row-ran.result.did inside.guest.memory c.in_row-ran.new.guest.memory new
  done =
      let few = c.in_row-ran.ensures.within in
      let least = c.min-most.ensures in
      let within = c.self.invariant.within in
      hurried before.state c.args.hart c.in_row-ran.result.count inside.guest.memory c.in_row-ran.new.guest.memory c.in_row-ran.new.slots c.args.noted c.in_row-ran.result.closed c.in_row-ran.result.did c.close_where.new.slots
      c.in_row-ran.new.guest.points c.from-2.result c.min-most.result refl refl refl
      (ap (λ (l : Live). is_ready_at l.state c.args.hart) is ∙ c.requires.ready)
      (ap (λ (l : Live). is_budget_spent l.state) is ∙ c.requires.left)
      (subst (λ (l : Live). IsFreeBut c.args.hart (map hart_of l.state.slots)) (sym is) c.requires.free)
      (omega (arith, few, least, within)) c.in_row-ran.ensures.row c.close_where.ensures.value c.in_row-ran.ensures.points c.from-2.ensures

pub invariant_of-self : goal.invariant_of-self
invariant_of-self c =
    let old = c.self.invariant in
    let few = c.in_row-ran.ensures.within in
    let least = c.min-most.ensures in
    let within = old.within in
    let count = c.from-2.ensures in
    let tid = old.tid in
    record {
      heap = (done c).heap old.heap;
      waits = (done c).waits old.waits;
      tid = omega (arith, tid, count);
      within = omega (arith, few, least, within, count);
      most = old.most;
      sum = old.sum;
      shut = old.shut;
    }

pub returns-clause-leg : goal.returns-clause-leg
returns-clause-leg c = subst (λ (l : Live). IsLeg c.args.noted l.state (new c) c.args.hart c.in_row-ran.result.count) (is c) (done c).leg

pub returns-clause-stays : goal.returns-clause-stays
returns-clause-stays c = λ stays. (done c).stays stays ∙ ap (λ (l : Live). frames_at l.state c.args.hart) (is c)

pub returns-clause-closed : goal.returns-clause-closed
returns-clause-closed c = λ over. subst (λ (l : Live). frames_at (new c) c.args.hart < frames_at l.state c.args.hart) (is c) ((done c).over over)

pub returns-clause-stops : goal.returns-clause-stops
returns-clause-stops c = λ stays fewer left.
    let few = c.in_row-ran.ensures.within in
    let least = c.min-most.ensures in
    let within = c.self.invariant.within in
    let count = c.from-2.ensures in
    let more = left_steps (new c) (omega (arith, few, least, within, count)) left in
    (done c).stops stays (omega (arith, few, least, within, count, more, fewer))
