use Rattle.std.proofs.Common.{◌≡◌, ◌∙◌, List, sym, ap}
use Rattle.guest_words.specs.declared.hart.Slot.{Slot}
use Rattle.guest_words.specs.Harts.{unreserved}
use Rattle.guest_words.specs.State.{enter, on_each}
use Rattle.hart_step.specs.contracts.engine.Engine.{the_view}
use Rattle.hart_step.specs.Live.{Live}
use Rattle.hart_step.proofs.HartStates.{states, states-opened, states-unreserved, waits-states}
use Rattle.hart_step.proofs.engine.Engine.enter.Goals as goal

pub invariant_of-self-2 : goal.invariant_of-self-2
invariant_of-self-2 c =
    let e = c.self.inside in
    let kept = c.self.invariant in
    let same : states c.unreserve.new.self ≡ states e.slots =
    ap states c.unreserve.ensures.value ∙ states-unreserved c.open.new.self ∙ ap states c.in_ok-open.ensures.ok ∙ states-opened c.args.point c.args.hart e.slots in
    record {
      heap = kept.heap;
      waits = waits-states e.queue e.slots c.unreserve.new.self (sym same) kept.waits;
      tid = kept.tid;
      within = kept.within;
      most = kept.most;
      sum = kept.sum;
      shut = kept.shut;
    }

pub returns-clause-ok : goal.returns-clause-ok
unfolding enter
returns-clause-ok c =
    let live : Live = the_view c.self.inside in
    let slots = c.unreserve.ensures.value ∙ ap (on_each unreserved) c.in_ok-open.ensures.ok in
    ap (λ (xs : List Slot). record live { state = record live.state { slots = xs } }) slots
    ∙ ap (λ (l : Live). record l { state = enter l.state c.args.hart c.args.point }) c.self.view_is
