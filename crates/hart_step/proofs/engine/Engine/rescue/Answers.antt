use Rattle.std.proofs.Common.{◌≡◌, ◌<◌, ◌+◌, ◌∙◌, ℕ, List, Some, slice_get, sym, ap, subst, arith}
use Rattle.guest_words.specs.declared.hart.Slot.{Slot}
use Rattle.guest_words.specs.declared.point.Point.{Point}
use Rattle.guest_words.specs.declared.point.Ret.{Ret}
use Rattle.guest_words.specs.Harts.{unreserved}
use Rattle.guest_words.specs.Points.{code_of, spent}
use Rattle.guest_words.specs.State.{State, changed, closed, is_closed, on_each, on_hart}
use Rattle.run_history.specs.After.{given_back, rescued_from}
use Rattle.hart_step.specs.contracts.engine.Engine.{the_view}
use Rattle.hart_step.specs.Ground.{Ground}
use Rattle.hart_step.specs.Live.{Live, IsHeapClear}
use Rattle.hart_step.proofs.HartStates.{states, states-back, waits-states}
use Rattle.hart_step.proofs.engine.Engine.rescue.Goals as goal

ground-is : (c : goal.After-drop-later-inside-2) → c.spend.new.self ≡ record { memory = c.self.inside.guest.memory; points = spent c.later.inside.guest.points c.args.point.entry }
ground-is c = c.spend.ensures.value ∙ ap (λ (g : Ground). record g { points = spent g.points c.args.point.entry }) c.take_points.ensures.value

pub invariant_of-self : goal.invariant_of-self
invariant_of-self c =
    let e = c.self.inside in
    let later = c.later.inside in
    let kept = c.self.invariant in
    let then = c.later.invariant in
    let same : states c.give_back.new.slots ≡ states e.slots = ap states c.give_back.ensures.value ∙ states-back c.code-code.result c.args.hart e.slots in
    let budget : later.budget ≡ e.budget = ap (λ (l : Live). l.state.budget) c.later.view_is ∙ c.requires.budget ∙ sym (ap (λ (l : Live). l.state.budget) c.self.view_is) in
    let ports : later.ports ≡ e.ports = ap (λ (l : Live). l.state.ports) c.later.view_is ∙ c.requires.ports ∙ sym (ap (λ (l : Live). l.state.ports) c.self.view_is) in
    let old_steps : e.steps ≡ c.args.self.now.state.steps = ap (λ (l : Live). l.state.steps) c.self.view_is in
    let new_steps : later.steps ≡ c.args.later.state.steps = ap (λ (l : Live). l.state.steps) c.later.view_is in
    let longer = c.requires.steps in
    let few = kept.tid in
    record {
      heap = subst (λ (g : Ground). IsHeapClear g.memory) (sym (ground-is c)) kept.heap;
      waits = waits-states e.queue e.slots c.give_back.new.slots (sym same) kept.waits;
      tid = omega (arith, old_steps, new_steps, longer, few);
      within = let within = then.within in omega (arith, within, budget);
      most = kept.most;
      sum = then.sum;
      shut = subst (λ (n : ℕ). (fd : ℕ) → fd < 3 + n → slice_get later.closed.items fd ≡ Some (is_closed fd later.records.records)) ports then.shut;
    }

pub returns : goal.returns
unfolding rescued_from
returns c =
    let e = c.self.inside in
    let h = c.args.hart in
    let s : State = (the_view e).state in
    let t : State = (the_view c.later.inside).state in
    let build : Ground → List Slot → State = λ g xs.
    record s { memory = g.memory.space; low = g.memory.low; brk = g.memory.brk; points = g.points; slots = xs; records = t.records; steps = t.steps } in
    let code : c.code-code.result ≡ code_of e.guest.points c.args.point.entry c.args.fault.name =
    c.code-code.ensures.value ∙ ap (λ (ps : List Point). code_of ps c.args.point.entry c.args.fault.name) c.points.ensures.value in
    let slots = c.give_back.ensures.value ∙ ap (λ (ret : Ret). changed closed h (changed (on_hart (given_back ret)) h (on_each unreserved e.slots))) code in
    record {
      after = (λ i. build (ground-is c i) (slots i))
          ∙ ap (λ (l : Live). rescued_from l.state h c.args.point c.args.fault t) c.self.view_is
          ∙ ap (λ (l : Live). rescued_from c.args.self.now.state h c.args.point c.args.fault l.state) c.later.view_is;
    }
