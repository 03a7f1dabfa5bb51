use Rattle.std.proofs.Common.{◌≡◌, ◌≤◌, ◌+◌, ◌∙◌, ℕ, List, drop, length, map, sym, ap, subst}
use Rattle.guest_words.specs.declared.hart.Slot.{Slot}
use Rattle.guest_words.specs.declared.hart.Waiter.{Waiter}
use Rattle.guest_words.specs.declared.point.Point.{Point}
use Rattle.guest_words.specs.declared.point.Ret.{Ret}
use Rattle.guest_words.specs.Harts.{unreserved}
use Rattle.guest_words.specs.Points.{code_of, spent}
use Rattle.guest_words.specs.State.{State, changed, closed, on_each, on_hart}
use Rattle.guest_memory.specs.Kept.{AddressSpace}
use Rattle.hart_slots.specs.Rejoined.{hart_of, rejoined, reopened}
use Rattle.run_history.specs.After.{given_back, rescued_from}
use Rattle.hart_step.specs.contracts.engine.Engine.{the_view}
use Rattle.hart_step.specs.Ground.{Ground}
use Rattle.hart_step.specs.Live.{Live, IsHeapClear, Waits}
use Rattle.hart_step.specs.Returns.{rolled_back, space_before}
use Rattle.hart_step.proofs.HartStates.{states, states-back, waits-rejoined, waits-states}
use Rattle.hart_step.proofs.Kept.{low-undone, undone-ground}
use Rattle.hart_step.proofs.engine.Engine.take_back.Goals as goal

ground-is : (c : goal.After-spend) → c.spend.new.self ≡ record { memory = space_before (the_view c.self.inside) (drop c.args.from c.args.log.now.notes); points = spent c.self.inside.guest.points c.args.point.entry }
ground-is c =
    let e = c.self.inside in
    c.spend.ensures.value
    ∙ ap (λ (g : Ground). record g { points = spent g.points c.args.point.entry }) (c.undo_from.ensures.value ∙ undone-ground (drop c.args.from c.args.log.now.notes) e.guest)

space-is : (c : goal.After-spend) → c.spend.new.self.memory ≡ space_before c.args.self.now (drop c.args.from c.args.log.now.notes)
space-is c = ap (λ (g : Ground). g.memory) (ground-is c) ∙ ap (λ (l : Live). space_before l (drop c.args.from c.args.log.now.notes)) c.self.view_is

pub invariant_of-self : goal.invariant_of-self
invariant_of-self c =
    let e = c.self.inside in
    let h = c.args.hart in
    let kept = c.self.invariant in
    let count : length c.args.kept.harts ≡ length e.slots = c.requires.count ∙ sym (ap (λ (l : Live). length l.state.slots) c.self.view_is) in
    let again = changed reopened h (rejoined c.args.kept.harts e.slots) in
    let same : states c.give_back.new.slots ≡ states again =
    ap states c.give_back.ensures.value ∙ states-back c.code-code.result h c.put_back.new.self ∙ ap states c.put_back.ensures.value in
    let waits : Waits c.args.kept.queue (map hart_of c.give_back.new.slots) =
    waits-states c.args.kept.queue again c.give_back.new.slots (sym same) (waits-rejoined c.args.kept.queue c.args.kept.harts h e.slots count c.requires.returns.waits) in
    record {
      heap = subst IsHeapClear (sym (space-is c)) c.requires.returns.heap;
      waits = subst (λ (ws : List Waiter). Waits ws (map hart_of c.give_back.new.slots)) (sym c.restore.ensures.value) waits;
      tid = subst (λ (l : Live). c.args.kept.next_tid ≤ l.state.steps + 2) (sym c.self.view_is) c.requires.returns.tid;
      within = kept.within;
      most = kept.most;
      sum = kept.sum;
      shut = kept.shut;
    }

pub returns-clause-after : goal.returns-clause-after
unfolding rescued_from
returns-clause-after c =
    let e = c.self.inside in
    let h = c.args.hart in
    let live : Live = the_view e in
    let notes = drop c.args.from c.args.log.now.notes in
    let build : Ground → ℕ → List Slot → List Waiter → State = λ g low xs ws.
    record live.state { memory = g.memory.space; low = low; brk = g.memory.brk; points = g.points; slots = xs; waiting = ws; next_tid = c.args.kept.next_tid } in
    let code : c.code-code.result ≡ code_of e.guest.points c.args.point.entry c.args.fault.name =
    c.code-code.ensures.value ∙ ap (λ (ps : List Point). code_of ps c.args.point.entry c.args.fault.name) c.points.ensures.value in
    let low : c.spend.new.self.memory.low ≡ e.guest.memory.low =
    ap (λ (g : Ground). g.memory.low) (ground-is c) ∙ low-undone notes e.guest.memory in
    let slots = c.give_back.ensures.value
    ∙ ap (λ (ret : Ret). changed closed h (changed (on_hart (given_back ret)) h (on_each unreserved c.put_back.new.self))) code
    ∙ ap (λ (xs : List Slot). changed closed h (changed (on_hart (given_back (code_of e.guest.points c.args.point.entry c.args.fault.name))) h (on_each unreserved xs))) c.put_back.ensures.value in
    (λ i. build (ground-is c i) (low i) (slots i) (c.restore.ensures.value i))
    ∙ ap (λ (l : Live). rescued_from (rolled_back l h c.args.kept notes) h c.args.point c.args.fault l.state) c.self.view_is

pub returns-clause-spare : goal.returns-clause-spare
returns-clause-spare c = ap (λ (m : AddressSpace). m.spare) (space-is c)
