use Rattle.std.proofs.Common.{rules, ◌≡◌, ◌+◌, ◌-◌, ◌^◌, ◌∙◌, ◌++◌, ◌∷◌, [], ℕ, Bool, true, false, List, Some, length, min, slice_get, sum_by, refl, sym, ap, subst, arith}
use Rattle.std.proofs.lemmas.Int.{to_z-of_z}
use mir.Syntax.{w64}
use mir.Val.{SFits}
use Rattle.guest_words.specs.declared.hart.Slot.{Slot}
use Rattle.guest_words.specs.declared.record.Record.{Record}
use Rattle.guest_words.specs.Act.{act_of, fits}
use Rattle.guest_words.specs.CallChanges.{answered}
use Rattle.guest_words.specs.Endings.{is_budget_spent}
use Rattle.guest_words.specs.Space.{can_write}
use Rattle.guest_words.specs.State.{State, changed, closed, is_closed, on_hart}
use Rattle.run_history.specs.After.{called}
use Rattle.hart_step.specs.contracts.engine.Engine.{the_view}
use Rattle.hart_step.specs.DeviceAnswers.{read_over, shut_by}
use Rattle.hart_step.specs.Ground.{Ground}
use Rattle.hart_step.specs.Live.{Live, IsHeapClear}
use Rattle.hart_step.proofs.HartStates.{states, states-changed, states-closed, waits-states}
use Rattle.hart_step.proofs.Kept.{heap_read, states-read, step_within}
use Rattle.hart_step.proofs.DeviceCalls.{called_by, called_parts, read_writable, shut_tells, sum_more}
use Rattle.hart_step.proofs.engine.Engine.answer.Goals as goal

pub put_read-requires-clause-writable : goal.put_read-requires-clause-writable
put_read-requires-clause-writable c = λ reads.
    let e = c.self.inside in
    let s : State = (the_view e).state in
    let call = c.args.call.now in
    let fit : fits s (act_of s c.args.hart) call ≡ true = subst (λ (l : Live). fits l.state (act_of l.state c.args.hart) call ≡ true) (sym c.self.view_is) c.requires.fits in
    subst (λ (p : ℕ). can_write e.guest.memory.space p (length call.bytes) ≡ true) (sym c.read_place-place.ensures.value) (read_writable s c.args.hart call fit reads)

pub invariant_of-self : goal.invariant_of-self
invariant_of-self c =
    let e = c.self.inside in
    let s : State = (the_view e).state in
    let kept = c.self.invariant in
    let call = c.args.call.now in
    let place = c.read_place-place.result in
    let left : is_budget_spent s ≡ false = subst (λ (l : Live). is_budget_spent l.state ≡ false) (sym c.self.view_is) c.requires.left in
    let same : states c.close.new.self ≡ states e.slots =
    ap states c.close.ensures.value ∙ states-closed c.args.hart c.answer.new.self
    ∙ ap states c.answer.ensures.value ∙ states-changed _ c.args.hart c.put_read.new.slots (λ slot. refl)
    ∙ ap states c.put_read.ensures.slots ∙ states-read e.slots place call in
    let more : e.records.records ++ call ∷ [] ≡ c.then-self-inside.result.records = sym c.then-self-inside.ensures.more in
    record {
      heap = subst (λ (g : Ground). IsHeapClear g.memory) (sym c.put_read.ensures.memory) (heap_read e.guest.memory place call kept.heap);
      waits = waits-states e.queue e.slots c.close.new.self (sym same) kept.waits;
      tid = let few = kept.tid in omega (arith, few);
      within = step_within s left kept.within;
      most = kept.most;
      sum = subst (λ (rs : List Record). c.saturating_add-self-inside.result ≡ min (sum_by (λ (r : Record). length r.bytes) rs) (2 ^ 64 - 1)) more
          (sum_more e.records.records call e.bytes (length c.items.result.now) c.saturating_add-self-inside.result kept.sum (ap length c.items.ensures.list) c.saturating_add-self-inside.ensures);
      shut = λ fd less.
          subst (λ (bs : List Bool). slice_get bs fd ≡ Some (is_closed fd c.then-self-inside.result.records)) (sym c.shut.ensures.value)
          (subst (λ (rs : List Record). slice_get (shut_by call e.closed.items) fd ≡ Some (is_closed fd rs)) more (shut_tells e.closed.items e.records.records call fd (kept.shut fd less)));
    }

pub returns-clause-after : goal.returns-clause-after
returns-clause-after c =
    let e = c.self.inside in
    let s : State = (the_view e).state in
    let h = c.args.hart in
    let call = c.args.call.now in
    let place = c.read_place-place.result in
    let fit : fits s (act_of s h) call ≡ true = subst (λ (l : Live). fits l.state (act_of l.state h) call ≡ true) (sym c.self.view_is) c.requires.fits in
    let signed : SFits w64 call.answer = search rules in
    let slots : c.close.new.self ≡ changed closed h (changed (on_hart (answered call.answer)) h (read_over e.slots place call)) =
    c.close.ensures.value ∙ ap (changed closed h)
    (c.answer.ensures.value ∙ ap (λ v. changed (on_hart (answered v)) h c.put_read.new.slots) (to_z-of_z w64 call.answer signed)
    ∙ ap (changed (on_hart (answered call.answer)) h) c.put_read.ensures.slots) in
    let build : Ground → List Slot → List Record → State = λ g xs rs.
    record s { memory = g.memory.space; low = g.memory.low; brk = g.memory.brk; points = g.points; slots = xs; records = rs; steps = s.steps + 1 } in
    (λ i. build (c.put_read.ensures.memory i) (slots i) (c.then-self-inside.ensures.more i))
    ∙ ap (λ (p : ℕ). called_parts s h p call) c.read_place-place.ensures.value
    ∙ called_by s h call fit
    ∙ ap (λ (l : Live). called l.state h call) c.self.view_is
