use Rattle.std.proofs.Common.{◌≡◌, ◌-◌, ◌^◌, Bool, List, Some, length, map, min, slice_get, sum_by, sym, subst}
use Rattle.guest_words.specs.declared.hart.Slot.{Slot}
use Rattle.guest_words.specs.declared.hart.Waiter.{Waiter}
use Rattle.guest_words.specs.declared.record.Record.{Record}
use Rattle.guest_words.specs.State.{is_closed}
use Rattle.hart_slots.specs.Rejoined.{hart_of}
use Rattle.hart_step.specs.Ground.{Ground}
use Rattle.hart_step.specs.Live.{IsHeapClear, Waits}
use Rattle.hart_step.proofs.engine.Engine.copy.Goals as goal

pub invariant_of-result : goal.invariant_of-result
invariant_of-result c =
    let e = c.self.inside in
    let kept = c.self.invariant in
    let records = sym c.same.ensures.value in
    record {
      heap = subst (λ (g : Ground). IsHeapClear g.memory) (sym c.in_ok-copy.ensures.ok) kept.heap;
      waits = subst (λ (ws : List Waiter). Waits ws (map hart_of c.in_ok-copy-2.field-0)) (sym c.copy-3.ensures.value)
          (subst (λ (xs : List Slot). Waits e.queue (map hart_of xs)) (sym c.in_ok-copy-2.ensures.ok) kept.waits);
      tid = kept.tid;
      within = kept.within;
      most = kept.most;
      sum = subst (λ (rs : List Record). e.bytes ≡ min (sum_by (λ (r : Record). length r.bytes) rs) (2 ^ 64 - 1)) records kept.sum;
      shut = λ fd less.
          subst (λ (bs : List Bool). slice_get bs fd ≡ Some (is_closed fd c.same.result.records)) (sym c.in_ok-copied.ensures.ok)
          (subst (λ (rs : List Record). slice_get e.closed.items fd ≡ Some (is_closed fd rs)) records (kept.shut fd less));
    }
