use Rattle.std.proofs.Common.{◌≡◌, ◌+◌, ◌-◌, ◌%◌, ◌^◌, ◌∙◌, Bool, false, List, Some, length, map, min, sum_by, replicate, slice_get, refl, sym, ap, subst, arith}
use Rattle.guest_words.specs.declared.hart.Waiter.{Waiter}
use Rattle.guest_words.specs.declared.record.Record.{Record}
use Rattle.guest_words.specs.State.{is_closed}
use Rattle.guest_memory.specs.Kept.{AddressSpace}
use Rattle.guest_memory.proofs.Breaks.{heap-low_break}
use Rattle.hart_slots.specs.Rejoined.{hart_of}
use Rattle.hart_step.specs.Ground.{Ground}
use Rattle.hart_step.specs.Live.{IsHeapClear, Waits}
use Rattle.hart_step.proofs.Kept.{heap_start, open_start}
use Rattle.hart_step.proofs.engine.Engine.start.Goals as goal

pub invariant_of-result : goal.invariant_of-result
invariant_of-result c =
    let memory = c.in_ok-memory.memory in
    let is = c.in_ok-memory.ensures.ok in
    let same : memory.brk ≡ memory.low = ap (λ (m : AddressSpace). m.brk) is ∙ sym (ap (λ (m : AddressSpace). m.low) is) in
    let heap = (heap-low_break c.args.image.now.loads c.requires.image.each).aligned in
    let low = ap (λ (m : AddressSpace). m.low) is in
    let aligned : memory.low % 4096 ≡ 0 = ap (λ n. n % 4096) low ∙ heap in
    let clear : IsHeapClear memory = heap_start memory same aligned c.in_ok-memory.ensures.gap in
    record {
      heap = subst (λ (g : Ground). IsHeapClear g.memory) (sym c.in_ok-new.ensures.ok) clear;
      waits = subst (λ (ws : List Waiter). Waits ws (map hart_of c.in_ok-start.field-0)) (sym c.new-2.ensures.none) (λ k d less e. absurd (omega (arith, less)));
      tid = omega arith;
      within = omega arith;
      most = c.requires.budget;
      sum = subst (λ (rs : List Record). 0 ≡ min (sum_by (λ (r : Record). length r.bytes) rs) (2 ^ 64 - 1)) (sym c.new-3.ensures.none) refl;
      shut = λ fd less.
          subst (λ (bs : List Bool). slice_get bs fd ≡ Some (is_closed fd c.new-3.result.records)) (sym c.in_ok-all_open.ensures.open)
          (subst (λ (rs : List Record). slice_get (replicate (3 + c.args.ports) false) fd ≡ Some (is_closed fd rs)) (sym c.new-3.ensures.none) (open_start (3 + c.args.ports) fd less));
    }
