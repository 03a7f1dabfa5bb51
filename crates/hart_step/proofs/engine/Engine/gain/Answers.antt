use Rattle.std.proofs.Common.{◌+◌, ◌-◌, ◌*◌, refl, inl, subst, sym}
use Rattle.guest_words.specs.declared.limits.TheConstants.{HEAP_BYTES, PAGE}
use Rattle.guest_words.specs.Harts.{touched}
use Rattle.guest_words.specs.Space.{page_up}
use Rattle.guest_memory.proofs.Ranges.{free_after_gain}
use Rattle.guest_memory.specs.Kept.{IsHeap}
use Rattle.hart_step.specs.Ground.{Ground}
use Rattle.hart_step.specs.Live.{IsHeapClear}
use Rattle.hart_step.proofs.Engines.{heap_below, engine_memory, engine_slots}
use Rattle.hart_step.proofs.Waiting.{stays_each}
use Rattle.hart_step.proofs.engine.Engine.gain.Goals as goal

pub invariant_of-self-2 : goal.invariant_of-self-2
invariant_of-self-2 c =
    let m = c.self.inside.guest.memory in
    let heap : IsHeap m.low m.brk = rw (← c.self-inside.view_is) c.low-low.ensures.heap in
    let below = heap.below in
    let upto = heap.upto in
    let whole = heap.aligned in
    let place = c.requires.place.low in
    let clear = subst (λ (g : Ground). IsHeapClear g.memory) (sym c.in_ok-map.ensures.ok)
    (free_after_gain m.space (page_up m.brk) (m.low + HEAP_BYTES - page_up m.brk) c.args.from (PAGE * c.args.count) c.args.rights c.self.invariant.heap
    (inl (heap_below m.low m.brk c.args.from whole below upto place))) in
    engine_memory _ (engine_slots _ _ c.self.invariant c.touch.ensures.value (stays_each (touched c.args.from (PAGE * c.args.count)) c.self.inside.slots (λ hart. refl))) clear
