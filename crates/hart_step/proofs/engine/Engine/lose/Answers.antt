use Rattle.std.proofs.Common.{◌+◌, ◌-◌, ◌*◌, refl, subst, sym}
use Rattle.guest_words.specs.declared.limits.TheConstants.{HEAP_BYTES, PAGE}
use Rattle.guest_words.specs.Harts.{touched}
use Rattle.guest_words.specs.Space.{page_up}
use Rattle.guest_memory.proofs.Ranges.{free_after_loss}
use Rattle.hart_step.specs.Ground.{Ground}
use Rattle.hart_step.specs.Live.{IsHeapClear}
use Rattle.hart_step.proofs.Engines.{engine_memory, engine_slots}
use Rattle.hart_step.proofs.Waiting.{stays_each}
use Rattle.hart_step.proofs.engine.Engine.lose.Goals as goal

pub invariant_of-self : goal.invariant_of-self
invariant_of-self c =
    let m = c.self.inside.guest.memory in
    let clear = subst (λ (g : Ground). IsHeapClear g.memory) (sym c.unmap.ensures.value)
    (free_after_loss m.space (page_up m.brk) (m.low + HEAP_BYTES - page_up m.brk) c.args.from (PAGE * c.args.count) c.self.invariant.heap) in
    engine_memory _ (engine_slots _ _ c.self.invariant c.touch.ensures.value (stays_each (touched c.args.from (PAGE * c.args.count)) c.self.inside.slots (λ hart. refl))) clear
