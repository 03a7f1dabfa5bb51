use Rattle.std.proofs.Common.{refl, subst, sym}
use Rattle.guest_words.specs.Harts.{touched}
use Rattle.hart_step.specs.Ground.{Ground}
use Rattle.hart_step.specs.Live.{IsHeapClear}
use Rattle.hart_step.proofs.Engines.{engine_memory, engine_slots, heap_fitted}
use Rattle.hart_step.proofs.Waiting.{stays_each}
use Rattle.hart_step.proofs.engine.Engine.set_break.Goals as goal

pub invariant_of-self-2 : goal.invariant_of-self-2
invariant_of-self-2 c =
    let clear = subst (λ (g : Ground). IsHeapClear g.memory) (sym c.in_ok-move_brk.ensures.ok) (heap_fitted c.self.inside.guest.memory c.args.to c.move_brk.new.self.memory.spare c.self.invariant.heap) in
    engine_memory _ (engine_slots _ _ (engine_slots _ _ c.self.invariant c.touch.ensures.value (stays_each (touched _ _) c.self.inside.slots (λ hart. refl)))
    c.touch-2.ensures.value (stays_each (touched _ _) c.touch.new.self (λ hart. refl))) clear
