use Rattle.std.proofs.Common.{ℕ, refl, ap, subst, sym}
use Rattle.guest_words.specs.Harts.{touched}
use Rattle.guest_words.specs.Space.{with_number}
use Rattle.guest_words.specs.State.{on_each}
use Rattle.hart_step.specs.contracts.engine.Engine.{the_view}
use Rattle.guest_words.specs.Widths.{bytes_in}
use Rattle.guest_memory.proofs.Ranges.{free_after_number}
use Rattle.run_history.proofs.ByteLengths.{length-low_bytes}
use Rattle.hart_step.specs.Ground.{Ground}
use Rattle.hart_step.specs.Live.{IsHeapClear}
use Rattle.hart_step.proofs.Engines.{engine_memory, engine_slots}
use Rattle.hart_step.proofs.Waiting.{stays_each}
use Rattle.hart_step.proofs.engine.Engine.store.Goals as goal

pub invariant_of-self : goal.invariant_of-self
invariant_of-self c =
    let clear = subst (λ (g : Ground). IsHeapClear g.memory) (sym c.store.ensures.value) (free_after_number _ _ _ c.args.address (bytes_in c.args.width) c.args.value c.self.invariant.heap) in
    engine_memory _ (engine_slots _ _ c.self.invariant c.touch.ensures.value (stays_each (touched c.args.address c.bytes.result) c.self.inside.slots (λ hart. refl))) clear

pub returns-clause-after : goal.returns-clause-after
returns-clause-after c =
    let long = length-low_bytes (bytes_in c.args.width) c.args.value in
    let size = c.bytes.ensures.value in
    let touching = c.touch.ensures.value in
    let storing = c.store.ensures.value in
    let live = the_view c.self.inside in
    rw (storing, touching, size, ← c.self.view_is)
    (ap (λ (n : ℕ). record live {
      state = record live.state {
        memory = with_number live.state.memory c.args.address (bytes_in c.args.width) c.args.value;
        slots = on_each (touched c.args.address n) live.state.slots;
      };
    }) (sym long))
