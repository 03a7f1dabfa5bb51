use Rattle.std.proofs.Common.{ap, sym, ◌∙◌, map, subst, List}
use Rattle.guest_words.specs.declared.hart.Hart.{Hart}
use Rattle.guest_atomics.specs.Free.{IsFreeBut}
use Rattle.hart_slots.specs.Rejoined.{hart_of}
use Rattle.hart_slots.proofs.Joins.{map-hart_of-joined}
use Rattle.hart_slots.proofs.slots.Slots.is_free_but.Goals as goal

pub returns : goal.returns
returns c = record {
  free = λ yes.
      let P : List Hart → Type 0 = λ harts. IsFreeBut c.args.h harts in
      subst P (sym (map-hart_of-joined c.self.inside.harts c.self.inside.frames.items c.self.invariant.0) ∙ ap (map hart_of) c.self.view_is) (c.is_free_but.ensures.free yes);
}
