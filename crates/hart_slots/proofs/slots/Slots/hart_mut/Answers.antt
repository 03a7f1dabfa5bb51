use Rattle.std.proofs.Common.{◌<◌, ap, sym, ◌∙◌, length, refl, subst, option_map, slice_get}
use Rattle.guest_words.specs.State.{changed, on_hart}
use Rattle.hart_slots.specs.Rejoined.{hart_of}
use Rattle.hart_slots.proofs.Joins.{hart-joined, joined-set, length-joined}
use Rattle.hart_slots.proofs.slots.Slots.hart_mut.Goals as goal

pub hart_mut-requires : goal.hart_mut-requires
hart_mut-requires c = record {
  within = subst (λ n. c.args.h < n) (sym (c.self.invariant.0 ∙ sym (length-joined c.self.inside.harts c.self.inside.frames.items c.self.invariant.0) ∙ ap length c.self.view_is)) c.requires.within;
}

pub returns : goal.returns
returns c = (
  (refl, λ w. joined-set w c.args.h c.self.inside.harts c.self.inside.frames.items ∙ ap (changed (on_hart (λ before. w)) c.args.h) c.self.view_is),
  record {
    lent = tt;
    value = ap (λ slots. option_map hart_of (slice_get slots c.args.h)) (sym c.self.view_is) ∙ sym (hart-joined c.self.inside.harts c.self.inside.frames.items c.args.h c.self.invariant.0) ∙ c.hart_mut.ensures.value;
  },
)
