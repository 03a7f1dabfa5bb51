use Rattle.std.proofs.Common.{sym, refl}
use Rattle.guest_words.specs.Harts.{touched}
use Rattle.guest_atomics.proofs.FreeHarts.{map-touched-free}
use Rattle.guest_atomics.proofs.EmptyHarts.{map-empty}
use Rattle.guest_atomics.proofs.harts.Harts.touched.Goals as goal

pub invariant_of-self : goal.invariant_of-self
invariant_of-self c = record {
  free = λ none other apart d. rw (sym c.deref.ensures.value) (c.any_reservation-self-inside.ensures.none none other d);
  empty = rw c.end_touched.ensures.value (map-empty (touched c.args.address c.args.size) refl c.self.inside.used c.self.inside.items.items c.self.invariant.empty);
  within = c.self.invariant.within;
}

pub returns-else-may_hold : goal.returns-else-may_hold
returns-else-may_hold c = record {
  value = sym (map-touched-free c.args.address c.args.size c.args.self.now (c.if-may_hold.ensures.none refl));
}
