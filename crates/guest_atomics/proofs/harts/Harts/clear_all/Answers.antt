use Rattle.std.proofs.Common.{sym, refl}
use Rattle.guest_words.specs.Harts.{unreserved}
use Rattle.guest_atomics.proofs.FreeHarts.{map-unreserved-free, All-unreserved}
use Rattle.guest_atomics.proofs.EmptyHarts.{map-empty}
use Rattle.guest_atomics.proofs.harts.Harts.clear_all.Goals as goal

pub invariant_of-self : goal.invariant_of-self
invariant_of-self c = record {
  free = λ none other apart d. rw c.end_all.ensures.value (All-unreserved c.self.inside.items.items other d);
  empty = rw c.end_all.ensures.value (map-empty unreserved refl c.self.inside.used c.self.inside.items.items c.self.invariant.empty);
  within = c.self.invariant.within;
}

pub returns-else-may_hold : goal.returns-else-may_hold
returns-else-may_hold c = record {
  value = sym (map-unreserved-free c.args.self.now (c.if-may_hold.ensures.none refl));
}
