use Rattle.std.proofs.Common.{◌*◌, sym, subst}
use Rattle.guest_pages.specs.Paged.{Paged}
use Rattle.guest_memory.specs.Kept.{IsGuarded}
use Rattle.guest_memory.proofs.Rights.{guarded-without}
use Rattle.guest_memory.proofs.restore.MemoryRestore.drop_pages.Goals as goal

pub invariant_of-self : goal.invariant_of-self
invariant_of-self c = record {
  guarded = subst (λ (p : Paged). IsGuarded p.space) (sym c.drop_pages.ensures.value) (guarded-without c.self.inside.pages.space c.args.from (4096 * c.args.count) c.self.invariant.guarded);
  heap = c.self.invariant.heap;
}
