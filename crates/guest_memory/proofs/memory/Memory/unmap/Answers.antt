use Rattle.std.proofs.Common.{◌*◌, sym, subst}
use Rattle.guest_pages.specs.Paged.{Paged}
use Rattle.guest_memory.specs.Kept.{AddressSpace, IsGuarded}
use Rattle.guest_memory.specs.Text.{SameText, HasNoText}
use Rattle.guest_memory.proofs.Rights.{guarded-without}
use Rattle.guest_memory.proofs.TextLaws.{same_text-without}
use Rattle.guest_memory.proofs.memory.Memory.unmap.Goals as goal

pub invariant_of-self : goal.invariant_of-self
invariant_of-self c = record {
  guarded = subst (λ (p : Paged). IsGuarded p.space) (sym c.drop_pages.ensures.value) (guarded-without c.self.inside.pages.space c.args.from (4096 * c.args.count) c.self.invariant.guarded);
  heap = c.self.invariant.heap;
}

pub returns-clause-text : goal.returns-clause-text
returns-clause-text c none =
    let old = c.self.inside.pages in
    let size = 4096 * c.args.count in
    let lacks = subst (λ (a : AddressSpace). HasNoText a.space c.args.from size) (sym c.self.view_is) none in
    let P : AddressSpace → Type 0 = λ a. SameText a.space c.drop_pages.new.self.space in
    subst P c.self.view_is (subst (λ (p : Paged). SameText old.space p.space) (sym c.drop_pages.ensures.value) (same_text-without old.space c.args.from size lacks))
