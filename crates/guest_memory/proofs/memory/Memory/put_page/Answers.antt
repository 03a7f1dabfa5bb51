use Rattle.std.proofs.Common.{sym, subst}
use Rattle.guest_pages.specs.Paged.{Paged}
use Rattle.guest_pages.specs.Stretch.{IsFree}
use Rattle.guest_memory.specs.Kept.{AddressSpace, IsGuarded}
use Rattle.guest_memory.specs.Text.{SameText}
use Rattle.guest_memory.proofs.Rights.{guarded-with_page}
use Rattle.guest_memory.proofs.TextLaws.{same_text-with_page}
use Rattle.guest_memory.proofs.memory.Memory.put_page.Goals as goal

pub invariant_of-self : goal.invariant_of-self
invariant_of-self c = record {
  guarded = subst (λ (p : Paged). IsGuarded p.space) (sym c.put_page.ensures.value) (guarded-with_page c.self.inside.pages.space c.args.page c.self.invariant.guarded c.requires.readable c.requires.sealed);
  heap = c.self.invariant.heap;
}

pub returns-clause-text : goal.returns-clause-text
returns-clause-text c none =
    let old = c.self.inside.pages in
    let page = c.args.page in
    let free = subst (λ (a : AddressSpace). IsFree a.space page.from 4096) (sym c.self.view_is) c.requires.free in
    let all = subst (IsFree old.space page.from) (sym c.requires.whole) free in
    let P : AddressSpace → Type 0 = λ a. SameText a.space c.put_page.new.self.space in
    subst P c.self.view_is (subst (λ (p : Paged). SameText old.space p.space) (sym c.put_page.ensures.value) (same_text-with_page old.space page all none))
