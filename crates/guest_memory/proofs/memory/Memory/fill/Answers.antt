use Rattle.std.proofs.Common.{◌≡◌, sym, subst, length, true}
use Rattle.guest_words.specs.Space.{can_write}
use Rattle.guest_pages.specs.Paged.{Paged}
use Rattle.guest_memory.specs.Kept.{AddressSpace, IsGuarded}
use Rattle.guest_memory.specs.Text.{SameText}
use Rattle.guest_memory.proofs.Rights.{guarded-with_bytes}
use Rattle.guest_memory.proofs.TextLaws.{same_text-with_bytes}
use Rattle.guest_memory.proofs.memory.Memory.fill.Goals as goal

pub invariant_of-self : goal.invariant_of-self
invariant_of-self c = record {
  guarded = subst (λ (p : Paged). IsGuarded p.space) (sym c.fill.ensures.value) (guarded-with_bytes c.self.inside.pages.space c.args.from c.args.bytes.now c.self.invariant.guarded);
  heap = c.self.invariant.heap;
}

pub returns-clause-text : goal.returns-clause-text
returns-clause-text c =
    let old = c.self.inside.pages in
    let bytes = c.args.bytes.now in
    let P : AddressSpace → Type 0 = λ a. SameText a.space c.fill.new.self.space in
    let may = subst (λ (a : AddressSpace). can_write a.space c.args.from (length bytes) ≡ true) (sym c.self.view_is) c.requires.writable in
    subst P c.self.view_is (subst (λ (p : Paged). SameText old.space p.space) (sym c.fill.ensures.value)
    (same_text-with_bytes old.space c.args.from bytes c.self.invariant.guarded may))
