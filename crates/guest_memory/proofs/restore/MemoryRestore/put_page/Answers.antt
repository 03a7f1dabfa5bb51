use Rattle.std.proofs.Common.{◌≡◌, true, length, sym, subst, arith}
use Rattle.std.proofs.lemmas.Bool.Decides.{nat_tests}
use Rattle.guest_words.specs.declared.image.Page.{Page}
use Rattle.guest_words.specs.Space.{Space}
use Rattle.guest_pages.specs.Paged.{Paged}
use Rattle.guest_pages.specs.Stretch.{IsFree}
use Rattle.guest_memory.specs.Kept.{AddressSpace, IsGuarded}
use Rattle.guest_memory.specs.Returning.{can_return}
use Rattle.guest_memory.specs.Text.{SameText}
use Rattle.guest_memory.proofs.TextLaws.{same_text-with_page}
use Rattle.guest_memory.proofs.Rights.{guarded-with_page, returned_guarded}
use Rattle.guest_memory.proofs.restore.MemoryRestore.put_page.Goals as goal

whole_page : (m : Space) (page : Page) → can_return m page ≡ true → length page.bytes ≡ 4096
whole_page m page is = grind (arith, nat_tests, is)

pub invariant_of-self : goal.invariant_of-self
invariant_of-self c =
    let rights = returned_guarded c.args.self.now.space c.args.page (sym c.if-can_return.ensures.value) in
    record {
      guarded = subst (λ (p : Paged). IsGuarded p.space) (sym c.put_page.ensures.value) (guarded-with_page c.self.inside.pages.space c.args.page c.self.invariant.guarded rights.0 rights.1);
      heap = c.self.invariant.heap;
    }

pub returns-then-can_return-clause-text : goal.returns-then-can_return-clause-text
returns-then-can_return-clause-text c = λ none.
    let old = c.self.inside.pages in
    let page = c.args.page in
    let whole = whole_page c.args.self.now.space page (sym c.if-can_return.ensures.value) in
    let free = subst (λ (a : AddressSpace). IsFree a.space page.from 4096) (sym c.self.view_is) c.if-can_return.ensures.free in
    let all = subst (IsFree old.space page.from) (sym whole) free in
    let P : AddressSpace → Type 0 = λ a. SameText a.space c.put_page.new.self.space in
    subst P c.self.view_is (subst (λ (p : Paged). SameText old.space p.space) (sym c.put_page.ensures.value) (same_text-with_page old.space page all none))
