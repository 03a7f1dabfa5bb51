use Rattle.std.proofs.Common.{◌∙◌, ap, subst, arith, List}
use Rattle.guest_pages.specs.declared.page_buffer.PageBuffer.{PageBuffer}
use Rattle.guest_pages.specs.Buffers.{AreAlike}
use Rattle.guest_pages.specs.Paged.{Paged}
use Rattle.guest_pages.proofs.Copying.{cells_of-alike, sorted-alike}
use Rattle.guest_pages.proofs.pages.Pages.copy.Goals as goal

pub invariant_of-result : goal.invariant_of-result
invariant_of-result c =
    let buffers = c.self.inside.buffers.items in
    let copies = c.in_ok-buffers.buffers.items in
    let alike = subst (λ (xs : List PageBuffer). AreAlike xs copies) c.as_slice.ensures.value c.in_ok-buffers.ensures.ok in
    let ok = c.in_ok-buffers.buffers.ok.0 in
    (sorted-alike buffers copies alike c.self.invariant.0, omega (arith, ok))

pub returns-clause-ok : goal.returns-clause-ok
returns-clause-ok c =
    let buffers = c.self.inside.buffers.items in
    let copies = c.in_ok-buffers.buffers.items in
    let alike = subst (λ (xs : List PageBuffer). AreAlike xs copies) c.as_slice.ensures.value c.in_ok-buffers.ensures.ok in
    cells_of-alike buffers copies alike ∙ ap (λ (p : Paged). p.space) c.self.view_is
