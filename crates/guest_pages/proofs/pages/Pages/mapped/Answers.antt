use Rattle.std.proofs.Common.{◌∙◌, ap, subst, List, ℕ, lit≤, arith}
use Rattle.guest_words.specs.CallChanges.{mapped_pages}
use Rattle.guest_pages.specs.declared.page_buffer.PageBuffer.{PageBuffer}
use Rattle.guest_pages.specs.Buffers.{IsCountBefore}
use Rattle.guest_pages.specs.Paged.{Paged}
use Rattle.guest_pages.proofs.AreaSearch.{mapped-between}
use Rattle.guest_pages.proofs.Moving.{counts_ascend}
use Rattle.guest_pages.proofs.pages.Pages.mapped.Goals as goal

pub overflow_sub-result : goal.overflow_sub-result
overflow_sub-result c =
    let up = counts_ascend c.as_slice-pages.result.now 0x3f80000000 0x3fc0000000 c.count_before-first.result c.count_before-last.result c.count_before-first.ensures.value c.count_before-last.ensures.value (lit≤ tt) in
    omega (arith, up)

pub returns : goal.returns
returns c = record {
  value =
      let P : ℕ → ℕ → List PageBuffer → Type 0 = λ q n bs. IsCountBefore bs q n in
      let same = c.as_slice-pages.ensures.value in
      mapped-between c.self.inside.buffers.items c.count_before-first.result c.count_before-last.result c.self.invariant.0
      (subst (P 0x3f80000000 c.count_before-first.result) same c.count_before-first.ensures.value)
      (subst (P 0x3fc0000000 c.count_before-last.result) same c.count_before-last.ensures.value)
      ∙ ap (λ (p : Paged). mapped_pages p.space) c.self.view_is;
}
