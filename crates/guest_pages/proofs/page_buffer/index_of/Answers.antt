use Rattle.std.proofs.Common.{arith, ap, ◌∙◌}
use Rattle.std.proofs.lemmas.List.{get_or_default}
use Rattle.guest_pages.specs.declared.page_buffer.PageBuffer.{PageBuffer}
use Rattle.guest_pages.proofs.Lookup.{none_held}
use Rattle.guest_pages.proofs.page_buffer.index_of.Goals.{else-index-buffers-via-then-index-buffers+else-buffers-index, else-index-buffers-via-else-index-buffers}
use Rattle.guest_pages.proofs.page_buffer.index_of.Goals as goal

pub returns-else-index-buffers-clause-none : goal.returns-else-index-buffers-clause-none
returns-else-index-buffers-clause-none c =
    let buffers = c.args.buffers.now in
    let n = c.count_before-index.result in
    none_held buffers c.args.address n c.requires.sorted c.count_before-index.ensures.value (λ d below e. elim c.else-index-buffers.branch [
      | else-index-buffers-via-then-index-buffers+else-buffers-index w ↦
          w.if-buffers-index.false (ap (λ (b : PageBuffer). b.from) (get_or_default buffers n w.index-buffers-index.result d below) ∙ e)
      | else-index-buffers-via-else-index-buffers w ↦ omega (arith, below, w.if-index-buffers.false)
    ])
