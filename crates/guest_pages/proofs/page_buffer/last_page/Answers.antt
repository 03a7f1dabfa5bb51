use Rattle.std.proofs.Common.{◌-◌, ap, arith}
use Rattle.std.proofs.lemmas.List.{get_or_default}
use Rattle.guest_pages.specs.declared.page_buffer.PageBuffer.{PageBuffer}
use Rattle.guest_pages.proofs.LastPage.{last_in, none_in_range}
use Rattle.guest_pages.proofs.page_buffer.last_page.Goals.{else-before-gt0-via-then-before-gt0+else-from-buffers, else-before-gt0-via-else-before-gt0}
use Rattle.guest_pages.proofs.page_buffer.last_page.Goals as goal

pub returns-then-from-buffers-clause-found : goal.returns-then-from-buffers-clause-found
returns-then-from-buffers-clause-found c =
    last_in c.args.buffers.now c.args.from c.args.count c.saturating_mul.result c.saturating_add-end.result c.count_before-before.result c.index-buffers-before.result c.index-buffers-before-then-from-buffers.result c.requires.sorted
    c.count_before-before.ensures.value c.saturating_mul.ensures c.saturating_add-end.ensures c.if-before-gt0.true c.if-from-buffers.true

pub returns-else-before-gt0-clause-none : goal.returns-else-before-gt0-clause-none
returns-else-before-gt0-clause-none c =
    let xs = c.args.buffers.now in
    let n = c.count_before-before.result in
    none_in_range xs c.args.from c.args.count c.saturating_mul.result c.saturating_add-end.result n c.requires.sorted
    c.count_before-before.ensures.value c.saturating_mul.ensures c.saturating_add-end.ensures c.requires.aligned (λ d some.
    elim c.else-before-gt0.branch [
      | else-before-gt0-via-then-before-gt0+else-from-buffers w ↦
          let within = c.count_before-before.ensures.value.within in
          let same = ap (λ (b : PageBuffer). b.from) (get_or_default xs (n - 1) d w.index-buffers-before.result (omega (arith, some, within))) in
          omega (arith, w.if-from-buffers.false, same)
      | else-before-gt0-via-else-before-gt0 w ↦ omega (arith, some, w.if-before-gt0.false)
    ])
