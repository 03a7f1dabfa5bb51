use Rattle.guest_pages.proofs.Lookup.{page_after, page_none}
use Rattle.guest_pages.proofs.page_buffer.next_page.Goals as goal

pub returns-then-count-buffers-clause-found : goal.returns-then-count-buffers-clause-found
returns-then-count-buffers-clause-found c =
    page_after c.args.buffers.now c.args.address c.count_before-count.result c.index-buffers-count.result c.requires.sorted c.count_before-count.ensures.value c.if-count-buffers.true c.index-buffers-count.is

pub returns-else-count-buffers-clause-none : goal.returns-else-count-buffers-clause-none
returns-else-count-buffers-clause-none c =
    page_none c.args.buffers.now c.args.address c.count_before-count.result c.requires.sorted c.count_before-count.ensures.value c.if-count-buffers.false
