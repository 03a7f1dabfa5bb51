use Rattle.std.proofs.Common.{refl, ◌+◌, sym, subst, List}
use Rattle.guest_pages.specs.declared.page_buffer.PageBuffer.{PageBuffer}
use Rattle.guest_pages.specs.Buffers.{AreZeros}
use Rattle.guest_pages.proofs.Splicing.{zeros-push}
use Rattle.guest_pages.proofs.add.zero_pages.Goals as goal

pub loop-index-preserved : goal.loop-index-preserved
loop-index-preserved c =
    let P : List PageBuffer → Type 0 = AreZeros c.args.from (c.loop-index.index + 1) c.args.rights in
    subst P (sym c.in_ok-push.ensures.items)
    (zeros-push c.args.from c.loop-index.index c.args.rights c.loop-index.pages.items _ c.loop-index.invariant refl refl (c.in_ok-vec.ensures.items_if_clones_equal (λ y e. e)))
