use Rattle.std.proofs.Common.{◌∙◌, ap, sym, arith, List, take, ◌-◌, ◌%◌, ◌≤◌, length}
use Rattle.std.proofs.lemmas.List.{length-take}
use Rattle.std.specs.List.{find}
use Rattle.guest_words.specs.Space.{with_bytes}
use Rattle.guest_pages.specs.declared.page_buffer.PageBuffer.{PageBuffer}
use Rattle.guest_pages.specs.Buffers.{cells_of, holds}
use Rattle.guest_pages.proofs.Filling.{fill_none}
use Rattle.guest_pages.proofs.Placing.{sorted-put, cells_of-put}
use Rattle.guest_pages.proofs.Spaces.{bytes_alone}
use Rattle.guest_pages.proofs.Storing.{holder_of}
use Rattle.guest_pages.proofs.pages.Pages.fill_page.Goals as goal

pub invariant_of-self : goal.invariant_of-self
invariant_of-self c =
    let buffers = c.self.inside.buffers.items in
    let new = take c.min-count.result c.args.bytes.now in
    let holder = holder_of c.as_slice.result.now buffers c.args.address c.in-Some.index c.as_slice.ensures.value c.in-Some.ensures.found in
    (sorted-put buffers c.in-Some.index c.index_mut.result.now c.put_in.new.buffer c.args.address new c.self.invariant.0 holder.within c.index_mut.ensures.value c.put_in.ensures.value, c.self.invariant.1)

pub returns-in-Some-clause-value : goal.returns-in-Some-clause-value
returns-in-Some-clause-value c =
    let buffers = c.self.inside.buffers.items in
    let new = take c.min-count.result c.args.bytes.now in
    let holder = holder_of c.as_slice.result.now buffers c.args.address c.in-Some.index c.as_slice.ensures.value c.in-Some.ensures.found in
    bytes_alone _ (cells_of buffers) c.self.inside.spare c.args.self.now (λ m. with_bytes m c.args.address new) c.self.view_is
    (cells_of-put buffers c.in-Some.index c.index_mut.result.now c.put_in.new.buffer c.args.address new c.self.invariant.0 holder.within c.index_mut.ensures.value c.put_in.ensures.value)

pub returns-in_default-clause-value : goal.returns-in_default-clause-value
returns-in_default-clause-value c =
    let buffers = c.self.inside.buffers.items in
    let new = take c.min-count.result c.args.bytes.now in
    let short : length new ≤ 4096 - c.args.address % 4096 = omega (arith, length-take c.min-count.result c.args.bytes.now) in
    sym c.self.view_is
    ∙ bytes_alone _ (cells_of buffers) c.self.inside.spare c.args.self.now (λ m. with_bytes m c.args.address new) c.self.view_is
    (fill_none buffers c.args.address new c.self.invariant.0 (ap (λ (bs : List PageBuffer). find (holds c.args.address) bs) (sym c.as_slice.ensures.value) ∙ c.in_default.ensures.none) short)
