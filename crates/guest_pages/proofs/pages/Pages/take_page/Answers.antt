use Rattle.std.proofs.Common.{◌≡◌, ◌∙◌, ◌+◌, ap, sym, subst, arith, List, Option, None, IsSome}
use Rattle.std.specs.FinMap.{get}
use Rattle.std.specs.List.{find}
use Rattle.guest_words.specs.declared.image.Cell.{Cell}
use Rattle.guest_words.specs.declared.image.Page.{Page}
use Rattle.guest_words.specs.Space.{without}
use Rattle.guest_pages.specs.Stretch.{IsPageOf}
use Rattle.guest_pages.specs.declared.page_buffer.PageBuffer.{PageBuffer}
use Rattle.guest_pages.specs.Buffers.{AreSorted, cells_of, cell_in, holds}
use Rattle.guest_pages.specs.Paged.{Paged, page_at}
use Rattle.guest_pages.proofs.Lookup.{get-cells_of}
use Rattle.guest_pages.proofs.Moving.{page_in, page_of_buffer, holder_begins, sorted-remove, cells_of-remove}
use Rattle.guest_pages.proofs.Storing.{holder_of}
use Rattle.guest_pages.proofs.pages.Pages.take_page.Goals as goal

pub invariant_of-self : goal.invariant_of-self
invariant_of-self c =
    let buffers = c.self.inside.buffers.items in
    let holder = holder_of c.as_slice.result.now buffers c.args.from c.in-Some.index c.as_slice.ensures.value c.in-Some.ensures.found in (
      subst AreSorted (sym c.remove-buffer.ensures.items) (sorted-remove buffers c.in-Some.index c.remove-buffer.result c.self.invariant.0 holder.within c.remove-buffer.ensures.value),
      let room = c.self.invariant.1 in
          let long = c.remove-buffer.ensures.len in
          let same = c.remove-buffer.ensures.capacity in
          omega (arith, room, long, same),
    )

pub unreachable-requires : goal.unreachable-requires
unreachable-requires c =
    let buffers = c.self.inside.buffers.items in
    let none : get c.args.self.now.space c.args.from ≡ None =
    ap (λ (p : Paged). get p.space c.args.from) (sym c.self.view_is)
    ∙ get-cells_of buffers c.args.from
    ∙ ap (λ (bs : List PageBuffer). cell_in c.args.from (find (holds c.args.from) bs)) (sym c.as_slice.ensures.value)
    ∙ ap (cell_in c.args.from) c.in-None.ensures.none in
    let P : Option Cell → Type 0 = λ o. IsSome o in
    let there = subst P none c.requires.there in
    cc

pub returns-clause-page : goal.returns-clause-page
returns-clause-page c =
    let buffers = c.self.inside.buffers.items in
    let r = c.remove-buffer.result in
    let holder = holder_of c.as_slice.result.now buffers c.args.from c.in-Some.index c.as_slice.ensures.value c.in-Some.ensures.found in
    let begins = holder_begins buffers c.in-Some.index c.args.from r c.self.invariant.0 holder c.remove-buffer.ensures.value c.requires.aligned in
    c.into_page.ensures.value
    ∙ page_in buffers c.in-Some.index r c.self.invariant.0 holder.within c.remove-buffer.ensures.value
    ∙ ap (page_at (cells_of buffers)) begins
    ∙ ap (λ (p : Paged). page_at p.space c.args.from) c.self.view_is

pub returns-clause-gone : goal.returns-clause-gone
returns-clause-gone c =
    let buffers = c.self.inside.buffers.items in
    let r = c.remove-buffer.result in
    let holder = holder_of c.as_slice.result.now buffers c.args.from c.in-Some.index c.as_slice.ensures.value c.in-Some.ensures.found in
    let begins = holder_begins buffers c.in-Some.index c.args.from r c.self.invariant.0 holder c.remove-buffer.ensures.value c.requires.aligned in
    ap (λ m. record { space = m; spare = c.self.inside.spare + 1 })
    (ap (λ (bs : List PageBuffer). cells_of bs) c.remove-buffer.ensures.items
    ∙ cells_of-remove buffers c.in-Some.index r c.self.invariant.0 holder.within c.remove-buffer.ensures.value
    ∙ ap (λ q. without (cells_of buffers) q 4096) begins)
    ∙ ap (λ (p : Paged). record { space = without p.space c.args.from 4096; spare = p.spare + 1 }) c.self.view_is

pub returns-clause-whole : goal.returns-clause-whole
returns-clause-whole c =
    let buffers = c.self.inside.buffers.items in
    let r = c.remove-buffer.result in
    let holder = holder_of c.as_slice.result.now buffers c.args.from c.in-Some.index c.as_slice.ensures.value c.in-Some.ensures.found in
    let P : Page → Type 0 = IsPageOf c.args.self.now.space in
    subst P (sym c.into_page.ensures.value)
    (subst (λ (p : Paged). IsPageOf p.space (record { from = r.from; rights = r.rights; bytes = r.bytes.items })) c.self.view_is
    (page_of_buffer buffers c.in-Some.index r c.self.invariant.0 holder.within c.remove-buffer.ensures.value))
