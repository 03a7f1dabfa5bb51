use Rattle.std.proofs.Common.{◌∙◌, ◌-◌, ap, sym, subst, arith, length, List}
use Rattle.guest_pages.specs.declared.page_buffer.PageBuffer.{PageBuffer}
use Rattle.guest_pages.specs.Buffers.{AreSorted, IsCountBefore, IsPageBuffer, cells_of}
use Rattle.guest_pages.specs.Paged.{Paged, with_run, with_page}
use Rattle.guest_pages.specs.Stretch.{IsFree}
use Rattle.guest_pages.proofs.Moving.{sorted-insert, cells_of-insert}
use Rattle.guest_pages.proofs.pages.Pages.put_page.Goals as goal

pub invariant_of-self : goal.invariant_of-self
invariant_of-self c =
    let buffers = c.self.inside.buffers.items in
    let n = c.count_before-index.result in
    let from = c.of.ensures.from in
    let size = ap length c.of.ensures.bytes in
    let aligned = c.requires.aligned in
    let below = c.requires.below in
    let whole = c.requires.whole in
    let is : IsPageBuffer c.of.result = record { aligned = omega (arith, from, aligned); whole = omega (arith, size, whole); below = omega (arith, from, size, whole, below) } in
    let free = subst (λ q. IsFree (cells_of buffers) q 4096) (sym from) (subst (λ (p : Paged). IsFree p.space c.args.page.from 4096) (sym c.self.view_is) c.requires.free) in
    let before = subst (λ q. IsCountBefore buffers q n) (sym from) (subst (λ (bs : List PageBuffer). IsCountBefore bs c.args.page.from n) c.as_slice.ensures.value c.count_before-index.ensures.value) in (
      subst AreSorted (sym c.in-Ok.ensures.items) (sorted-insert buffers n c.of.result c.self.invariant.0 before free is),
      let room = c.self.invariant.1 in
          let long = c.in-Ok.ensures.len in
          let more = c.in-Ok.ensures.capacity in
          let some = c.requires.room in
          let spare = ap (λ (p : Paged). p.spare) c.self.view_is in
          omega (arith, room, long, more, some, spare),
    )

pub returns : goal.returns
returns c = record {
  value =
      let buffers = c.self.inside.buffers.items in
      let n = c.count_before-index.result in
      let from = c.of.ensures.from in
      let size = ap length c.of.ensures.bytes in
      let aligned = c.requires.aligned in
      let below = c.requires.below in
      let whole = c.requires.whole in
      let is : IsPageBuffer c.of.result = record { aligned = omega (arith, from, aligned); whole = omega (arith, size, whole); below = omega (arith, from, size, whole, below) } in
      let free = subst (λ q. IsFree (cells_of buffers) q 4096) (sym from) (subst (λ (p : Paged). IsFree p.space c.args.page.from 4096) (sym c.self.view_is) c.requires.free) in
      let before = subst (λ q. IsCountBefore buffers q n) (sym from) (subst (λ (bs : List PageBuffer). IsCountBefore bs c.args.page.from n) c.as_slice.ensures.value c.count_before-index.ensures.value) in
      ap (λ m. record { space = m; spare = c.self.inside.spare - 1 })
      (ap (λ (bs : List PageBuffer). cells_of bs) c.in-Ok.ensures.items
      ∙ cells_of-insert buffers n c.of.result c.self.invariant.0 before free is
      ∙ (λ t. with_run (cells_of buffers) (from t) (c.of.ensures.rights t) (c.of.ensures.bytes t)))
      ∙ ap (λ (p : Paged). record { space = with_page p.space c.args.page; spare = p.spare - 1 }) c.self.view_is;
}
