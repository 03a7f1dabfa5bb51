use Rattle.std.proofs.Common.{◌*◌, ◌∙◌, ap, subst, sym, List, ℕ, length, take, drop, arith, length-append, length-drop}
use Rattle.std.proofs.lemmas.List.{length-take}
use Rattle.guest_words.specs.Space.{without}
use Rattle.guest_pages.specs.declared.page_buffer.PageBuffer.{PageBuffer}
use Rattle.guest_pages.specs.Buffers.{AreSorted, IsCountBefore, cells_of}
use Rattle.guest_pages.proofs.Moving.{cut_at, counts_ascend, sorted-cut, cells_of-cut}
use Rattle.guest_pages.proofs.Spaces.{bytes_alone}
use Rattle.guest_pages.proofs.pages.Pages.drop_pages.Goals as goal

pub drain-requires-clause-start_le_end : goal.drain-requires-clause-start_le_end
drain-requires-clause-start_le_end c =
    let e = c.saturating_mul.ensures in
    let f = c.saturating_add-end.ensures in
    let small = c.ranges.from.fits in
    counts_ascend c.as_slice-pages.result.now c.args.from c.saturating_add-end.result c.count_before-first.result c.count_before-last.result c.count_before-first.ensures.value c.count_before-last.ensures.value (omega (arith, e, f, small))

pub invariant_of-self : goal.invariant_of-self
invariant_of-self c =
    let xs = c.self.inside.buffers.items in
    let i = c.count_before-first.result in
    let j = c.count_before-last.result in
    let all = c.as_slice-pages.ensures.value in
    let P : ℕ → ℕ → List PageBuffer → Type 0 = λ q n bs. IsCountBefore bs q n in
    let first = subst (P c.args.from i) all c.count_before-first.ensures.value in
    let last = subst (P c.saturating_add-end.result j) all c.count_before-last.ensures.value in
    let cut = cut_at xs c.args.from c.args.count c.saturating_mul.result c.saturating_add-end.result i j c.self.invariant.0 first last c.requires.aligned c.ranges.from.fits c.saturating_mul.ensures c.saturating_add-end.ensures in
    let is = c.drop-drain.ensures.items ∙ c.drain.ensures.kept in (
      subst AreSorted (sym is) (sorted-cut xs c.args.from c.saturating_add-end.result i j c.self.invariant.0 cut.first cut.last cut.ordered),
      let new = c.drop-drain.new.self.0.ok.0 in
          let old = c.self.inside.buffers.ok.0 in
          let long = ap length is in
          let both = length-append (take i xs) (drop j xs) in
          let front = length-take i xs in
          let back = length-drop j xs in
          let more = cut.ascend in
          let room = c.self.invariant.1 in
          let same = c.drain.ensures.capacity in
          let kept = c.drop-drain.ensures.capacity in
          omega (arith, new, old, long, both, front, back, more, room, same, kept),
    )

pub returns : goal.returns
returns c = record {
  value =
      let xs = c.self.inside.buffers.items in
      let i = c.count_before-first.result in
      let j = c.count_before-last.result in
      let all = c.as_slice-pages.ensures.value in
      let P : ℕ → ℕ → List PageBuffer → Type 0 = λ q n bs. IsCountBefore bs q n in
      let first = subst (P c.args.from i) all c.count_before-first.ensures.value in
      let last = subst (P c.saturating_add-end.result j) all c.count_before-last.ensures.value in
      let cut = cut_at xs c.args.from c.args.count c.saturating_mul.result c.saturating_add-end.result i j c.self.invariant.0 first last c.requires.aligned c.ranges.from.fits c.saturating_mul.ensures c.saturating_add-end.ensures in
      let is = c.drop-drain.ensures.items ∙ c.drain.ensures.kept in
      bytes_alone _ (cells_of xs) c.self.inside.spare c.args.self.now (λ m. without m c.args.from (4096 * c.args.count)) c.self.view_is
      (ap (λ (bs : List PageBuffer). cells_of bs) is
      ∙ cells_of-cut xs c.args.from c.saturating_add-end.result i j (4096 * c.args.count) c.self.invariant.0 cut.first cut.last cut.ordered cut.ends);
}
