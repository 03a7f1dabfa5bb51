use Rattle.std.proofs.Common.{◌∙◌, ◌+◌, ◌++◌, ap, sym, arith}
use Rattle.guest_words.specs.Space.{bytes_at}
use Rattle.guest_pages.proofs.Copying.{bytes_at-append, bytes_at-none}
use Rattle.guest_pages.proofs.pages.Pages.bytes_at.Goals as goal

pub loop-done-init : goal.loop-done-init
loop-done-init c = record {
  within = omega arith;
  there = c.in_ok-bytes.ensures.items ∙ sym (bytes_at-none c.args.self.now.space c.args.from);
}

pub loop-done-preserved : goal.loop-done-preserved
loop-done-preserved c =
    let m = c.args.self.now.space in
    let count = c.in_ok-done.field-0 in
    let within = c.in_ok-done.ensures.within in
    record {
      within = omega (arith, within);
      there = c.in_ok-done.ensures.value
          ∙ ap (λ bs. bs ++ bytes_at m (c.args.from + c.loop-done.done) count) c.loop-done.invariant.there
          ∙ sym (bytes_at-append m c.args.from c.loop-done.done count);
    }
