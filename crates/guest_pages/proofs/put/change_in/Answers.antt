use Rattle.std.proofs.Common.{◌∙◌, ap, arith, refl, ◌-◌}
use Rattle.guest_pages.proofs.Lows.{length-low_bytes}
use Rattle.guest_words.specs.Space.{low_bytes}
use Rattle.guest_words.specs.Widths.{bytes_in}
use Rattle.guest_pages.specs.Buffers.{placed}
use Rattle.guest_pages.proofs.put.change_in.Goals as goal

pub returns-clause-stored : goal.returns-clause-stored
returns-clause-stored g c =
    let w = bytes_in c.args.width in
    let buffer = c.args.buffer.now in
    let long = length-low_bytes w (g.C.Change.changed c.args.change.now c.number_in-old.result) in
    let low = c.if-not-has_all.ensures.low refl in
    let high = c.if-not-has_all.ensures.high refl in
    record {
      from = refl;
      rights = refl;
      low = low;
      fits = omega (arith, long, low, high);
      bytes = c.put_low.ensures.value
          ∙ ap (λ n. placed buffer.bytes.items (c.args.address - buffer.from) (low_bytes w n)) c.changed.ensures.value;
    }
