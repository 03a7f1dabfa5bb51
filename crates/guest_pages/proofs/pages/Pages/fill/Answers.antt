use Rattle.std.proofs.Common.{◌≤◌, ◌∙◌, ap, arith, ◌+◌, ◌-◌, drop, length}
use Rattle.std.proofs.lemmas.List.{length-drop, take_rest}
use Rattle.guest_words.specs.Space.{with_bytes}
use Rattle.guest_pages.specs.Paged.{Paged}
use Rattle.guest_pages.proofs.Filling.{fill_more}
use Rattle.guest_pages.proofs.pages.Pages.fill.Goals as goal

pub loop-done-preserved : goal.loop-done-preserved
loop-done-preserved c =
    let bytes = c.args.bytes.now in
    let done = c.loop-done.done in
    let count = c.fill_page-done.result in
    let within = c.loop-done.invariant.within in
    let long = length-drop done bytes in
    let rest = ap length (take_rest bytes done) in
    let upto = c.fill_page-done.ensures.within in
    let short : count ≤ length bytes - done = omega (arith, long, rest, upto) in
    record {
      within = omega (arith, within, short);
      same = ap (λ (p : Paged). record p { space = with_bytes p.space (c.args.address + (done + count)) (drop (done + count) bytes) }) c.fill_page-done.ensures.value
          ∙ fill_more c.loop-done.self c.args.address done count bytes within short
          ∙ c.loop-done.invariant.same;
    }
