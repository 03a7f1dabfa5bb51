use Rattle.std.proofs.Common.{◌∙◌, ◌++◌, ap, sym, arith, [], ◌∷◌}
use Rattle.guest_words.specs.Space.{byte_of}
use Rattle.guest_pages.proofs.Copying.{bytes_at-one}
use Rattle.guest_pages.proofs.Spelling.{bytes_at-stretch}
use Rattle.guest_pages.proofs.pages.Pages.append_bytes.Goals as goal

pub returns-in_default-clause-value : goal.returns-in_default-clause-value
returns-in_default-clause-value c =
    let m = c.args.self.now.space in
    c.in_ok-push.ensures.items ∙ ap (λ bs. c.args.bytes.now.items ++ bs) (sym (bytes_at-one m c.args.from ∙ ap (λ o. byte_of o ∷ []) c.in_default.ensures.none))

pub returns-clause-value : goal.returns-clause-value
returns-clause-value c =
    let m = c.args.self.now.space in
    let stretch = c.in-Some.stretch in
    c.in_ok-extend_from_slice.ensures.items
    ∙ ap (λ bs. c.args.bytes.now.items ++ bs) (sym (bytes_at-stretch m c.args.from c.min-count.result stretch.rights stretch.bytes.now c.in-Some.ensures.found (omega (arith, c.min-count.ensures))))
