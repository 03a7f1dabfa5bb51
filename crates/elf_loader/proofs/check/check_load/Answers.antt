use Rattle.std.proofs.Common.{◌+◌, ◌++◌, [], ◌∷◌, map, sym, ap, ◌∙◌, arith}
use Rattle.std.proofs.lemmas.Bool.Decides.{nat_tests}
use Rattle.guest_words.specs.Image.{load_at, page_count}
use Rattle.elf_loader.specs.Segment.{load_of}
use Rattle.elf_loader.proofs.Headers.{load_from_at}
use Rattle.elf_loader.proofs.Places.{clash_rule}
use Rattle.elf_loader.proofs.check.check_load.Goals as goal

pub returns-in_err-refuse-4-clause-rules : goal.returns-in_err-refuse-4-clause-rules
returns-in_err-refuse-4-clause-rules c =
    let at = c.segment-segment.ensures ∙ load_from_at c.args.file.now c.args.place c.args.header.now c.requires.header in
    let clash = clash_rule c.args.earlier.now c.segment-segment.result (load_at c.args.file.now c.args.place) at ∙ sym c.any_clashes.ensures in
    grind (arith, nat_tests, clash)

pub returns-in_err-refuse-5-clause-rules : goal.returns-in_err-refuse-5-clause-rules
returns-in_err-refuse-5-clause-rules c =
    let at = c.segment-segment.ensures ∙ load_from_at c.args.file.now c.args.place c.args.header.now c.requires.header in
    let clash = clash_rule c.args.earlier.now c.segment-segment.result (load_at c.args.file.now c.args.place) at ∙ sym c.any_clashes.ensures in
    let count = ap (λ l. page_count (map load_of c.args.earlier.now ++ l ∷ [])) (sym at) ∙ c.new_pages.ensures.count ∙ ap (λ n. n + c.new_pages.result) (sym c.requires.counted) in
    grind (arith, nat_tests, clash, count)

pub returns-clause-rules : goal.returns-clause-rules
returns-clause-rules c =
    let at = c.segment-segment.ensures ∙ load_from_at c.args.file.now c.args.place c.args.header.now c.requires.header in
    let clash = clash_rule c.args.earlier.now c.segment-segment.result (load_at c.args.file.now c.args.place) at ∙ sym c.any_clashes.ensures in
    let count = ap (λ l. page_count (map load_of c.args.earlier.now ++ l ∷ [])) (sym at) ∙ c.new_pages.ensures.count ∙ ap (λ n. n + c.new_pages.result) (sym c.requires.counted) in
    grind (arith, nat_tests, clash, count)
