use Rattle.std.proofs.Common.{◌≡◌, ◌<◌, false, length, get_or, sym, ap, ◌∙◌, arith}
use Rattle.std.specs.Prelude.{◌==◌}
use Rattle.std.specs.Str.{bytes_eq}
use Rattle.std.proofs.lemmas.Bool.Decides.{nat_tests}
use Rattle.std.proofs.lemmas.Grind.{common_steps}
use Rattle.elf_symbols.proofs.NameBytes.{before_end, no_end}
use Rattle.elf_symbols.proofs.strings.is_before_zero.Goals as goal

pub returns-then-end-eq0 : goal.returns-then-end-eq0
returns-then-end-eq0 c =
    let n = length c.args.name.now in
    let below : n < length c.args.bytes.now = grind (arith, common_steps) in
    let ends : get_or c.args.bytes.now n 0 ≡ 0 = grind (arith, nat_tests, common_steps) in
    c.is_whole.ensures ∙ ap (λ xs. bytes_eq xs c.args.name.now) (before_end c.args.bytes.now n below ends)

pub returns-else-end-eq0 : goal.returns-else-end-eq0
returns-else-end-eq0 c =
    let n = length c.args.name.now in
    let below : n < length c.args.bytes.now = grind (arith, common_steps) in
    let goes : (get_or c.args.bytes.now n 0 == 0) ≡ false = grind (arith, nat_tests, common_steps) in
    let end : (c.in-Some.end.now == 0) ≡ false = grind (arith, nat_tests) in
    end ∙ sym (no_end c.args.bytes.now c.args.name.now below goes)
