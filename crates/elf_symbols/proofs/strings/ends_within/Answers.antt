use Rattle.std.proofs.Common.{take, ap, ◌∙◌, arith, add-one}
use Rattle.guest_words.specs.Image.{contains}
use Rattle.elf_symbols.proofs.NameBytes.{ends_below}
use Rattle.elf_symbols.proofs.strings.ends_within.Goals as goal

pub returns-else-bytes-longest : goal.returns-else-bytes-longest
returns-else-bytes-longest c =
    let bytes = c.args.bytes.now in
    c.contains.ensures.value
    ∙ ap (λ n. contains (take n bytes) 0) (add-one c.args.longest)
    ∙ ends_below bytes c.args.longest (omega (arith, c.if-bytes-longest.false))
