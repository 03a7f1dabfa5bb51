use Rattle.std.proofs.Common.{◌≡◌, true, not, refl, sym, ap, ◌∙◌}
use Rattle.std.specs.Str.{bytes_eq}
use Rattle.elf_symbols.proofs.NameBytes.{whole_name}
use Rattle.elf_symbols.proofs.strings.is_whole.Goals as goal

pub returns-then-eq : goal.returns-then-eq
returns-then-eq c =
    let same : bytes_eq c.args.bytes.now c.args.name.now ≡ true = sym c.eq.ensures ∙ c.if-eq.true in
    ap not c.contains.ensures.value ∙ sym (whole_name c.args.bytes.now c.args.name.now c.requires ∙ (rw same refl))
