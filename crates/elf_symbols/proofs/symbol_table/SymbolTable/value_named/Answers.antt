use Rattle.std.proofs.Common.{◌∷◌, [], sym, ap, ◌∙◌}
use Rattle.std.proofs.lemmas.Str.{is_utf8-from_IsUtf8}
use Rattle.elf_symbols.proofs.Values.{value_here, value_elsewhere}
use Rattle.elf_symbols.proofs.symbol_table.SymbolTable.value_named.Goals as goal

pub returns-then-is_named : goal.returns-then-is_named
returns-then-is_named c =
    let table = c.args.self.now in
    let text = is_utf8-from_IsUtf8 c.args.name.now c.utf8.name in
    ap (λ v. v ∷ []) c.u64_at.ensures
    ∙ sym (value_here table.file.now table.strings.now c.args.entry c.args.name.now (sym c.is_named.ensures ∙ c.if-is_named.true) text)

pub returns-else-is_named : goal.returns-else-is_named
returns-else-is_named c =
    let table = c.args.self.now in
    sym (value_elsewhere table.file.now table.strings.now c.args.entry c.args.name.now (sym c.is_named.ensures ∙ c.if-is_named.false))
