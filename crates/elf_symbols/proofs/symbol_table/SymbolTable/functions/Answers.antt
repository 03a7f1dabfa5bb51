use Rattle.std.proofs.Common.{◌++◌, ◌+◌, ◌*◌, sym, ap, ◌∙◌}
use Rattle.elf_symbols.specs.SymbolTable.{symbol_at}
use Rattle.elf_symbols.proofs.PlaceLists.{places_none, flat_map_next}
use Rattle.elf_symbols.proofs.symbol_table.SymbolTable.functions.Goals as goal

pub loop-k-init : goal.loop-k-init
loop-k-init c = rw places_none c.in_ok-symbols.ensures.items

pub loop-k-preserved : goal.loop-k-preserved
loop-k-preserved c =
    let table = c.args.self.now in
    let symbol = symbol_at table.file.now table.strings.now in
    c.in_ok-add_symbol.ensures
    ∙ ap (λ xs. xs ++ symbol (table.first + 24 * c.loop-k.k)) c.loop-k.invariant
    ∙ sym (flat_map_next symbol table.first 24 c.loop-k.k)
