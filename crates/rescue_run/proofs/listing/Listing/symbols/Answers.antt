use Rattle.std.proofs.Common.{refl, sym, ap, ◌∙◌}
use Rattle.elf_symbols.specs.SymbolTable.{first_symbol_fault}
use Rattle.rescue_run.proofs.listing.Listing.symbols.Goals as goal

-- a file that breaks no rule isn't refused
pub returns-in-Err : goal.returns-in-Err
returns-in-Err c =
    let e = c.in-Err in
    let broken = (e.ensures.cause e.field-0.fault e.field-0.offset).0 refl in
    let kept = ap first_symbol_fault c.items.ensures.list ∙ c.self.invariant.kept in
    let clash = sym broken ∙ kept in
    cc
