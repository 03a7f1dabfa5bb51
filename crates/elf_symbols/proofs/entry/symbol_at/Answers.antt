use Rattle.std.proofs.Common.{◌≡◌, true, sym, ap, ◌∙◌, arith}
use Rattle.std.specs.Str.{is_utf8}
use Rattle.std.proofs.lemmas.Bool.Decides.{nat_tests}
use Rattle.std.proofs.lemmas.Str.{is_utf8-from_IsUtf8}
use Rattle.elf_symbols.specs.SymbolTable.{is_function}
use Rattle.elf_symbols.proofs.Entries.{not_utf8, symbol_is, no_symbol}
use Rattle.elf_symbols.proofs.entry.symbol_at.Goals as goal

pub returns-in_default : goal.returns-in_default
returns-in_default c =
    let function : is_function c.args.file.now c.args.entry ≡ true = grind (arith, nat_tests) in
    no_symbol c.args.file.now c.args.strings.now c.args.entry function (ap is_utf8 (sym c.name_of.ensures) ∙ not_utf8 c.name_of.result.now c.in_default.ensures.cases.0)

pub returns : goal.returns
returns c =
    let function : is_function c.args.file.now c.args.entry ≡ true = grind (arith, nat_tests) in
    let text = ap is_utf8 (sym c.name_of.ensures) ∙ is_utf8-from_IsUtf8 c.name_of.result.now c.in-Ok.ensures.cases.1 in
    let name = c.of.ensures.list ∙ c.in-Ok.ensures.cases.0 ∙ c.name_of.ensures in
    symbol_is c.args.file.now c.args.strings.now c.args.entry _ _ _ function text c.u64_at.ensures c.u64_at-2.ensures name
