use Rattle.std.proofs.Common.{refl, rules, sym, ◌∙◌}
use Rattle.elf_symbols.specs.SymbolTable.{name_rule}
use Rattle.elf_symbols.proofs.PlaceLists.{places_none, rules_next, rules_stop}
use Rattle.elf_symbols.proofs.symbol_table.SymbolTable.check_names.Goals as goal

pub loop-k-init : goal.loop-k-init
loop-k-init c = rw places_none refl

pub loop-k-preserved : goal.loop-k-preserved
loop-k-preserved c =
    let table = c.args.self.now in
    let kept = sym c.breaks_rule.ensures ∙ c.in_ok-refuse.ensures.ok in
    rules_next (name_rule table.file.now table.strings.now) table.first 24 c.loop-k.k c.loop-k.invariant kept

pub returns-in_err-refuse : goal.returns-in_err-refuse
returns-in_err-refuse c =
    let table = c.args.self.now in
    let broken = sym c.breaks_rule.ensures ∙ c.in_err-refuse.ensures.err.0 in
    let stop = rules_stop (name_rule table.file.now table.strings.now) table.first 24 c.loop-k.k table.count c.loop-k-test.true c.loop-k.invariant broken in
    rw stop (search rules)
