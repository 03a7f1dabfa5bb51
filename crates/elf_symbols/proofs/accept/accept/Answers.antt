use Rattle.std.proofs.Common.{◌≡◌, true, false, rules, sym, ap, ◌∙◌, arith}
use Rattle.std.proofs.lemmas.Bool.Decides.{nat_tests}
use Rattle.guest_words.specs.Rules.{first_broken}
use Rattle.elf_symbols.specs.SymbolTable.{has_sections}
use Rattle.elf_symbols.proofs.SymbolRules.{no_sections, section_fault, no_table, table_fault, name_fault, symbols_are, names_at, listed_at}
use Rattle.elf_symbols.proofs.accept.accept.Goals as goal

pub returns-then-not-has_sections-clause-rules : goal.returns-then-not-has_sections-clause-rules
returns-then-not-has_sections-clause-rules c =
    let none : has_sections c.args.file.now ≡ false = grind (arith, nat_tests) in
    (no_sections c.args.file.now none).0

pub returns-then-not-has_sections-clause-table : goal.returns-then-not-has_sections-clause-table
returns-then-not-has_sections-clause-table c =
    let none : has_sections c.args.file.now ≡ false = grind (arith, nat_tests) in
    sym (no_sections c.args.file.now none).1

pub returns-in_err-check_sections-clause-rules : goal.returns-in_err-check_sections-clause-rules
returns-in_err-check_sections-clause-rules c =
    let some : has_sections c.args.file.now ≡ true = grind (arith, nat_tests) in
    let fault = section_fault c.args.file.now _ some c.in_err-check_sections.ensures.rules in
    rw fault (search rules)

pub returns-in_default-clause-rules : goal.returns-in_default-clause-rules
returns-in_default-clause-rules c =
    let some : has_sections c.args.file.now ≡ true = grind (arith, nat_tests) in
    (no_table c.args.file.now some c.in_ok-check_sections.ensures.rules (sym c.in_default.ensures.place)).0

pub returns-in_default-clause-table : goal.returns-in_default-clause-table
returns-in_default-clause-table c =
    let some : has_sections c.args.file.now ≡ true = grind (arith, nat_tests) in
    sym (no_table c.args.file.now some c.in_ok-check_sections.ensures.rules (sym c.in_default.ensures.place)).1

pub returns-in_err-check_table-clause-rules : goal.returns-in_err-check_table-clause-rules
returns-in_err-check_table-clause-rules c =
    let some : has_sections c.args.file.now ≡ true = grind (arith, nat_tests) in
    let fault = table_fault c.args.file.now c.in-Some.place _ some c.in_ok-check_sections.ensures.rules (sym c.in-Some.ensures.place) c.in_err-check_table.ensures.rules in
    rw fault (search rules)

pub returns-in_err-check_names-clause-rules : goal.returns-in_err-check_names-clause-rules
returns-in_err-check_names-clause-rules c =
    let some : has_sections c.args.file.now ≡ true = grind (arith, nat_tests) in
    let names = ap first_broken (names_at c.args.file.now c.in-Some.place c.at-table.result c.at-table.ensures) in
    let fault = name_fault c.args.file.now c.in-Some.place some c.in_ok-check_sections.ensures.rules (sym c.in-Some.ensures.place) c.in_ok-check_table.ensures.rules ∙ sym names ∙ c.in_err-check_names.ensures in
    rw fault (search rules)

pub returns-clause-rules : goal.returns-clause-rules
returns-clause-rules c =
    let some : has_sections c.args.file.now ≡ true = grind (arith, nat_tests) in
    let names = ap first_broken (names_at c.args.file.now c.in-Some.place c.at-table.result c.at-table.ensures) in
    name_fault c.args.file.now c.in-Some.place some c.in_ok-check_sections.ensures.rules (sym c.in-Some.ensures.place) c.in_ok-check_table.ensures.rules ∙ sym names ∙ c.in_ok-check_names.ensures

pub returns-clause-table : goal.returns-clause-table
returns-clause-table c =
    let some : has_sections c.args.file.now ≡ true = grind (arith, nat_tests) in
    listed_at c.args.file.now c.in-Some.place c.at-table.result c.at-table.ensures ∙ sym (symbols_are c.args.file.now c.in-Some.place some (sym c.in-Some.ensures.place))
