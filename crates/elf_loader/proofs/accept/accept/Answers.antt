use Rattle.std.proofs.Common.{rules, ◌∙◌}
use Rattle.elf_loader.proofs.FileRules.{fault_of_header, fault_of_table, fault_of_entry}
use Rattle.elf_loader.proofs.accept.accept.Goals as goal

pub returns-in_err-check_header-clause-rules : goal.returns-in_err-check_header-clause-rules
returns-in_err-check_header-clause-rules c =
    let fault = fault_of_header c.args.file.now _ c.in_err-check_header.ensures.rules in
    rw fault (search rules)

pub returns-in_err-segments-clause-rules : goal.returns-in_err-segments-clause-rules
returns-in_err-segments-clause-rules c =
    let fault = fault_of_table c.args.file.now _ c.in_ok-check_header.ensures.rules c.in_err-segments.ensures.rules in
    rw fault (search rules)

pub returns-in_err-check_entry-clause-rules : goal.returns-in_err-check_entry-clause-rules
returns-in_err-check_entry-clause-rules c =
    let fault = fault_of_entry c.args.file.now c.in_ok-check_header.ensures.rules c.in_ok-segments.ensures.rules ∙ c.in_err-check_entry.ensures in
    rw fault (search rules)

pub returns-clause-rules : goal.returns-clause-rules
returns-clause-rules c =
    fault_of_entry c.args.file.now c.in_ok-check_header.ensures.rules c.in_ok-segments.ensures.rules ∙ c.in_ok-check_entry.ensures
