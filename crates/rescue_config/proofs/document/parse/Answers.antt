use Rattle.std.proofs.Common.{refl, sym, ap, ◌∙◌}
use Rattle.toml.specs.Parse.{parse_document}
use Rattle.rescue_config.specs.Tells.{unparsed}
use Rattle.rescue_config.proofs.Reading.{document_of-text, document_of-other}
use Rattle.rescue_config.proofs.document.parse.Goals as goal

pub returns-in_default-clause-rules : goal.returns-in_default-clause-rules
returns-in_default-clause-rules c =
    let other = document_of-other c.args.bytes.now c.in_default.ensures.cases.0 in
    rw (c.of_file.ensures, other) refl

pub returns-in-Ok-table_from_str-clause-rules : goal.returns-in-Ok-table_from_str-clause-rules
returns-in-Ok-table_from_str-clause-rules c =
    let text = document_of-text c.args.bytes.now c.in-Ok.ensures.cases.1 in
    let same = ap parse_document (sym c.in-Ok.ensures.cases.0) in
    ap unparsed (text ∙ same ∙ c.in-Ok-table_from_str.ensures.ok)

pub returns-in-Ok-table_from_str-clause-file : goal.returns-in-Ok-table_from_str-clause-file
returns-in-Ok-table_from_str-clause-file c =
    let text = document_of-text c.args.bytes.now c.in-Ok.ensures.cases.1 in
    let same = ap parse_document (sym c.in-Ok.ensures.cases.0) in
    text ∙ same ∙ c.in-Ok-table_from_str.ensures.ok
