use Rattle.std.proofs.Common.{sym, ap, ◌∙◌}
use Rattle.std.specs.Prelude.{unwrap_or}
use Rattle.toml.specs.Data.{no_members}
use Rattle.toml.specs.Parse.{parse_document}
use Rattle.toml.specs.View.{members_view}
use Rattle.rescue_config.proofs.Reading.{document_of-text, document_of-other}
use Rattle.config_hints.proofs.tables.read_file.Goals as goal

pub returns-in_default : goal.returns-in_default
returns-in_default c =
    let other = document_of-other c.args.bytes.now c.in_default.ensures.cases.0 in
    record { ok = ap members_view c.new.ensures.empty ∙ sym (ap (λ d. unwrap_or d no_members) other) }

pub returns-in-Ok-table_from_str : goal.returns-in-Ok-table_from_str
returns-in-Ok-table_from_str c =
    let text = document_of-text c.args.bytes.now c.in-Ok.ensures.cases.1 in
    let same = ap parse_document (sym c.in-Ok.ensures.cases.0) in
    record { ok = sym (ap (λ d. unwrap_or d no_members) (text ∙ same ∙ c.in-Ok-table_from_str.ensures.ok)) }
