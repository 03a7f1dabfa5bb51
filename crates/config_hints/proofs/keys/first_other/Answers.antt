use Rattle.std.proofs.Common.{ap, ◌∙◌, string_bytes}
use Rattle.std.specs.Prelude.{Some, option_map}
use Rattle.toml.specs.View.{table_view}
use Rattle.rescue_config.specs.Version.{version_of}
use Rattle.config_hints.specs.Keys.{is_key_at}
use Rattle.config_hints.proofs.KeyLists.{find-first_other}
use Rattle.config_hints.proofs.keys.first_other.Goals as goal

pub returns-in-None : goal.returns-in-None
returns-in-None c =
    ap (option_map (λ key. string_bytes key)) c.in-None.ensures
    ∙ find-first_other (is_key_at (version_of (table_view c.args.file.now)) c.args.place) c.args.table.now.entries

pub returns-in-Some : goal.returns-in-Some
returns-in-Some c =
    ap Some c.as_str.ensures.value
    ∙ ap (option_map (λ key. string_bytes key)) c.in-Some.ensures
    ∙ find-first_other (is_key_at (version_of (table_view c.args.file.now)) c.args.place) c.args.table.now.entries
