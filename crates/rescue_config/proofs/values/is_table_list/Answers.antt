use Rattle.std.proofs.Common.{sym, ap, ◌∙◌}
use Rattle.toml.specs.View.{view, items_view}
use Rattle.rescue_config.specs.Fields.{are_tables}
use Rattle.rescue_config.proofs.Reading.{are_tables-list_all, is_table_list-array}
use Rattle.rescue_config.proofs.values.is_table_list.Goals as goal

pub returns-in-Some : goal.returns-in-Some
returns-in-Some c =
    let list = is_table_list-array (view c.args.value.now) (items_view c.in-Some.values.now.items) (sym c.in-Some.ensures) in
    c.are_tables.ensures
    ∙ are_tables-list_all c.as_slice.result.now
    ∙ ap (λ values. are_tables (items_view values)) c.as_slice.ensures.value
    ∙ sym list
