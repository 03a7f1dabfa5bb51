use Rattle.std.proofs.Common.{◌≡◌, sym, ap, ◌∙◌, length, arith}
use Rattle.std.proofs.lemmas.Bool.Decides.{nat_tests}
use Rattle.toml.specs.View.{table_view}
use Rattle.rescue_config.specs.Document.{count_of, point_items}
use Rattle.rescue_config.proofs.Reading.{count_of-items}
use Rattle.rescue_config.proofs.document.check_file.Goals as goal

pub returns-then-values-gt-POINTS-clause-rules : goal.returns-then-values-gt-POINTS-clause-rules
returns-then-values-gt-POINTS-clause-rules c =
    let values = c.point_values-values.result.now in
    let count : count_of (point_items (table_view c.args.file.now)) ≡ length values = sym (ap count_of c.point_values-values.ensures) ∙ count_of-items values in
    grind (arith, nat_tests, count)

pub returns-clause-rules : goal.returns-clause-rules
returns-clause-rules c =
    let values = c.point_values-values.result.now in
    let count : count_of (point_items (table_view c.args.file.now)) ≡ length values = sym (ap count_of c.point_values-values.ensures) ∙ count_of-items values in
    grind (arith, nat_tests, count)
