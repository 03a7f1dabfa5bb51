use Rattle.std.proofs.Common.{◌++◌, ◌∷◌, [], sym, ap, subst, ◌∙◌}
use Rattle.guest_words.specs.Points.{IsPointList}
use Rattle.guest_words.proofs.PointLists.{IsPointList-append}
use Rattle.toml.specs.View.{table_view}
use Rattle.rescue_config.specs.Document.{first_at_point}
use Rattle.rescue_config.specs.PointRules.{point_rules, point_of}
use Rattle.rescue_config.proofs.RuleLists.{another_entry}
use Rattle.rescue_config.proofs.reader.add_point.Goals as goal

pub returns-in-Ok-clause-list : goal.returns-in-Ok-clause-list
returns-in-Ok-clause-list c =
    let points = c.args.points.now.items in
    let table = table_view c.table_of.result.now in
    let symbols = c.args.symbols.now in
    let kept = ap (λ ps. first_at_point (point_rules c.args.version symbols c.args.text.now ps table)) (sym c.as_slice.ensures.value) ∙ c.in_ok-point.ensures.rules in
    let other = another_entry c.args.version symbols c.args.text.now points table kept in
    let longer = IsPointList-append points (point_of c.args.version symbols table) c.requires.list c.requires.room other in
    let same = c.in-Ok.ensures.items ∙ ap (λ p. points ++ p ∷ []) c.in_ok-point.ensures.point in
    subst IsPointList (sym same) longer
