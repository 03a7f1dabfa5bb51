use Rattle.std.proofs.Common.{◌≡◌, ◌∷◌, ◌++◌, rules, not, None}
use Rattle.guest_words.specs.Rules.{rule}
use Rattle.toml.specs.View.{table_view}
use Rattle.rescue_config.specs.declared.point_fault.PointFault.TheVariants.{UnknownKey}
use Rattle.rescue_config.specs.Document.{first_at_point}
use Rattle.rescue_config.specs.Fields.{is_point_key, has_only}
use Rattle.rescue_config.specs.PointRules.{target_rules, rescue_rules, kind_rules}
use Rattle.rescue_config.proofs.RuleLists.{cause_first, cause_next}
use Rattle.rescue_config.proofs.fields.read_fields.Goals as goal

pub returns-in_err-rescues-clause-rules : goal.returns-in_err-rescues-clause-rules
returns-in_err-rescues-clause-rules c =
    let point = table_view c.args.table.now in
    let number = c.args.number in
    let fault = c.in_err-rescues.field-0.0 in
    let first = rule (not (has_only (is_point_key c.args.version) point)) UnknownKey number ∷ target_rules number point in
    let kept : first_at_point first ≡ None = search (rules, c.in_ok-target.ensures.rules) in
    let rest = kind_rules c.args.version number point in
    let here = cause_first fault (rescue_rules number point) rest c.in_err-rescues.ensures.rules in
    let cause = cause_next fault first (rescue_rules number point ++ rest) kept here in
    search (rules, cause)
