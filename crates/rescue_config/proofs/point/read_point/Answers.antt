use Rattle.std.proofs.Common.{ℕ, Option, rules, sym, subst, ◌∙◌}
use Rattle.rescue_config.specs.declared.point_fault.PointFault.{PointFault}
use Rattle.rescue_config.specs.Tells.{IsCause}
use Rattle.toml.specs.View.{table_view}
use Rattle.rescue_config.specs.ReadFields.{target_function}
use Rattle.rescue_config.proofs.RuleLists.{KeepsFirst, fields_broken, kind_broken, name_broken, entry_left, entry_is}
use Rattle.rescue_config.proofs.point.read_point.Goals as goal

pub returns-in_err-fields-clause-rules : goal.returns-in_err-fields-clause-rules
returns-in_err-fields-clause-rules c =
    let point = table_view c.args.table.now in
    let cause = fields_broken c.args.version c.args.symbols.now c.args.text.now c.args.earlier.now point c.in_err-fields.field-0.0 c.in_err-fields.ensures.rules in
    search (rules, cause)

pub returns-in_err-check_kind-clause-rules : goal.returns-in_err-check_kind-clause-rules
returns-in_err-check_kind-clause-rules c =
    let point = table_view c.args.table.now in
    let cause = kind_broken c.args.version c.args.symbols.now c.args.text.now c.args.earlier.now point c.in_ok-fields.fields.kind c.in_err-check_kind.field-0.0 c.in_ok-fields.ensures.fields.kind c.in_ok-fields.ensures.rules c.in_err-check_kind.ensures.rules in
    search (rules, cause)

pub returns-in_err-entry-clause-rules : goal.returns-in_err-entry-clause-rules
returns-in_err-entry-clause-rules c =
    let point = table_view c.args.table.now in
    let fields = c.in_ok-fields.fields in
    let keeps : KeepsFirst c.args.version c.args.earlier.now point fields.kind = record { fields = c.in_ok-fields.ensures.rules; same = c.in_ok-fields.ensures.fields.kind; mixed = c.in_ok-check_kind.ensures.rules } in
    let cause = name_broken c.args.version c.args.symbols.now c.args.text.now c.args.earlier.now point fields.kind (target_function fields.target) c.in_err-entry.field-0.0 keeps c.in_ok-fields.ensures.fields.target.function c.in_err-entry.ensures.rules in
    search (rules, cause)

pub returns-in_err-check_entry-clause-rules : goal.returns-in_err-check_entry-clause-rules
returns-in_err-check_entry-clause-rules c =
    let fault = c.in_err-check_entry.field-0.0 in
    let point = table_view c.args.table.now in
    let fields = c.in_ok-fields.fields in
    let keeps : KeepsFirst c.args.version c.args.earlier.now point fields.kind = record { fields = c.in_ok-fields.ensures.rules; same = c.in_ok-fields.ensures.fields.kind; mixed = c.in_ok-check_kind.ensures.rules } in
    let entry = c.in_ok-entry.ensures.entry ∙ entry_is c.args.symbols.now point fields.target c.in_ok-fields.ensures.fields.target in
    let left = entry_left c.args.version c.args.symbols.now c.args.text.now c.args.earlier.now point fields.kind (target_function fields.target) c.in_ok-entry.entry keeps c.in_ok-fields.ensures.fields.target.function entry c.in_ok-entry.ensures.rules in
    let P : Option (PointFault × Option ℕ) → Type 0 = λ broken. IsCause fault broken in
    let cause = subst P (sym left) c.in_err-check_entry.ensures.rules in
    search (rules, cause)

pub returns-clause-rules : goal.returns-clause-rules
returns-clause-rules c =
    let point = table_view c.args.table.now in
    let fields = c.in_ok-fields.fields in
    let keeps : KeepsFirst c.args.version c.args.earlier.now point fields.kind = record { fields = c.in_ok-fields.ensures.rules; same = c.in_ok-fields.ensures.fields.kind; mixed = c.in_ok-check_kind.ensures.rules } in
    let entry = c.in_ok-entry.ensures.entry ∙ entry_is c.args.symbols.now point fields.target c.in_ok-fields.ensures.fields.target in
    entry_left c.args.version c.args.symbols.now c.args.text.now c.args.earlier.now point fields.kind (target_function fields.target) c.in_ok-entry.entry keeps c.in_ok-fields.ensures.fields.target.function entry c.in_ok-entry.ensures.rules
    ∙ c.in_ok-check_entry.ensures.rules
