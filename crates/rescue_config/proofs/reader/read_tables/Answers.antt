use Rattle.std.proofs.Common.{List, rules, sym, subst, ◌∙◌, arith}
use Rattle.guest_words.specs.declared.point.Point.{Point}
use Rattle.rescue_config.proofs.Tables.{AreRead, IsNext-get_or, AreRead-none, IsTable-next, AreRead-next, AreRead-broken, AreRead-all}
use Rattle.rescue_config.proofs.reader.read_tables.Goals as goal

pub loop-value-init : goal.loop-value-init
loop-value-init c =
    let P : List Point → Type 0 = λ points. AreRead c.args.version c.args.symbols.now c.args.text.now c.args.values.now 0 points in
    subst P (sym c.in_ok-points.ensures.items) (AreRead-none c.args.version c.args.symbols.now c.args.text.now c.args.values.now c.requires.tables)

pub add_point-requires-clause-table : goal.add_point-requires-clause-table
add_point-requires-clause-table c =
    let k = c.loop-value.value-index in
    let next = IsNext-get_or c.args.values.now k c.value-item.result c.loop-value-test.true c.value-item.is in
    IsTable-next c.args.version c.args.symbols.now c.args.text.now c.args.values.now k c.loop-value.points.items c.value-item.result next c.loop-value.invariant

pub add_point-requires-clause-room : goal.add_point-requires-clause-room
add_point-requires-clause-room c = omega (arith, c.loop-value.invariant.count, c.loop-value-test.true, c.requires.few)

pub add_point-requires-clause-list : goal.add_point-requires-clause-list
add_point-requires-clause-list c = c.loop-value.invariant.distinct

pub returns-in_err-add_point-clause-rules : goal.returns-in_err-add_point-clause-rules
returns-in_err-add_point-clause-rules c =
    let k = c.loop-value.value-index in
    let next = IsNext-get_or c.args.values.now k c.value-item.result c.loop-value-test.true c.value-item.is in
    let cause = AreRead-broken c.args.version c.args.symbols.now c.args.text.now c.args.values.now k c.loop-value.points.items c.value-item.result c.in_err-add_point.field-0.0 next c.loop-value.invariant c.in_err-add_point.ensures.rules in
    search (rules, cause)

pub loop-value-preserved : goal.loop-value-preserved
loop-value-preserved c =
    let k = c.loop-value.value-index in
    let next = IsNext-get_or c.args.values.now k c.value-item.result c.loop-value-test.true c.value-item.is in
    AreRead-next c.args.version c.args.symbols.now c.args.text.now c.args.values.now k c.loop-value.points.items c.add_point.new.points.items c.value-item.result next c.loop-value.invariant c.in_ok-add_point.ensures.rules c.in_ok-add_point.ensures.ok c.in_ok-add_point.ensures.list

pub of-requires : goal.of-requires
of-requires c = record { points = c.loop-value.invariant.distinct }

pub returns-clause-rules : goal.returns-clause-rules
returns-clause-rules c =
    (AreRead-all c.args.version c.args.symbols.now c.args.text.now c.args.values.now c.loop-value.value-index c.loop-value.points.items (omega (arith, c.loop-value-test.false)) c.loop-value.invariant).0

pub returns-clause-list : goal.returns-clause-list
returns-clause-list c =
    let all = (AreRead-all c.args.version c.args.symbols.now c.args.text.now c.args.values.now c.loop-value.value-index c.loop-value.points.items (omega (arith, c.loop-value-test.false)) c.loop-value.invariant).1 in
    c.of.ensures.list ∙ all
