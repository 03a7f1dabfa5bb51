use Rattle.std.proofs.Common.{◌+◌, ◌++◌, drop, map, rules, subst}
use Rattle.std.specs.List.{flat_map}
use Rattle.std.proofs.lemmas.List.{drop_more}
use Rattle.rescue_report.specs.List.{symbol_line, symbol_of}
use Rattle.rescue_report.specs.ListPuts.{BreaksFront, PutsFront}
use Rattle.rescue_report.proofs.ListPuts.{BreaksFront-then, PutsFront-then}
use Rattle.rescue_report.proofs.list_put.put_rows.Goals as goal

pub returns-in_err-put_row-clause-breaks : goal.returns-in_err-put_row-clause-breaks
returns-in_err-put_row-clause-breaks g c =
    let rows = c.args.rows.now in
    let k = c.loop-row.row-index in
    let all = c.args.gathered.now ++ flat_map symbol_line (map symbol_of rows) in
    let breaks : BreaksFront all (g.R.Sink.end c.args.sink.now) (g.R.Sink.end c.put_row.new.sink) =
    BreaksFront-then all c.loop-row.gathered _ (flat_map symbol_line (map symbol_of (drop (k + 1) rows)))
    (g.R.Sink.end c.args.sink.now) (g.R.Sink.end c.loop-row.sink) (g.R.Sink.end c.put_row.new.sink)
    (subst (λ xs. PutsFront all (c.loop-row.gathered ++ flat_map symbol_line (map symbol_of xs)) (g.R.Sink.end c.args.sink.now) (g.R.Sink.end c.loop-row.sink))
    (drop_more rows k _ c.loop-row-test.true) c.loop-row.invariant)
    c.in_err-put_row.ensures.breaks in
    search (rules, breaks)

pub loop-row-preserved : goal.loop-row-preserved
loop-row-preserved g c =
    let rows = c.args.rows.now in
    let k = c.loop-row.row-index in
    let all = c.args.gathered.now ++ flat_map symbol_line (map symbol_of rows) in
    PutsFront-then all c.loop-row.gathered _ (flat_map symbol_line (map symbol_of (drop (k + 1) rows)))
    (g.R.Sink.end c.args.sink.now) (g.R.Sink.end c.loop-row.sink) (g.R.Sink.end c.put_row.new.sink) c.put_row.new.gathered
    (subst (λ xs. PutsFront all (c.loop-row.gathered ++ flat_map symbol_line (map symbol_of xs)) (g.R.Sink.end c.args.sink.now) (g.R.Sink.end c.loop-row.sink))
    (drop_more rows k _ c.loop-row-test.true) c.loop-row.invariant)
    c.in_ok-put_row.ensures.ok
