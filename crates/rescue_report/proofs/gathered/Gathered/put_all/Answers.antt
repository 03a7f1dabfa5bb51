use Rattle.std.proofs.Common.{◌+◌, ◌++◌, drop, rules, subst}
use Rattle.std.specs.List.{flat_map}
use Rattle.std.proofs.lemmas.List.{drop_more}
use Rattle.rescue_report.specs.ListPuts.{BreaksFront, PutsFront}
use Rattle.rescue_report.proofs.ListPuts.{BreaksFront-then, PutsFront-then}
use Rattle.rescue_report.proofs.gathered.Gathered.put_all.Goals as goal

pub returns-in_err-put-clause-breaks : goal.returns-in_err-put-clause-breaks
returns-in_err-put-clause-breaks g c =
    let pieces = c.args.pieces.now in
    let k = c.loop-piece.piece-index in
    let all = c.args.self.now ++ flat_map (λ piece. piece.now) pieces in
    let breaks : BreaksFront all (g.R.Sink.end c.args.sink.now) (g.R.Sink.end c.put.new.sink) =
    BreaksFront-then all c.loop-piece.self _ (flat_map (λ piece. piece.now) (drop (k + 1) pieces))
    (g.R.Sink.end c.args.sink.now) (g.R.Sink.end c.loop-piece.sink) (g.R.Sink.end c.put.new.sink)
    (subst (λ xs. PutsFront all (c.loop-piece.self ++ flat_map (λ piece. piece.now) xs) (g.R.Sink.end c.args.sink.now) (g.R.Sink.end c.loop-piece.sink))
    (drop_more pieces k _ c.loop-piece-test.true) c.loop-piece.invariant)
    c.in_err-put.ensures.breaks in
    search (rules, breaks)

pub loop-piece-preserved : goal.loop-piece-preserved
loop-piece-preserved g c =
    let pieces = c.args.pieces.now in
    let k = c.loop-piece.piece-index in
    let all = c.args.self.now ++ flat_map (λ piece. piece.now) pieces in
    PutsFront-then all c.loop-piece.self _ (flat_map (λ piece. piece.now) (drop (k + 1) pieces))
    (g.R.Sink.end c.args.sink.now) (g.R.Sink.end c.loop-piece.sink) (g.R.Sink.end c.put.new.sink) c.put.new.self
    (subst (λ xs. PutsFront all (c.loop-piece.self ++ flat_map (λ piece. piece.now) xs) (g.R.Sink.end c.args.sink.now) (g.R.Sink.end c.loop-piece.sink))
    (drop_more pieces k _ c.loop-piece-test.true) c.loop-piece.invariant)
    c.in_ok-put.ensures.ok
