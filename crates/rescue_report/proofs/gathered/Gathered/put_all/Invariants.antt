use Rattle.std.proofs.Common.{◌++◌, drop}
use Rattle.std.specs.List.{flat_map}
use Rattle.rescue_report.specs.ListPuts.{PutsFront}
use Rattle.rescue_report.proofs.gathered.Gathered.put_all.Given as goal

abbrev pub invariant-loop-piece : goal.invariant-loop-piece
invariant-loop-piece g l =
    PutsFront (l.fn.self ++ flat_map (λ piece. piece.now) l.fn.pieces)
    (l.self ++ flat_map (λ piece. piece.now) (drop l.piece-index l.fn.pieces))
    (g.R.Sink.end l.fn.sink) (g.R.Sink.end l.sink)
