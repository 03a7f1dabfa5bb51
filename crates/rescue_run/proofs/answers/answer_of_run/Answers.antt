use Rattle.std.proofs.Common.{length, sym, subst}
use Rattle.std.proofs.lemmas.List.{length-map}
use Rattle.edge_ports.specs.Seen.{seen}
use Rattle.rescue_run.specs.Headline.{IsRunOn}
use Rattle.rescue_run.specs.Top.{sides, told, RunsOn}
use Rattle.rescue_run.proofs.Answering.{run_told}
use Rattle.rescue_run.proofs.answers.answer_of_run.Goals as goal

pub returns-in-Ok-clause-run : goal.returns-in-Ok-clause-run
returns-in-Ok-clause-run g c = λ devices runs head.
    let source = g.S.Source.end in
    let sink = g.T.Sink.end in
    let port = g.P.Port.end in
    let start = c.args.start.now in
    let before = seen source sink port devices in
    let items = devices.ports.items in
    let old = g.R.Sink.end c.args.report.now in
    let new = g.R.Sink.end c.answer_of_ran.new.report in
    let shelf = g.F.Shelf.seen c.args.shelf.now in
    let shelf' = g.F.Shelf.seen c.answer_of_ran.new.shelf in
    let ran = c.in-Ok.ran in
    let on = subst (λ r. RunsOn source sink port start devices r) c.in-Ok.is runs in
    subst (λ a. IsRunOn start before (sides shelf shelf' old new) (told source sink port a)) (sym c.answer_of_ran.ensures.answer)
    (run_told start before (length items) c.args.head.now shelf shelf' old new ran.history.entries ran.points ran.ending c.answer_of_ran.result.outcome
    (seen source sink port ran.devices) (sym (length-map items port)) head on.run on.matches c.answer_of_ran.ensures.reports)
