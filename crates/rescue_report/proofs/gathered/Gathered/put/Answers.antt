use Rattle.std.proofs.Common.{◌++◌, ◌∙◌, subst}
use Rattle.std.specs.Prelude.{OnOk}
use Rattle.rescue_report.specs.ListPuts.{PutsFront}
use Rattle.rescue_report.proofs.ListPuts.{puts_both}
use Rattle.rescue_report.proofs.gathered.Gathered.put.Goals as goal

pub returns-clause-ok : goal.returns-clause-ok
returns-clause-ok g c =
    subst (λ text. OnOk c.put.result (PutsFront (text ++ c.args.bytes.now) c.gather-2.new.self (g.R.Sink.end c.args.sink.now) (g.R.Sink.end c.put.new.self)))
    c.if-gather.ensures.same
    (puts_both c.gather.new.self c.args.bytes.now c.gather-2.new.self
    (g.R.Sink.end c.args.sink.now) (g.R.Sink.end c.finish.new.sink) (g.R.Sink.end c.put.new.self)
    c.in_ok-finish.field-0 c.put.result c.in_ok-finish.ensures.puts c.put.ensures.puts
    (c.if-gather-2.ensures.same ∙ c.in_ok-finish.ensures.none))
