use Rattle.std.proofs.Common.{sym, subst}
use Rattle.rescue_run.specs.Runs.{KeepsOrder}
use Rattle.rescue_run.proofs.Coming.{ran_on}
use Rattle.rescue_run.proofs.shared.work_from.Goals as goal

pub returns : goal.returns
returns g c =
    let from = g.K.Origin.state in
    let ran = c.ran_of.result in
    record {
      runs = ran_on g.S.Source.end g.T.Sink.end g.P.Port.end c.args.start.now c.args.devices ran from g.K.Origin.devices
          c.requires.state c.requires.devices c.ran_of.ensures.run c.ran_of.ensures.matches
          (subst (λ s. KeepsOrder s from ran.history.entries) (sym c.requires.workers) tt);
    }
