use Rattle.std.proofs.Common.{ap, sym, subst}
use Rattle.machine_core.specs.Machine.{Machine}
use Rattle.rescue_run.specs.Runs.{KeepsOrder}
use Rattle.rescue_run.proofs.Coming.{lone_whole, ran_on}
use Rattle.rescue_run.proofs.run.run_from.Goals as goal

pub returns : goal.returns
returns g c =
    let from = g.K.Origin.state in
    let ran = c.ran_of.result in
    let begun = c.in_ok-machine.ensures.ok in
    let order = lone_whole from c.in-Lone.seed c.in_ok-machine.machine c.run_alone.result ran.history.entries
    (ap (λ (m : Machine). m.history) begun) (ap (λ (m : Machine). m.state) begun) c.run_alone.ensures.lone c.ran_of.ensures.history in
    record {
      runs = ran_on g.S.Source.end g.T.Sink.end g.P.Port.end c.args.start.now c.args.devices ran from g.K.Origin.devices
          c.requires.state c.requires.devices c.ran_of.ensures.run c.ran_of.ensures.matches
          (subst (λ s. KeepsOrder s from ran.history.entries) (sym c.in-Lone.is) order);
    }
