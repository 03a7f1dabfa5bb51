use Rattle.std.proofs.Common.{List, ap, sym, ◌∙◌}
use Rattle.edge_ports.specs.InMemory.{port_end, sink_end, sure_end}
use Rattle.edge_ports.specs.Seen.{seen}
use Rattle.machine_core.specs.Machine.{Machine}
use Rattle.run_history.specs.declared.entry.Entry.{Entry}
use Rattle.run_history.specs.Counts.{records_of_all}
use Rattle.trial_runs.specs.Failures.{has_failed}
use Rattle.trial_runs.proofs.Running.{ran_to}
use Rattle.trial_runs.proofs.run.run_from.Goals as goal

pub returns : goal.returns
returns g c =
    let begun = c.in-Ok.ensures.ok in
    let parts = c.into_parts-history in
    record {
      runs = ran_to c.args.subject.now c.args.points.now g.K.Origin.state g.K.Origin.devices (seen sure_end sink_end port_end parts.result.2)
          c.in-Ok.machine c.run_alone-machine.result parts.result.0.entries c.in-Some.ending
          c.requires.state (c.requires.devices ∙ c.requires.told)
          (ap (λ (m : Machine). m.history) begun) (ap (λ (m : Machine). m.state) begun)
          c.run_alone-machine.ensures.lone parts.ensures.history parts.ensures.run parts.ensures.reaches
          (sym c.in-Some.is ∙ c.ending.ensures.value) parts.ensures.matches
          (sym c.if-any_failed.false ∙ c.any_failed.ensures.value ∙ ap (λ (es : List Entry). has_failed (records_of_all es)) c.items.ensures.list);
    }
