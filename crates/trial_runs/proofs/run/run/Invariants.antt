use Rattle.edge_ports.specs.InMemory.{port_end, sink_end, sure_end}
use Rattle.edge_ports.specs.Seen.{seen}
use Rattle.machine_core.specs.declared.limits.Mode.TheVariants.{Lone}
use Rattle.trial_runs.specs.Subjects.{start_with}
use Rattle.trial_runs.proofs.run.run.Given as goal

abbrev pub ghosts-run_from : goal.ghosts-run_from
ghosts-run_from a = record {
  state = start_with a.subject.now a.points.now;
  devices = seen sure_end sink_end port_end a.devices;
  mode = Lone;
}
