use Rattle.std.proofs.Common.{length}
use Rattle.edge_ports.specs.Seen.{seen}
use Rattle.machine_core.specs.declared.limits.Mode.TheVariants.{Lone}
use Rattle.rescue_run.specs.Runs.{start_of_run}
use Rattle.rescue_run.proofs.run.run.Given as goal

abbrev pub ghosts-run_from : goal.ghosts-run_from
ghosts-run_from g a = record {
  state = start_of_run a.start.now (length a.devices.ports.items);
  devices = seen g.S.Source.end g.T.Sink.end g.P.Port.end a.devices;
  mode = Lone;
}
