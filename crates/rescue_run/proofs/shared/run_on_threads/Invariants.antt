use Rattle.std.proofs.Common.{length}
use Rattle.edge_ports.specs.Seen.{seen}
use Rattle.machine_core.specs.declared.limits.Mode.TheVariants.{Shared}
use Rattle.rescue_run.specs.Runs.{start_of_run}
use Rattle.rescue_run.proofs.shared.run_on_threads.Given as goal

abbrev pub ghosts-work_from : goal.ghosts-work_from
ghosts-work_from g a = record {
  state = start_of_run a.start.now (length a.devices.ports.items);
  devices = seen g.S.Source.end g.T.Sink.end g.P.Port.end a.devices;
  mode = Shared;
}
