use Rattle.guest_words.specs.Start.{start_of}
use Rattle.edge_ports.specs.InMemory.{port_end, sink_end, source_end}
use Rattle.edge_ports.specs.Seen.{seen}
use Rattle.machine_core.specs.declared.limits.Mode.TheVariants.{Shared}
use Rattle.top_tests.proofs.commits.start_two.Given as goal

abbrev pub ghosts-start : goal.ghosts-start
ghosts-start g a = record {
  state = start_of a.image.now a.points.now 2 0 16;
  devices = seen source_end sink_end port_end a.devices;
  mode = Shared;
}
