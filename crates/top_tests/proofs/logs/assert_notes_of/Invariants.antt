use Rattle.guest_words.specs.Start.{start_of}
use Rattle.edge_ports.specs.InMemory.{port_end, sink_end, source_end}
use Rattle.edge_ports.specs.Seen.{seen}
use Rattle.machine_core.specs.declared.limits.Mode.TheVariants.{Lone}
use Rattle.top_tests.proofs.logs.assert_notes_of.Given as goal

abbrev pub ghosts-start : goal.ghosts-start
ghosts-start g a = record {
  state = start_of a.image.now a.points.now 1 0 9;
  devices = seen source_end sink_end port_end a.devices;
  mode = Lone;
}
