use Rattle.std.proofs.Common.{◌≡◌, ◌≤◌, length, map, take, vec_capacity, vec_len}
use Rattle.edge_ports.specs.Adapters.{file_port_end}
use Rattle.edge_ports.specs.End.{untold}
use Rattle.rescue_run.proofs.file_ports.file_ports.Given as goal

abbrev pub invariant-loop-name : goal.invariant-loop-name
invariant-loop-name g l = record {
  fresh : map file_port_end l.ports.items ≡ map (λ _. untold 0 0) (take l.name-index l.names);
  len : vec_len l.ports ≡ l.name-index;
  room : length l.names ≤ vec_capacity l.ports;
}
