use Rattle.std.proofs.Common.{◌≡◌, ◌≤◌, ◌+◌, ◌*◌, drop, length, vec_capacity, vec_len}
use Rattle.rescue_run.specs.Further.{device_files, port_names}
use Rattle.rescue_run.proofs.Furthers.{GoesOn, StopsOn}
use Rattle.rescue_run.proofs.further.load_ports.Given as goal

-- what the ports that are left come to, all come to
abbrev pub invariant-loop-port : goal.invariant-loop-port
invariant-loop-port g l =
    let seen = g.F.Shelf.seen in record {
      reads : GoesOn (device_files 3 (port_names l.fn.ports)) (seen l.fn.shelf) l.files.items l.number (drop l.port-index l.fn.ports) (seen l.shelf);
      stops : StopsOn (device_files 3 (port_names l.fn.ports)) (seen l.fn.shelf) l.number (drop l.port-index l.fn.ports) (seen l.shelf);
      number : l.number ≡ 3 + 2 * l.port-index;
      len : vec_len l.files ≡ l.port-index;
      room : length l.fn.ports ≤ vec_capacity l.files;
    }
