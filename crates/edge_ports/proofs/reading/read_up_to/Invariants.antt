use Rattle.std.proofs.Common.{◌≤◌, length}
use Rattle.std.specs.Io.KnownBytes.{Consumes}
use Rattle.edge_ports.proofs.reading.read_up_to.Given as goal

-- what was read so far went from the front of what was left
abbrev pub invariant-loop : goal.invariant-loop
invariant-loop g l = record {
  within : length l.bytes.items ≤ l.limit;
  read : Consumes (g.I.Read.remaining l.initial.reader) (g.I.Read.remaining l.reader) l.bytes.items;
}
