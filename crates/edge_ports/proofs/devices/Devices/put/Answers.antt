use Rattle.std.proofs.Common.{◌≤◌, ◌<◌, ◌+◌, length, arith}
use Rattle.std.proofs.lemmas.List.{length-map}
use Rattle.edge_ports.specs.End.{End, Puts}
use Rattle.edge_ports.proofs.PortEnds.{acts, others, stays}
use Rattle.edge_ports.proofs.devices.Devices.put.Goals as goal

pub returns-in_default-clause-puts : goal.returns-in_default-clause-puts
returns-in_default-clause-puts g c =
    let high : 3 ≤ c.args.fd = omega arith in
    let within : c.args.fd < 3 + length c.args.self.now.ports.items = omega (arith, length-map c.args.self.now.ports.items g.P.Port.end) in
    let Q : End → End → Type 0 = λ a b. Puts a b c.args.from.now c.put-in_default.result in
    acts g.S.Source.end g.T.Sink.end g.P.Port.end c.args.self.now c.args.fd high within c.index_mut.result.now c.index_mut.ensures.value Q c.put-in_default.new.self c.put-in_default.ensures.puts

pub returns-in_default-clause-same : goal.returns-in_default-clause-same
returns-in_default-clause-same g c =
    let high : 3 ≤ c.args.fd = omega arith in
    let within : c.args.fd < 3 + length c.args.self.now.ports.items = omega (arith, length-map c.args.self.now.ports.items g.P.Port.end) in
    stays g.S.Source.end g.T.Sink.end g.P.Port.end c.args.self.now c.args.fd high within c.index_mut.result.now c.index_mut.ensures.value c.put-in_default.new.self c.put-in_default.ensures.puts.closes

pub returns-in_default-clause-others : goal.returns-in_default-clause-others
returns-in_default-clause-others g c =
    let high : 3 ≤ c.args.fd = omega arith in
    let within : c.args.fd < 3 + length c.args.self.now.ports.items = omega (arith, length-map c.args.self.now.ports.items g.P.Port.end) in
    others g.S.Source.end g.T.Sink.end g.P.Port.end c.args.self.now c.args.fd high within c.index_mut.result.now c.index_mut.ensures.value c.put-in_default.new.self c.args.self.now.shut
