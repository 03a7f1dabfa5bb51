use Rattle.std.proofs.Common.{◌≤◌, ◌<◌, ◌+◌, length, arith}
use Rattle.std.proofs.lemmas.List.{length-map}
use Rattle.edge_ports.specs.End.{End, Takes}
use Rattle.edge_ports.proofs.PortEnds.{acts, others, stays}
use Rattle.edge_ports.proofs.devices.Devices.take.Goals as goal

pub returns-else-fd-eq0-clause-takes : goal.returns-else-fd-eq0-clause-takes
returns-else-fd-eq0-clause-takes g c =
    let high : 3 ≤ c.args.fd = omega arith in
    let within : c.args.fd < 3 + length c.args.self.now.ports.items = omega (arith, length-map c.args.self.now.ports.items g.P.Port.end) in
    let Q : End → End → Type 0 = λ a b. Takes a b c.take-else-fd-eq0.new.into c.take-else-fd-eq0.result in
    acts g.S.Source.end g.T.Sink.end g.P.Port.end c.args.self.now c.args.fd high within c.index_mut.result.now c.index_mut.ensures.value Q c.take-else-fd-eq0.new.self c.take-else-fd-eq0.ensures.takes

pub returns-else-fd-eq0-clause-same : goal.returns-else-fd-eq0-clause-same
returns-else-fd-eq0-clause-same g c =
    let high : 3 ≤ c.args.fd = omega arith in
    let within : c.args.fd < 3 + length c.args.self.now.ports.items = omega (arith, length-map c.args.self.now.ports.items g.P.Port.end) in
    stays g.S.Source.end g.T.Sink.end g.P.Port.end c.args.self.now c.args.fd high within c.index_mut.result.now c.index_mut.ensures.value c.take-else-fd-eq0.new.self c.take-else-fd-eq0.ensures.takes.closes

pub returns-else-fd-eq0-clause-others : goal.returns-else-fd-eq0-clause-others
returns-else-fd-eq0-clause-others g c =
    let high : 3 ≤ c.args.fd = omega arith in
    let within : c.args.fd < 3 + length c.args.self.now.ports.items = omega (arith, length-map c.args.self.now.ports.items g.P.Port.end) in
    others g.S.Source.end g.T.Sink.end g.P.Port.end c.args.self.now c.args.fd high within c.index_mut.result.now c.index_mut.ensures.value c.take-else-fd-eq0.new.self c.args.self.now.shut
