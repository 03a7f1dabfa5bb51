use Rattle.edge_ports.proofs.PortEnds.{others, shuts}
use Rattle.edge_ports.proofs.devices.Devices.shut_port.Goals as goal

pub returns-clause-closes : goal.returns-clause-closes
returns-clause-closes g c =
    shuts g.S.Source.end g.T.Sink.end g.P.Port.end c.args.self.now c.args.fd c.requires.port.0 c.requires.port.1 c.index_mut.result.now c.index_mut.ensures.value c.close.new.self c.push_reserved.new.self.items c.close.ensures.ended c.push_reserved.ensures.items

pub returns-clause-others : goal.returns-clause-others
returns-clause-others g c =
    others g.S.Source.end g.T.Sink.end g.P.Port.end c.args.self.now c.args.fd c.requires.port.0 c.requires.port.1 c.index_mut.result.now c.index_mut.ensures.value c.close.new.self c.push_reserved.new.self
