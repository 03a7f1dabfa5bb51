use Rattle.edge_ports.specs.Adapters.{file_port_end}
use Rattle.edge_ports.specs.End.{untold}
use Rattle.rescue_run.proofs.NamedPorts.{headline_by}
use Rattle.rescue_run.proofs.file_ports.alone_on_files.Goals as goal

pub returns-clause-headline : goal.returns-clause-headline
returns-clause-headline g c =
    headline_by g.S.Source.end g.T.Sink.end file_port_end (λ _. untold 0 0) c.args.input c.args.out c.args.err c.file_ports-ports.result.items c.args.names.now
    _ _ _ _ _ _ _ _ _ _ _ c.connect-devices.ensures.told c.file_ports-ports.ensures.fresh c.name_count.ensures c.prepare-prepared.ensures.prepares
    c.prepare-prepared.ensures.follows c.answer.ensures.status c.answer.ensures.comes
