use Rattle.edge_ports.specs.Adapters.{file_port_end}
use Rattle.edge_ports.specs.End.{untold}
use Rattle.rescue_run.proofs.NamedPorts.{headline_by, streams_same}
use Rattle.rescue_run.proofs.file_ports.top_on_files.Goals as goal

pub returns-clause-headline : goal.returns-clause-headline
returns-clause-headline g c =
    headline_by g.S.Source.end g.T.Sink.end file_port_end (λ _. untold 0 0) c.args.input c.args.out c.args.err c.file_ports-ports.result.items c.args.names.now
    _ _ _ _ _ _ _ _ _ _ _ c.connect-devices.ensures.told c.file_ports-ports.ensures.fresh c.name_count.ensures c.prepare-prepared.ensures.prepares
    c.prepare-prepared.ensures.follows c.answer_on_threads.ensures.status c.answer_on_threads.ensures.comes

pub returns-clause-same : goal.returns-clause-same
returns-clause-same g c =
    streams_same c.answer_on_threads.result.history c.connect-devices.result c.answer_on_threads.result.devices c.args.input c.args.out c.args.err
    c.answer_on_threads.ensures.same c.connect-devices.ensures.input c.connect-devices.ensures.out c.connect-devices.ensures.err
