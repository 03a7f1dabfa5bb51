use Rattle.rescue_run.proofs.Answering.{headline_of}
use Rattle.rescue_run.proofs.tops.top.Goals as goal

pub returns-clause-headline : goal.returns-clause-headline
returns-clause-headline g c =
    headline_of _ _ _ _ _ _ _ _ _ _ _ _ c.connect-devices.ensures.told c.port_count.ensures c.prepare-prepared.ensures.prepares
    c.prepare-prepared.ensures.follows c.answer_on_threads.ensures.status c.answer_on_threads.ensures.comes
