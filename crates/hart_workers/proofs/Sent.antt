-- A machine may go to another thread where its origin and its devices may.
use denote.Param.Send.{IsSend, sendable}
use denote.RattleType.{RattleType}
use Rattle.std.proofs.Crossing.{crosses}
use Rattle.run_history.proofs.entry.Entry.TheLaws.TheKnot as entries
use Rattle.open_calls.specs.contracts.calls.Calls as calls
use Rattle.hart_step.proofs.engine.Engine.TheSendSync as engine
use Rattle.machine_core.proofs.start_points.StartPoints.TheSendSync as points
use Rattle.machine_core.specs.contracts.inner.Inner as inner
use Rattle.machine_core.specs.contracts.machine.Quiet as machine

-- each search goes through one layer: one through the whole machine ends at its bound
calls_send : IsSend calls.the_row
calls_send = search (crosses, entries.crosses, sendable) depth 60 fits 20000

inner_send : (K : RattleType) (o : _) → IsSend K → IsSend (inner.the_row K o)
inner_send K o k = search (crosses, calls_send, engine.the_send, points.the_send, sendable) depth 60 fits 20000

pub machine_send : (K S T P : RattleType) (o : _) (s : _) (t : _) (p : _) → IsSend K → IsSend S → IsSend T → IsSend P → IsSend (machine.the_row K S T P o s t p)
machine_send K S T P o s t p k c d e = search (crosses, inner_send, sendable) depth 60 fits 20000
