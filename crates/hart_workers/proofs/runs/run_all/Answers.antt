use denote.Param.Send.{sendable}
use Rattle.hart_workers.proofs.Sent.{machine_send}
use Rattle.hart_workers.proofs.runs.run_all.Goals as goal

pub run_part-pass-requires-clause-sends : goal.run_part-pass-requires-clause-sends
run_part-pass-requires-clause-sends g c = λ κs within.
    let may = c.type_bounds in
    search (machine_send, may.send-K, may.send-S, may.send-T, may.send-P, sendable) depth 20
