use Rattle.std.proofs.Common.{ℕ, List, refl, ap, sym, ◌∙◌}
use Rattle.edge_ports.specs.InMemory.{port_end, sink_end, sure_end, PortState, SinkState}
use Rattle.edge_ports.specs.Seen.{seen}
use Rattle.rescue_run.specs.declared.run.Ran.{Ran}
use Rattle.rescue_run.specs.Load.{out_of}
use Rattle.rescue_run.proofs.Loads.{load_out}
use Rattle.rescue_run.proofs.load.run_load.Goals as goal

pub returns-in-Ok-clause-out : goal.returns-in-Ok-clause-out
returns-in-Ok-clause-out c =
    let ran = c.in-Ok.ran in
    let same = c.if_sure.ensures.same in
    ap (λ (r : Ran (List ℕ) SinkState PortState). r.devices.out.given) same
    ∙ load_out c.args.load.input (seen sure_end sink_end port_end c.in_ok-devices.devices) (seen sure_end sink_end port_end ran.devices)
    ran.history.entries ran.devices.out.given c.in_ok-devices.ensures.told c.in-Ok.ensures.runs.matches refl
    ∙ sym (ap (λ (r : Ran (List ℕ) SinkState PortState). out_of r.history.entries) same)
