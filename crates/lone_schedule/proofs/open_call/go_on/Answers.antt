use Rattle.std.proofs.Common.{◌<◌, ◌∙◌, ap, sym, subst}
use Rattle.run_history.specs.Ahead.{ahead}
use Rattle.machine_core.specs.Machine.{whole, Opened}
use Rattle.machine_core.specs.OpenSteps.{abandoned_of}
use Rattle.lone_schedule.proofs.Turned.{calls_end, calls_on, calls_stop, settled, turn_of_calls}
use Rattle.lone_schedule.proofs.open_call.go_on.Goals as goal

pub loop-next-preserved : goal.loop-next-preserved
loop-next-preserved g c =
    let a = c.loop-next.call in
    let o = c.in-Active.next in
    let i = c.loop-next.invariant in
    let goes = c.in-Active.ensures.goes in
    record {
      calling = calls_on g.K.Origin.state a i.calling o goes;
      outermost = goes.outermost ∙ i.outermost;
      hart = goes.hart ∙ i.hart;
    }

pub loop-next-smaller : goal.loop-next-smaller
loop-next-smaller g c =
    let a = c.loop-next.call in
    let o = c.in-Active.next in
    let nearer = c.in-Active.ensures.nearer in
    subst (λ k. ahead o.state k < ahead a.state a.hart) (sym nearer.0) nearer.1

pub returns-in-Quiet : goal.returns-in-Quiet
returns-in-Quiet g c =
    let start = g.K.Origin.state in
    let a = c.loop-next.call in
    let i = c.loop-next.invariant in
    let n = c.in-Quiet.machine in
    record {
      turn = settled start a c.args.call n i.outermost i.hart
          (turn_of_calls start a i.calling n (calls_end start a i.calling n c.in-Quiet.ensures.goes));
    }

pub returns-in-Memory : goal.returns-in-Memory
returns-in-Memory g c =
    let start = g.K.Origin.state in
    let a = c.loop-next.call in
    let i = c.loop-next.invariant in
    let n = c.abandon.result in
    let same = c.abandon.ensures.value ∙ ap (λ (x : Opened). abandoned_of (whole x)) c.in-Memory.ensures.goes.same in
    record {
      turn = settled start a c.args.call n i.outermost i.hart
          (turn_of_calls start a i.calling n (calls_stop start a i.calling n same));
    }
