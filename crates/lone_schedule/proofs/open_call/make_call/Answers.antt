use Rattle.std.proofs.Common.{inl, inr}
use Rattle.lone_schedule.proofs.Still.{arrived_point, can_still, gives_still}
use Rattle.lone_schedule.proofs.Turned.{begun, begun_turn}
use Rattle.lone_schedule.proofs.open_call.make_call.Goals as goal

pub go_on-requires : goal.go_on-requires
go_on-requires g c =
    let m = c.args.machine in
    let point = arrived_point _ c.requires.arrived in
    record { calling = begun g.K.Origin.state c.args.hart point.0 m _ c.requires.can (c.in-Active.ensures.begins point.0 point.1) }

pub returns-in-Active : goal.returns-in-Active
returns-in-Active g c =
    let m = c.args.machine in
    let point = arrived_point _ c.requires.arrived in
    record {
      call = inr (begun_turn g.K.Origin.state c.args.hart point.0 m c.go_on.result _ c.requires.can (c.in-Active.ensures.begins point.0 point.1) c.go_on.ensures.turn);
    }

pub give_up-requires : goal.give_up-requires
give_up-requires g c =
    let point = arrived_point _ c.requires.arrived in
    record { can = can_still g.K.Origin.state c.args.machine _ (c.in-Memory.ensures.begins point.0 point.1) c.requires.can }

pub returns-in-Memory : goal.returns-in-Memory
returns-in-Memory g c =
    let point = arrived_point _ c.requires.arrived in
    record { call = inl (gives_still c.args.machine _ c.give_up.result (c.in-Memory.ensures.begins point.0 point.1) c.give_up.ensures.given) }
