use Rattle.std.proofs.Common.{Some, ap, sym, ◌∙◌, subst}
use Rattle.guest_words.specs.declared.ending.Ending.TheVariants as ending
use Rattle.guest_words.specs.Act.{act_of}
use Rattle.edge_ports.specs.Seen.{seen as told}
use Rattle.run_history.specs.Legal.{may_act}
use Rattle.run_history.proofs.Entries.{legal-Exit}
use Rattle.run_history.proofs.Under.{may_under}
use Rattle.hart_step.specs.declared.next_act.NextAct.{NextAct}
use Rattle.hart_step.specs.Sees.{Sees}
use Rattle.machine_core.specs.declared.stepped.Stepped.TheVariants.{Ended as Over}
use Rattle.machine_core.specs.Inner.{Inner, machine_in}
use Rattle.machine_core.proofs.Steps.{end_act}
use Rattle.machine_core.proofs.Turning.{ordinary_act, stands_ok, stepped_arrival, stepped_end, stepped_ordinary, stepped_request}
use Rattle.machine_core.proofs.inner.Inner.act_alone.Goals as goal

pub end-requires : goal.end-requires
end-requires g c =
    let s = c.args.self.now.live.state in
    let sees = subst (λ (x : NextAct). Sees s c.args.self.now.hart x) c.in-End.is c.requires.act in
    let own = c.hart-hart.ensures.value ∙ ap (λ (x : Inner). x.hart) c.self.view_is in
    record {
      legal = legal-Exit s c.hart-hart.result c.in-End.code
          (ap (λ h. may_act s h) own ∙ may_under s c.args.self.now.hart c.requires.going.under c.requires.left)
          (ap (act_of s) own ∙ end_act (act_of s c.args.self.now.hart) c.in-End.code sees);
    }

pub returns-in-Fault-clause-steps : goal.returns-in-Fault-clause-steps
returns-in-Fault-clause-steps g c =
    stands_ok c.args.self.now.hart c.args.quantum (machine_in c.args.self.now) (machine_in c.end_by_fault.new.self) c.end_by_fault.result (told g.S.Source.end g.T.Sink.end g.P.Port.end c.args.devices.now) c.end_by_fault.ensures.steps

pub returns-in_ok-serve-in-Request-clause-value : goal.returns-in_ok-serve-in-Request-clause-value
returns-in_ok-serve-in-Request-clause-value g c =
    let w = c.args.self.now in
    stepped_request w.live.state w.hart c.requires.left c.requires.going.under.ready c.in-Request.ask (subst (λ (x : NextAct). Sees w.live.state w.hart x) c.in-Request.is c.requires.act)

pub returns-in-Arrival-clause-value : goal.returns-in-Arrival-clause-value
returns-in-Arrival-clause-value g c =
    let w = c.args.self.now in
    stepped_arrival w.live.state w.hart c.requires.left c.requires.going.under.ready c.in-Arrival.point (subst (λ (x : NextAct). Sees w.live.state w.hart x) c.in-Arrival.is c.requires.act)

pub returns-in_ok-end-in-End-clause-value : goal.returns-in_ok-end-in-End-clause-value
returns-in_ok-end-in-End-clause-value g c =
    let w = c.args.self.now in
    let own = c.hart-hart.ensures.value ∙ ap (λ (x : Inner). x.hart) c.self.view_is in
    stepped_end w.live.state w.hart c.requires.left c.requires.going.under.ready c.in-End.code (subst (λ (x : NextAct). Sees w.live.state w.hart x) c.in-End.is c.requires.act)
    ∙ (λ i. Some (Over (ending.Exit (sym own i) c.in-End.code)))

pub returns-in_ok-run_on-in-Ordinary-clause-value : goal.returns-in_ok-run_on-in-Ordinary-clause-value
returns-in_ok-run_on-in-Ordinary-clause-value g c =
    let w = c.args.self.now in
    stepped_ordinary w.live.state w.hart c.requires.left c.requires.going.under.ready (ordinary_act (act_of w.live.state w.hart) (subst (λ (x : NextAct). Sees w.live.state w.hart x) c.in-Ordinary.is c.requires.act))

pub returns-in_ok-end-in-End-clause-steps : goal.returns-in_ok-end-in-End-clause-steps
returns-in_ok-end-in-End-clause-steps g c = c.in_ok-end-in-End.ensures.plain c.requires.can.none (told g.S.Source.end g.T.Sink.end g.P.Port.end c.args.devices.now)
