use Rattle.std.proofs.Common.{◌<◌, ap, ◌∙◌, subst}
use Rattle.guest_words.specs.declared.ending.Ending.TheVariants as ending
use Rattle.guest_words.specs.Act.{act_of}
use Rattle.edge_ports.specs.Seen.{Seen, seen as told, spare}
use Rattle.run_history.specs.Ahead.{ahead}
use Rattle.run_history.specs.Legal.{may_act}
use Rattle.run_history.proofs.Entries.{legal-Exit}
use Rattle.run_history.proofs.Under.{may_under}
use Rattle.hart_step.specs.declared.next_act.NextAct.{NextAct}
use Rattle.hart_step.specs.Sees.{Sees}
use Rattle.machine_core.specs.Inner.{Inner, whole_in}
use Rattle.machine_core.specs.OpenSteps.{EntersAt}
use Rattle.machine_core.specs.QuietSteps.{CallsOn, EndsBy}
use Rattle.machine_core.specs.Under.{Goes}
use Rattle.machine_core.proofs.Steps.{arrival_goes, by_records, end_act, end_goes, request_goes, three_ok}
use Rattle.machine_core.proofs.Turning.{all_ok}
use Rattle.machine_core.proofs.inner.Inner.turn.Goals as goal

pub end-requires : goal.end-requires
end-requires g c =
    let s = c.args.self.now.live.state in
    let sees = subst (λ (x : NextAct). Sees s c.args.self.now.hart x) c.in-End.is c.requires.act in
    let own = c.hart-hart.ensures.value ∙ ap (λ (x : Inner). x.hart) c.self.view_is in
    record {
      legal = legal-Exit s c.hart-hart.result c.in-End.code
          (ap (λ h. may_act s h) own ∙ may_under s c.args.self.now.hart c.requires.going.under c.requires.left)
          (ap (act_of s) own ∙ end_act (act_of s c.args.self.now.hart) c.in-End.code sees);
    }

pub returns-in-Request-clause-ok : goal.returns-in-Request-clause-ok
returns-in-Request-clause-ok g c =
    let w = c.args.self.now in
    let d = told g.S.Source.end g.T.Sink.end g.P.Port.end c.args.devices.now in
    let e = told g.S.Source.end g.T.Sink.end g.P.Port.end c.serve.new.devices in
    let sees = subst (λ (x : NextAct). Sees w.live.state w.hart x) c.in-Request.is c.requires.act in
    all_ok c.serve.result (CallsOn w.hart (whole_in w d) (whole_in c.serve.new.self e)) (ahead c.serve.new.self.live.state w.hart < ahead w.live.state w.hart) _ _ (Goes g.K.Origin.state w d c.serve.new.self e)
    (λ calls nearer fewer few. request_goes g.K.Origin.state w c.serve.new.self d e c.requires.going c.requires.left c.in-Request.ask sees calls c.serve.ensures.under nearer fewer few)
    c.serve.ensures.ok c.serve.ensures.nearer c.serve.ensures.fewer c.serve.ensures.few

pub returns-in-Arrival-clause-ok : goal.returns-in-Arrival-clause-ok
returns-in-Arrival-clause-ok g c =
    let w = c.args.self.now in
    let d = told g.S.Source.end g.T.Sink.end g.P.Port.end c.args.devices.now in
    let sees = subst (λ (x : NextAct). Sees w.live.state w.hart x) c.in-Arrival.is c.requires.act in
    all_ok c.enter.result ((d : Seen) → EntersAt w.hart c.in-Arrival.point (whole_in w d) (whole_in c.enter.new.self d)) (ahead c.enter.new.self.live.state w.hart < ahead w.live.state w.hart) _ _ (Goes g.K.Origin.state w d c.enter.new.self d)
    (λ enters nearer same none. arrival_goes g.K.Origin.state w c.enter.new.self d d c.requires.going c.requires.left c.in-Arrival.point sees (enters d) c.enter.ensures.under nearer same none)
    c.enter.ensures.ok c.enter.ensures.nearer c.enter.ensures.notes c.enter.ensures.none

pub returns-in-Arrival-clause-devices : goal.returns-in-Arrival-clause-devices
returns-in-Arrival-clause-devices g c =
    by_records g.K.Origin.devices c.args.self.now c.enter.new.self (told g.S.Source.end g.T.Sink.end g.P.Port.end c.args.devices.now) (spare c.args.devices.now) c.enter.ensures.records c.requires.devices

pub returns-in-End-clause-devices : goal.returns-in-End-clause-devices
returns-in-End-clause-devices g c =
    by_records g.K.Origin.devices c.args.self.now c.end.new.self (told g.S.Source.end g.T.Sink.end g.P.Port.end c.args.devices.now) (spare c.args.devices.now)
    c.end.ensures.records c.requires.devices

pub returns-in-End-clause-ok : goal.returns-in-End-clause-ok
returns-in-End-clause-ok g c =
    let w = c.args.self.now in
    let d = told g.S.Source.end g.T.Sink.end g.P.Port.end c.args.devices.now in
    let v = c.end.new.self in
    let x = ending.Exit c.hart-hart.result c.in-End.code in
    let sees = subst (λ (x : NextAct). Sees w.live.state w.hart x) c.in-End.is c.requires.act in
    let own = c.hart-hart.ensures.value ∙ ap (λ (y : Inner). y.hart) c.self.view_is in
    three_ok c.end.result ((d : Seen) → EndsBy x (whole_in w d) (whole_in v d)) _ _ (Goes g.K.Origin.state w d v d)
    (λ ends none same. end_goes g.K.Origin.state w v d d c.requires.going c.requires.left c.in-End.code sees (subst (λ h. EndsBy (ending.Exit h c.in-End.code) (whole_in w d) (whole_in v d)) own (ends d)) none c.end.ensures.hart same) c.end.ensures.ok c.end.ensures.none c.end.ensures.notes
