use Rattle.std.proofs.Common.{◌<◌, length, ap, sym, ◌∙◌, subst}
use Rattle.guest_words.specs.declared.ending.Ending.TheVariants as ending
use Rattle.guest_words.specs.Endings.{is_budget_spent}
use Rattle.edge_ports.specs.Seen.{Seen, seen as told, spare}
use Rattle.run_history.proofs.Entries.{legal-Budget}
use Rattle.machine_core.specs.Inner.{Inner, IsGoing, whole_in}
use Rattle.machine_core.specs.QuietSteps.{EndsBy}
use Rattle.machine_core.specs.Under.{Goes}
use Rattle.machine_core.proofs.Steps.{budget_goes, by_records, three_ok}
use Rattle.machine_core.proofs.inner.Inner.go.Goals as goal

pub end-requires : goal.end-requires
end-requires g c =
    let going = subst IsGoing c.self.view_is (c.self.invariant.called (subst (λ (x : Inner). 0 < length x.nest.outers) (sym c.self.view_is) c.requires.called)) in
    let spent = ap (λ (x : Inner). is_budget_spent x.live.state) (sym c.self.view_is) ∙ sym c.is_budget_spent.ensures.value ∙ c.if-is_budget_spent.true in
    record { legal = legal-Budget c.args.self.now.live.state going.under.going spent }

pub returns-then-is_budget_spent-clause-devices : goal.returns-then-is_budget_spent-clause-devices
returns-then-is_budget_spent-clause-devices g c =
    by_records g.K.Origin.devices c.args.self.now c.end.new.self (told g.S.Source.end g.T.Sink.end g.P.Port.end c.args.devices.now) (spare c.args.devices.now)
    c.end.ensures.records c.requires.devices

pub returns-then-is_budget_spent-clause-ok : goal.returns-then-is_budget_spent-clause-ok
returns-then-is_budget_spent-clause-ok g c =
    let w = c.args.self.now in
    let v = c.end.new.self in
    let d = told g.S.Source.end g.T.Sink.end g.P.Port.end c.args.devices.now in
    let going = subst IsGoing c.self.view_is (c.self.invariant.called (subst (λ (x : Inner). 0 < length x.nest.outers) (sym c.self.view_is) c.requires.called)) in
    let spent = ap (λ (x : Inner). is_budget_spent x.live.state) (sym c.self.view_is) ∙ sym c.is_budget_spent.ensures.value ∙ c.if-is_budget_spent.true in
    three_ok c.end.result ((d : Seen) → EndsBy ending.Budget (whole_in w d) (whole_in v d)) _ _ (Goes g.K.Origin.state w d v d)
    (λ ends none same. budget_goes g.K.Origin.state w v d d going spent (ends d) none c.end.ensures.hart same) c.end.ensures.ok c.end.ensures.none c.end.ensures.notes
