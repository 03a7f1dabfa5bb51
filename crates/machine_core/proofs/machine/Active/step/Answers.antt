use Rattle.std.proofs.Common.{◌≡◌, ◌<◌, ◌++◌, false, length, Ok, Err, OnOk, is_err, ap, sym, ◌∙◌, subst}
use Rattle.std.specs.declared.result.Result.{Result}
use Rattle.edge_ports.specs.Seen.{seen as told}
use Rattle.open_calls.specs.Nest.{flat, flat_from, lowest}
use Rattle.machine_core.specs.Inner.{Inner, opened_in, whole_in}
use Rattle.machine_core.specs.Machine.{Opened}
use Rattle.machine_core.specs.OpenSteps.{StaysUnder}
use Rattle.machine_core.proofs.Appending.{open_appends}
use Rattle.machine_core.proofs.Steps.{stays_under}
use Rattle.machine_core.proofs.machine.Active.step.Goals as goal

went : {A E : Type 0} (r : Result A E) (P : Type 0) → is_err r ≡ false → OnOk r P → P
went (Ok x) P is p = p
went (Err e) P is p = cc

pub returns-then-is_under-clause-goes : goal.returns-then-is_under-clause-goes
returns-then-is_under-clause-goes g c =
    let now = c.as_mut-parts.result.now in
    let start = g.K.Origin.state in
    let v = c.go.new.self in
    let d = told g.S.Source.end g.T.Sink.end g.P.Port.end now.devices in
    let e = told g.S.Source.end g.T.Sink.end g.P.Port.end c.go.new.devices in
    let is : opened_in now.inner d ≡ c.args.self = ap (λ x. opened_in x.inner (told g.S.Source.end g.T.Sink.end g.P.Port.end x.devices)) c.as_mut-parts.ensures.value ∙ c.self.view_is in
    let goes = went c.go.result _ (sym c.is_err.ensures.value ∙ c.if-is_err.false) c.go.ensures.ok in
    let stays = stays_under start now.inner v d e c.thin.new.self.notes goes (c.is_under.ensures.going c.if-is_under.true) (c.is_under.ensures.open c.if-is_under.true) c.thin.ensures.fewer in
    subst (λ (x : Opened). StaysUnder start x (opened_in c.thin.new.self e)) is
    (subst (λ (x : Inner). StaysUnder start (opened_in now.inner d) (opened_in x e)) (sym c.thin.ensures.same) stays)

pub returns-clause-behind : goal.returns-clause-behind
returns-clause-behind g c =
    let now = c.as_mut-parts.result.now in
    let v = c.go.new.self in
    let d = told g.S.Source.end g.T.Sink.end g.P.Port.end now.devices in
    let e = told g.S.Source.end g.T.Sink.end g.P.Port.end c.go.new.devices in
    let core = c.as_mut-parts.ensures.value in
    let is : opened_in now.inner d ≡ c.args.self = ap (λ x. opened_in x.inner (told g.S.Source.end g.T.Sink.end g.P.Port.end x.devices)) core ∙ c.self.view_is in
    let some : 0 < length now.inner.nest.outers = subst (λ x. 0 < length x.inner.nest.outers) (sym core) c.self.invariant.called in
    let goes = went c.go.result _ (sym c.is_err.ensures.value ∙ c.if-is_err.false) c.go.ensures.ok in
    let put = open_appends g.K.Origin.state (opened_in now.inner d) (whole_in v e) some goes.steps in
    let none = c.is_under.ensures.none c.if-is_under.false in
    let entries : c.rest.new.self.nest.entries ≡ flat v.hart v.nest = ap (λ x. x.nest.entries) c.rest.ensures.same ∙ (λ i. flat_from v.hart (sym none i) v.nest.entries) in
    record { more = put.more; parts = entries ∙ put.parts ∙ ap (λ (a : Opened). lowest a.nest ++ put.more) is }
