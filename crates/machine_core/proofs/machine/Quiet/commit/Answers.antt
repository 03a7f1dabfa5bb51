use Rattle.std.proofs.Common.{◌≡◌, ℕ, ap, ◌∙◌, subst}
use Rattle.edge_ports.specs.Seen.{seen as told}
use Rattle.machine_core.specs.Commits.{CommitsTo}
use Rattle.machine_core.specs.Inner.{machine_in}
use Rattle.machine_core.specs.Machine.{Machine}
use Rattle.machine_core.proofs.Appending.{commit_appends}
use Rattle.machine_core.proofs.Told.{can_turn}
use Rattle.machine_core.proofs.machine.Quiet.commit.Given as given
use Rattle.machine_core.proofs.machine.Quiet.commit.Goals as goal

pub commit-requires-clause-can : goal.commit-requires-clause-can
commit-requires-clause-can g c =
    let d = told g.S.Source.end g.T.Sink.end g.P.Port.end c.as_mut-core.result.now.devices in
    let core = c.as_mut-core.ensures.value in
    can_turn g.K.Origin.state c.as_mut-core.result.now.inner c.turn_to.new.self c.args.self.now d c.args.hart c.turn_to.ensures.same
    (ap (λ x. machine_in x.inner (told g.S.Source.end g.T.Sink.end g.P.Port.end x.devices)) core ∙ c.self.view_is) (ap (λ x. x.inner.nest.outers) core ∙ c.self.invariant.none)
    (c.turn_to.ensures.told d) c.requires.going c.requires.kept c.requires.hart

commits : (g : given.Over) (c : goal.After-self-1 g)
    → CommitsTo c.args.hart c.args.base c.args.after c.args.count c.args.self.now c.commit.result (machine_in c.commit.new.self (told g.S.Source.end g.T.Sink.end g.P.Port.end c.as_mut-core.result.now.devices))
commits g c =
    let d = told g.S.Source.end g.T.Sink.end g.P.Port.end c.as_mut-core.result.now.devices in
    let same = c.turn_to.ensures.same in
    let before : machine_in c.turn_to.new.self d ≡ c.args.self.now =
    (λ i. machine_in (same i) d) ∙ ap (λ x. machine_in x.inner (told g.S.Source.end g.T.Sink.end g.P.Port.end x.devices)) c.as_mut-core.ensures.value ∙ c.self.view_is in
    subst (λ (x : ℕ × Machine). CommitsTo x.0 c.args.base c.args.after c.args.count x.1 c.commit.result (machine_in c.commit.new.self d)) (λ i. ((same i).hart, before i)) (c.commit.ensures.commits d)

pub returns-clause-commits : goal.returns-clause-commits
returns-clause-commits g c = commits g c

pub returns-clause-appends : goal.returns-clause-appends
returns-clause-appends g c =
    commit_appends c.args.hart c.args.base c.args.after c.args.count c.args.self.now c.commit.result
    (machine_in c.commit.new.self (told g.S.Source.end g.T.Sink.end g.P.Port.end c.as_mut-core.result.now.devices)) (commits g c)
