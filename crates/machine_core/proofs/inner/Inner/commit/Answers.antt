use Rattle.std.proofs.Common.{◌≡◌, ◌≤◌, arith, Some, OnOk, ap, sym, ◌∙◌, subst}
use Rattle.guest_words.specs.declared.hart.Hart.{Hart}
use Rattle.edge_ports.specs.Seen.{Seen}
use Rattle.hart_step.specs.Stretches.{IsStretch, steps_left}
use Rattle.machine_core.specs.Commits.{Commits, hart_in}
use Rattle.machine_core.specs.Inner.{Inner, inner_of, machine_in}
use Rattle.machine_core.specs.Turns.{CanTurn}
use Rattle.machine_core.proofs.Stretching.{is_stretch}
use Rattle.machine_core.proofs.inner.Inner.commit.Goals as goal

pub put_stretch-requires-clause-stretch : goal.put_stretch-requires-clause-stretch
put_stretch-requires-clause-stretch g c =
    let w = inner_of c.self.inside.engine c.self.inside.calls c.self.inside.log c.self.inside.abandoned in
    let can = subst CanTurn (sym c.self.view_is) c.requires.can in
    let same = c.is_same.ensures.yes c.if-not-is_same.false in
    let at : hart_in w.live.state w.hart ≡ Some c.args.base = ap (λ (x : Inner). hart_in x.live.state x.hart) c.self.view_is ∙ ap (hart_in c.args.self.now.live.state) (sym c.hart.ensures.value) ∙ c.hart_in-kept.ensures.value ∙ ap Some same in
    let left = c.steps_left-left.ensures.value in
    let wide = c.from.ensures in
    let enough = c.if-left-from.false in
    let room : c.args.count ≤ steps_left w.live.state = omega (arith, left, wide, enough) in
    subst (λ (x : Inner). (base : Hart) × IsStretch x.live.state x.hart base c.args.after c.args.count) c.self.view_is
    (c.args.base, is_stretch g.K.Origin.state g.K.Origin.devices w c.self.inside.log c.self.invariant can c.args.base c.args.after c.args.count at c.requires.ready c.requires.stretch room)

pub returns-in-Ok-clause-commits : goal.returns-in-Ok-clause-commits
returns-in-Ok-clause-commits g c = λ d.
    let now = c.args.self.now in
    let same = c.is_same.ensures.yes c.if-not-is_same.false in
    let left = c.steps_left-left.ensures.value ∙ ap (λ (x : Inner). steps_left x.live.state) c.self.view_is in
    let wide = c.from.ensures in
    let enough = c.if-left-from.false in
    let room : c.args.count ≤ steps_left now.live.state = omega (arith, left, wide, enough) in
    let commits = subst (λ r. OnOk r ((e : Seen) → Commits now.hart c.args.after c.args.count (machine_in now e) (machine_in c.put_stretch.new.self e))) c.in-Ok.is c.put_stretch.ensures.ok in
    (ap (hart_in now.live.state) (sym c.hart.ensures.value) ∙ c.hart_in-kept.ensures.value ∙ ap Some same, room, commits d)
