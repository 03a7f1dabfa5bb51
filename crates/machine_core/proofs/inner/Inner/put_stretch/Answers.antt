use Rattle.std.proofs.Common.{◌≡◌, ◌<◌, ◌∷◌, ◌++◌, [], true, false, arith, refl, ap, sym, ◌∙◌, subst}
use Rattle.guest_words.specs.declared.hart.Hart.{Hart}
use Rattle.guest_words.specs.Endings.{is_budget_spent}
use Rattle.edge_ports.specs.Seen.{Seen}
use Rattle.run_history.specs.declared.entry.Entry.{Ran}
use Rattle.run_history.specs.After.{ran}
use Rattle.run_history.specs.Legal.{can_run, is_ready_at}
use Rattle.hart_step.specs.Stretches.{IsStretch}
use Rattle.hart_step.proofs.Stretching.{stretched_by}
use Rattle.machine_core.specs.Commits.{Commits}
use Rattle.machine_core.specs.Inner.{Inner, inner_of, machine_in}
use Rattle.machine_core.specs.Turns.{CanTurn}
use Rattle.machine_core.proofs.Holding.{within}
use Rattle.machine_core.proofs.Turning.{row_first, turn_holds, turn_legal, turn_records, turn_same}
use Rattle.machine_core.proofs.inner.Inner.put_stretch.Given as given
use Rattle.machine_core.proofs.inner.Inner.put_stretch.Goals as goal

abbrev w : (g : given.Over) (c : goal.After-append g) → Inner
w g c = inner_of c.self.inside.engine c.self.inside.calls c.self.inside.log c.self.inside.abandoned

abbrev v : (g : given.Over) (c : goal.After-append g) → Inner
v g c = inner_of c.stretch.new.self c.append.new.self c.make_room.new.log c.self.inside.abandoned

can : (g : given.Over) (c : goal.After-append g) → CanTurn (w g c)
can g c = subst CanTurn (sym c.self.view_is) c.requires.can

some : (g : given.Over) (c : goal.After-append g) → 0 < c.args.count
some g c = let count = c.requires.count in omega (arith, count)

goes : (g : given.Over) (c : goal.After-append g) → can_run (w g c).live.state (w g c).hart c.args.count ≡ true
goes g c = ap (λ h. can_run (w g c).live.state h c.args.count) (sym c.hart-hart.ensures.value) ∙ c.stretch.ensures.goes

first : (g : given.Over) (c : goal.After-append g) → (is_budget_spent (w g c).live.state ≡ false) × (is_ready_at (w g c).live.state (w g c).hart ≡ true)
first g c = let row = row_first (w g c).live.state (w g c).hart c.args.count (some g c) (goes g c) in (row.0, row.1)

to : (g : given.Over) (c : goal.After-append g) → (v g c).live.state ≡ ran (w g c).live.state (w g c).hart c.args.count
to g c = c.stretch.ensures.state ∙ ap (λ h. ran (w g c).live.state h c.args.count) c.hart-hart.ensures.value

nest : (g : given.Over) (c : goal.After-append g) → (v g c).nest ≡ record (w g c).nest { entries = (w g c).nest.entries ++ Ran (w g c).hart c.args.count ∷ [] }
nest g c =
    c.append.ensures.nest ∙ (λ i. record {
      outers = (c.make_room.ensures.nest i).outers;
      entries = (c.make_room.ensures.nest i).entries ++ Ran (c.hart-hart.ensures.value i) c.args.count ∷ [];
    })

pub invariant_of-self-2 : goal.invariant_of-self-2
invariant_of-self-2 g c =
    turn_holds g.K.Origin.state g.K.Origin.devices (w g c) c.self.inside.log c.self.invariant (can g c) (v g c) c.make_room.new.log (first g c).1 (first g c).0 c.args.count (some g c) (goes g c) (to g c) c.stretch.ensures.spare (nest g c) refl c.make_room.ensures.same

pub returns-clause-records : goal.returns-clause-records
returns-clause-records g c =
    turn_records g.K.Origin.state g.K.Origin.devices (w g c) c.self.inside.log c.self.invariant (can g c) (v g c) c.make_room.new.log (first g c).1 (first g c).0 c.args.count (some g c) (goes g c) (to g c) c.stretch.ensures.spare (nest g c) refl
    ∙ ap (λ (x : Inner). x.live.state.records) c.self.view_is

pub returns-clause-ok : goal.returns-clause-ok
returns-clause-ok g c =
    let stretch = subst (λ (x : Inner). (base : Hart) × IsStretch x.live.state x.hart base c.args.after c.args.count) (sym c.self.view_is) c.requires.stretch in
    let put = stretched_by (w g c).live.state (w g c).hart stretch.0 c.args.after c.args.count (within g.K.Origin.state g.K.Origin.devices (w g c) c.self.inside.log c.self.invariant) c.requires.count stretch.1 in
    subst (λ (x : Inner). (d : Seen) → Commits x.hart c.args.after c.args.count (machine_in x d) (machine_in (v g c) d)) c.self.view_is (λ d. record {
      legal = turn_legal g.K.Origin.state g.K.Origin.devices (w g c) c.self.inside.log c.self.invariant (can g c) (v g c) c.make_room.new.log (first g c).1 (first g c).0 c.args.count (some g c) (goes g c) (to g c) c.stretch.ensures.spare (nest g c) refl;
      same = turn_same g.K.Origin.state g.K.Origin.devices (w g c) c.self.inside.log c.self.invariant (can g c) (v g c) c.make_room.new.log (first g c).1 (first g c).0 c.args.count (some g c) (goes g c) (to g c) c.stretch.ensures.spare (nest g c) refl d;
      state = to g c ∙ put.is;
    })
