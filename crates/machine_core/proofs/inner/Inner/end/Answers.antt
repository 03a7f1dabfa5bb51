use Rattle.std.proofs.Common.{◌≡◌, ◌∷◌, ◌++◌, [], true, refl, ap, sym, ◌∙◌, subst}
use Rattle.edge_ports.specs.Seen.{Seen}
use Rattle.run_history.specs.declared.entry.Entry.{Ended}
use Rattle.run_history.specs.Legal.{legal}
use Rattle.open_calls.specs.Nest.{Stack, closed_to}
use Rattle.machine_core.specs.Inner.{Inner, inner_of, machine_in, whole_in}
use Rattle.machine_core.specs.QuietSteps.{EndsBy}
use Rattle.machine_core.specs.Machine.{Machine}
use Rattle.machine_core.proofs.Told.{plain}
use Rattle.machine_core.proofs.Ends.{ended_none, ends, ends_hold}
use Rattle.machine_core.proofs.inner.Inner.end.Given as given
use Rattle.machine_core.proofs.inner.Inner.end.Goals as goal

abbrev w : (g : given.Over) (c : goal.After-append g) → Inner
w g c = inner_of c.self.inside.engine c.self.inside.calls c.self.inside.log c.self.inside.abandoned

abbrev v : (g : given.Over) (c : goal.After-append g) → Inner
v g c = inner_of c.end.new.self c.append.new.self c.make_room.new.log c.self.inside.abandoned

ok : (g : given.Over) (c : goal.After-append g) → legal (w g c).live.state (Ended c.args.ending) ≡ true
ok g c = subst (λ (x : Inner). legal x.live.state (Ended c.args.ending) ≡ true) (sym c.self.view_is) c.requires.legal

nest : (g : given.Over) (c : goal.After-append g) → let n = closed_to (w g c).hart 0 (w g c).nest in (v g c).nest ≡ record n { entries = n.entries ++ Ended c.args.ending ∷ [] }
nest g c =
    let close = ap (λ (x : Stack). x.nest) c.close_to.ensures.same ∙ (λ i. closed_to (c.make_room.ensures.hart i) 0 (c.make_room.ensures.nest i)) in
    c.append.ensures.nest ∙ (λ i. record { outers = (close i).outers; entries = (close i).entries ++ Ended c.args.ending ∷ [] })

pub invariant_of-self-2 : goal.invariant_of-self-2
invariant_of-self-2 g c =
    ends_hold g.K.Origin.state g.K.Origin.devices (w g c) (v g c) c.self.inside.log c.make_room.new.log c.self.invariant c.args.ending (ok g c) c.end.ensures.value (nest g c) c.make_room.ensures.same

pub returns-clause-ok : goal.returns-clause-ok
returns-clause-ok g c =
    subst (λ (x : Inner). (d : Seen) → EndsBy c.args.ending (whole_in x d) (whole_in (v g c) d)) c.self.view_is
    (ends g.K.Origin.state g.K.Origin.devices (w g c) (v g c) c.self.inside.log c.make_room.new.log c.self.invariant c.args.ending (ok g c) c.end.ensures.value (nest g c) refl)

pub returns-clause-none : goal.returns-clause-none
returns-clause-none g c =
    ended_none g.K.Origin.state g.K.Origin.devices (w g c) (v g c) c.self.inside.log c.make_room.new.log c.self.invariant c.args.ending (ok g c) c.end.ensures.value (nest g c)

pub returns-clause-notes : goal.returns-clause-notes
returns-clause-notes g c = c.make_room.ensures.same ∙ ap (λ (x : Inner). x.notes) c.self.view_is

pub returns-clause-plain : goal.returns-clause-plain
returns-clause-plain g c = λ none d.
    let none_now = ap (λ (x : Inner). x.nest.outers) c.self.view_is ∙ none in
    let done = ended_none g.K.Origin.state g.K.Origin.devices (w g c) (v g c) c.self.inside.log c.make_room.new.log c.self.invariant c.args.ending (ok g c) c.end.ensures.value (nest g c) in
    let made = ends g.K.Origin.state g.K.Origin.devices (w g c) (v g c) c.self.inside.log c.make_room.new.log c.self.invariant c.args.ending (ok g c) c.end.ensures.value (nest g c) refl d in
    subst (λ (x : Inner). EndsBy c.args.ending (machine_in x d) (machine_in (v g c) d)) c.self.view_is
    (subst (λ (m : Machine × Machine). EndsBy c.args.ending m.0 m.1) (λ i. (sym (plain (w g c) d none_now) i, sym (plain (v g c) d done) i)) made)
