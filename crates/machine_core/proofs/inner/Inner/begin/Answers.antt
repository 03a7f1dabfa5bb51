use Rattle.std.proofs.Common.{◌≡◌, ◌+◌, ◌<◌, length, arith, ap, sym, subst}
use Rattle.machine_core.specs.Inner.{Inner, IsGoing, inner_of, whole_in}
use Rattle.machine_core.specs.QuietSteps.{HasArrived, stepped_of}
use Rattle.edge_ports.specs.Seen.{Seen}
use Rattle.run_history.specs.Ahead.{ahead}
use Rattle.hart_step.specs.declared.next_act.NextAct.{NextAct}
use Rattle.hart_step.specs.declared.next_act.NextAct.TheVariants as next_act
use Rattle.hart_step.specs.Sees.{Sees}
use Rattle.machine_core.specs.Notes.{IsUnnoted}
use Rattle.machine_core.specs.OpenSteps.{EntersAt}
use Rattle.machine_core.proofs.Steps.{both_ok}
use Rattle.machine_core.proofs.Told.{plain}
use Rattle.machine_core.specs.Turns.{Begun, CanTurn}
use Rattle.machine_core.proofs.Turning.{all_ok, arrived_ready, stepped_arrival, turn_going}
use Rattle.machine_core.proofs.inner.Inner.begin.Goals as goal

pub enter-requires-clause-going : goal.enter-requires-clause-going
enter-requires-clause-going g c =
    let w = inner_of c.self.inside.engine c.self.inside.calls c.self.inside.log c.self.inside.abandoned in
    let can = subst CanTurn (sym c.self.view_is) c.requires.can in
    let arrived = subst (λ (x : Inner). HasArrived (stepped_of x.live.state x.hart)) (sym c.self.view_is) c.requires.arrived in
    subst IsGoing c.self.view_is (turn_going g.K.Origin.state g.K.Origin.devices w c.self.inside.log c.self.invariant can (arrived_ready w.live.state w.hart arrived).1)

pub returns-clause-ok : goal.returns-clause-ok
returns-clause-ok g c =
    let w = c.args.self.now in
    let v = c.enter.new.self in
    let p = c.in-Arrival.point in
    let ready = arrived_ready w.live.state w.hart c.requires.arrived in
    let at = ap (λ (x : Inner). x.hart) c.self.view_is in
    let sees : Sees w.live.state w.hart (next_act.Arrival p) = subst (λ (x : Inner). Sees x.live.state x.hart (next_act.Arrival p)) c.self.view_is
    (subst (λ h. Sees c.self.inside.engine.state h (next_act.Arrival p)) c.hart.ensures.value (subst (λ (x : NextAct). Sees c.self.inside.engine.state c.hart.result x) c.in-Arrival.is c.next_act.ensures.value)) in
    both_ok c.enter.result (IsUnnoted v.nest v.notes) (IsUnnoted v.nest v.notes → Begun w v) (Begun w v) (λ none begun. begun none) c.enter.ensures.none
    (all_ok c.enter.result ((d : Seen) → EntersAt w.hart p (whole_in w d) (whole_in v d)) (length v.nest.outers ≡ length w.nest.outers + 1) (ahead v.live.state w.hart < ahead w.live.state w.hart) (IsGoing v) (IsUnnoted v.nest v.notes → Begun w v)
    (λ enters deeper nearer going unnoted. record {
      point = p;
      stood = stepped_arrival w.live.state w.hart ready.0 ready.1 p sees;
      enters = λ d. subst (λ m. EntersAt w.hart p m (whole_in v d)) (sym (plain w d c.requires.can.none)) (enters d);
      under = c.enter.ensures.under;
      one = let none = ap length c.requires.can.none in omega (arith, deeper, none);
      none = unnoted;
      going = going;
      nearer = nearer;
    })
    c.enter.ensures.ok c.enter.ensures.deeper c.enter.ensures.nearer c.enter.ensures.going)
