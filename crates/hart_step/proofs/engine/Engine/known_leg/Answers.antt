use Rattle.std.proofs.Common.{◌∙◌, Option, Some, refl, ap, sym, subst}
use Rattle.hart_step.specs.declared.leg.Leg.{Leg}
use Rattle.hart_step.specs.declared.next_act.NextAct.{NextAct}
use Rattle.hart_step.specs.declared.next_act.NextAct.TheVariants as next_act
use Rattle.hart_step.specs.Stops.{Stops}
use Rattle.hart_step.proofs.Legs.{fault_next, leg_empty, stops_other}
use Rattle.hart_step.proofs.engine.Engine.known_leg.Goals as goal

pub returns-in-Fault-clause-leg : goal.returns-in-Fault-clause-leg
returns-in-Fault-clause-leg c = leg_empty c.args.noted c.args.self.now.state c.args.self.now.state c.args.hart c.last.result.count refl (ap (λ (l : Leg). l.count) c.last.ensures.value)

pub returns-in-Fault-clause-stops : goal.returns-in-Fault-clause-stops
returns-in-Fault-clause-stops c = λ last.
    let s = c.args.self.now.state in
    let name = c.in-Fault.name in
    subst (λ (next : Option NextAct). Stops c.args.noted s s c.args.hart next) (sym (ap (λ (l : Leg). l.next) c.last.ensures.value))
    (stops_other c.args.noted s c.args.hart (next_act.Fault name) refl (fault_next s c.args.hart name (c.requires.did ∙ ap Some c.in-Fault.is)) c.requires.free)
