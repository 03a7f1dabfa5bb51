use Rattle.std.proofs.Common.{refl, ap, sym, subst}
use Rattle.guest_memory.proofs.Noted.{notes_both}
use Rattle.hart_step.specs.declared.leg.Leg.{Leg}
use Rattle.hart_step.specs.Legs.{IsLeg}
use Rattle.hart_step.specs.Live.{space_of}
use Rattle.hart_step.proofs.Legs.{leg_empty, leg_joined}
use Rattle.hart_step.proofs.engine.Engine.leg.Goals as goal

pub returns-then-is_held-clause-leg : goal.returns-then-is_held-clause-leg
returns-then-is_held-clause-leg c = leg_empty c.args.noted c.args.self.now.state c.args.self.now.state c.args.hart c.last.result.count refl (ap (λ (l : Leg). l.count) c.last.ensures.value)

pub returns-clause-leg : goal.returns-clause-leg
returns-clause-leg c =
    let s = c.args.self.now.state in
    let mid = c.hurry-ran.new.self.state in
    let end = c.known_leg.new.self.state in
    let h = c.args.hart in
    subst (λ n. IsLeg c.args.noted s end h n) (sym (ap (λ (l : Leg). l.count) c.behind.ensures.value))
    (leg_joined c.args.noted s mid end h c.hurry-ran.result.count c.known_leg.result.count c.hurry-ran.ensures.leg (c.hurry-ran.ensures.stays c.if-ran.false) c.known_leg.ensures.leg)

pub returns-clause-notes : goal.returns-clause-notes
returns-clause-notes c =
    notes_both c.args.noted c.args.log.now.notes c.hurry-ran.new.log.notes c.known_leg.new.log.notes (space_of c.args.self.now) (space_of c.hurry-ran.new.self)
    (space_of c.known_leg.new.self) c.hurry-ran.ensures.notes c.known_leg.ensures.notes
