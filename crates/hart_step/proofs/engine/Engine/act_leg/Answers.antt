use Rattle.std.proofs.Common.{◌≡◌, Option, Some, refl, ap, sym, ◌∙◌, subst, arith, length}
use Rattle.guest_words.specs.State.{State, frames_at}
use Rattle.hart_step.specs.declared.next_act.NextAct.{NextAct}
use Rattle.hart_step.specs.declared.next_act.NextAct.TheVariants as next_act
use Rattle.hart_step.specs.Live.{Live}
use Rattle.hart_step.specs.Legs.{IsLeg}
use Rattle.hart_step.specs.Sees.{is_ordinary_act, Sees}
use Rattle.hart_step.specs.Stops.{Stops}
use Rattle.hart_step.specs.declared.leg.Leg.{Leg}
use Rattle.undo_log.specs.Noted.{Noted}
use Rattle.hart_step.proofs.Legs.{act_open, free_ready, leg_empty, leg_one, other_act, ready_within, stops_other}
use Rattle.hart_step.proofs.SlotActs.{arrival-at}
use Rattle.hart_step.proofs.engine.Engine.act_leg.Goals as goal

pub next_act-requires : goal.next_act-requires
next_act-requires c =
    record { within = ready_within c.args.self.now.state c.args.hart (free_ready c.args.self.now.state c.args.hart c.requires.free) }

pub returns-in-Some-clause-leg : goal.returns-in-Some-clause-leg
returns-in-Some-clause-leg c =
    leg_empty c.args.noted c.args.self.now.state c.args.self.now.state c.args.hart c.last.result.count refl (ap (λ (l : Leg). l.count) c.last.ensures.value)

pub returns-in-Some-clause-stops : goal.returns-in-Some-clause-stops
returns-in-Some-clause-stops c = λ last.
    let s = c.args.self.now.state in
    let point = c.in-Some.point in
    subst (λ (next : Option NextAct). Stops c.args.noted s s c.args.hart next) (sym (ap (λ (l : Leg). l.next) c.last.ensures.value))
    (stops_other c.args.noted s c.args.hart (next_act.Arrival point) refl (arrival-at s c.args.hart point c.in-Some.ensures.some) c.requires.free)

pub returns-then-wants_memory-clause-leg : goal.returns-then-wants_memory-clause-leg
returns-then-wants_memory-clause-leg c = leg_empty c.args.noted c.args.self.now.state c.args.self.now.state c.args.hart c.last-then-wants_memory.result.count refl (ap (λ (l : Leg). l.count) c.last-then-wants_memory.ensures.value)

pub returns-in-Ordinary-clause-leg : goal.returns-in-Ordinary-clause-leg
returns-in-Ordinary-clause-leg c =
    let s = c.args.self.now.state in
    let t = c.advance_free.new.self.state in
    let one = ap (λ (l : Leg). l.count) c.last-in-Ordinary.ensures.value in
    let sees = subst (Sees s c.args.hart) c.in-Ordinary.is c.advance_free.ensures.value in
    subst (λ n. IsLeg c.args.noted s t c.args.hart n) (sym one)
    (leg_one c.args.noted s t c.args.hart c.requires.free (sym c.wants_memory.ensures.value ∙ c.if-wants_memory.false) sees (c.advance_free.ensures.after (ap is_ordinary_act c.in-Ordinary.is)))

pub returns-in-Ordinary-2-clause-leg : goal.returns-in-Ordinary-2-clause-leg
returns-in-Ordinary-2-clause-leg c =
    let s = c.args.self.now.state in
    let t = c.advance_free.new.self.state in
    let one = ap (λ (l : Leg). l.count) c.on.ensures.value in
    let sees = subst (Sees s c.args.hart) c.in-Ordinary-2.is c.advance_free.ensures.value in
    subst (λ n. IsLeg c.args.noted s t c.args.hart n) (sym one)
    (leg_one c.args.noted s t c.args.hart c.requires.free (sym c.wants_memory.ensures.value ∙ c.if-wants_memory.false) sees (c.advance_free.ensures.after (ap is_ordinary_act c.in-Ordinary-2.is)))

pub returns-in-Ordinary-2-clause-stays : goal.returns-in-Ordinary-2-clause-stays
returns-in-Ordinary-2-clause-stays c = λ on.
    let before = c.frame_count-frames.ensures.value in
    let after = c.frame_count.ensures.value in
    let few = c.if-frame_count-frames.false in
    act_open c.args.self.now.state c.advance_free.new.self.state c.args.hart (c.advance_free.ensures.after (ap is_ordinary_act c.in-Ordinary-2.is)) (λ fewer. omega (arith, before, after, few, fewer))

pub returns-in_default-advance_free : goal.returns-in_default-advance_free
returns-in_default-advance_free c =
    let s = c.args.self.now.state in
    let t = c.advance_free.new.self.state in
    let is = c.advance_free.result in
    let value = c.last-in_default-advance_free.ensures.value in
    let other = other_act is c.in_default-advance_free.not-Ordinary in
    let same = c.advance_free.ensures.same other in
    let back : t ≡ s = ap (λ (l : Live). l.state) same.0 in
    let none = ap (λ (l : Leg). l.count) value in
    let log = ap (λ (l : Noted). l.spare) same.1 in
    let notes = ap (λ (l : Noted). length l.notes) same.1 in
    record {
      within = omega (arith, none);
      leg = leg_empty c.args.noted s t c.args.hart c.last-in_default-advance_free.result.count back none;
      more = λ on. absurd (cc (sym on ∙ ap (λ (l : Leg). l.is_last) value));
      stays = λ on. ap (λ (u : State). frames_at u c.args.hart) back;
      stops = λ last.
          subst (λ (next : Option NextAct). Stops c.args.noted s t c.args.hart next) (sym (ap (λ (l : Leg). l.next) value))
          (subst (λ (u : State). Stops c.args.noted s u c.args.hart (Some is)) (sym back) (stops_other c.args.noted s c.args.hart is other c.advance_free.ensures.value c.requires.free));
      notes = c.advance_free.ensures.notes;
      few = omega (arith, notes, none);
      room = omega (arith, log, none);
    }
