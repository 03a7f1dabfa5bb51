use Rattle.std.proofs.Common.{refl, ◌∙◌, arith}
use Rattle.guest_memory.proofs.Noted.{notes_both, notes_none}
use Rattle.hart_step.specs.Live.{space_of}
use Rattle.hart_step.proofs.Legs.{leg_joined, leg_none}
use Rattle.hart_step.proofs.engine.Engine.run.Goals as goal

pub loop-init : goal.loop-init
loop-init c = record {
  within = omega arith;
  leg = leg_none c.args.noted c.args.self.now.state c.args.hart;
  stays = refl;
  notes = notes_none c.args.noted c.args.log.now.notes (space_of c.args.self.now);
  few = omega arith;
  room = omega arith;
  turns = omega arith;
}

pub returns-then-leg-clause-legal : goal.returns-then-leg-clause-legal
returns-then-leg-clause-legal c =
    (leg_joined c.args.noted c.args.self.now.state c.loop.self.state c.leg-leg.new.self.state c.args.hart c.loop.count c.leg-leg.result.count c.loop.invariant.leg c.loop.invariant.stays c.leg-leg.ensures.leg).legal

pub returns-then-leg-clause-after : goal.returns-then-leg-clause-after
returns-then-leg-clause-after c =
    (leg_joined c.args.noted c.args.self.now.state c.loop.self.state c.leg-leg.new.self.state c.args.hart c.loop.count c.leg-leg.result.count c.loop.invariant.leg c.loop.invariant.stays c.leg-leg.ensures.leg).after

pub returns-then-leg-clause-row : goal.returns-then-leg-clause-row
returns-then-leg-clause-row c =
    (leg_joined c.args.noted c.args.self.now.state c.loop.self.state c.leg-leg.new.self.state c.args.hart c.loop.count c.leg-leg.result.count c.loop.invariant.leg c.loop.invariant.stays c.leg-leg.ensures.leg).plain

pub returns-then-leg-clause-notes : goal.returns-then-leg-clause-notes
returns-then-leg-clause-notes c =
    notes_both c.args.noted c.args.log.now.notes c.loop.log.notes c.leg-leg.new.log.notes (space_of c.args.self.now) (space_of c.loop.self) (space_of c.leg-leg.new.self) c.loop.invariant.notes c.leg-leg.ensures.notes

pub loop-preserved : goal.loop-preserved
loop-preserved c =
    let so_far = c.loop.invariant in
    let within = c.leg-leg.ensures.within in
    let room = so_far.room in
    let more_room = c.leg-leg.ensures.room in
    let few = so_far.few in
    let more_few = c.leg-leg.ensures.few in
    let turns = so_far.turns in
    let old = so_far.within in
    let on = c.if-leg.false in
    let more = c.leg-leg.ensures.more on in
    record {
      within = omega (arith, within, old);
      leg = leg_joined c.args.noted c.args.self.now.state c.loop.self.state c.leg-leg.new.self.state c.args.hart c.loop.count c.leg-leg.result.count so_far.leg so_far.stays c.leg-leg.ensures.leg;
      stays = c.leg-leg.ensures.stays on ∙ so_far.stays;
      notes = notes_both c.args.noted c.args.log.now.notes c.loop.log.notes c.leg-leg.new.log.notes (space_of c.args.self.now) (space_of c.loop.self) (space_of c.leg-leg.new.self) so_far.notes c.leg-leg.ensures.notes;
      few = omega (arith, few, more_few);
      room = omega (arith, room, more_room);
      turns = omega (arith, turns, more);
    }
