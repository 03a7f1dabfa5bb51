use Rattle.std.proofs.Common.{◌≡◌, ◌+◌, ◌≤◌, length}
use Rattle.guest_words.specs.State.{frames_at}
use Rattle.guest_memory.specs.Noting.{Notes}
use Rattle.hart_step.specs.Legs.{IsLeg}
use Rattle.hart_step.specs.Live.{space_of}
use Rattle.hart_step.proofs.engine.Engine.run.Given as goal

abbrev pub invariant-loop : goal.invariant-loop
invariant-loop l = record {
  within : l.count ≤ l.most;
  leg : IsLeg l.noted l.fn.self.state l.self.state l.hart l.count;
  stays : frames_at l.self.state l.hart ≡ frames_at l.fn.self.state l.hart;
  notes : Notes l.noted l.fn.log.notes l.log.notes (space_of l.fn.self) (space_of l.self);
  few : length l.log.notes ≤ length l.fn.log.notes + l.count;
  room : l.fn.log.spare ≤ l.log.spare + l.count;
  turns : l.counter ≤ l.count;
}
