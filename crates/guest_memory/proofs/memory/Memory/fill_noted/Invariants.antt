use Rattle.std.proofs.Common.{◌≡◌, ◌+◌, ◌-◌, ◌≤◌, length, take, true}
use Rattle.guest_words.specs.Space.{with_bytes}
use Rattle.guest_memory.specs.Noting.{Notes}
use Rattle.guest_memory.specs.Text.{SameText}
use Rattle.guest_memory.proofs.memory.Memory.fill_noted.Given as goal

-- the first bytes are stored, and the notes taken so far lead back to the start
abbrev pub invariant-loop-done : goal.invariant-loop-done
invariant-loop-done l = record {
  within : l.done ≤ length l.bytes;
  same : l.self ≡ record l.fn.self { space = with_bytes l.fn.self.space l.from (take l.done l.bytes) };
  notes : Notes true l.fn.log.notes l.log.notes l.fn.self l.self;
  few : length l.log.notes ≤ length l.fn.log.notes + l.done;
  room : l.fn.log.spare ≤ l.log.spare + l.done;
  text : SameText l.fn.self.space l.self.space;
}

abbrev pub decreases-loop-done : goal.decreases-loop-done
decreases-loop-done l = length l.bytes - l.done
