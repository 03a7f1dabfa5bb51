use Rattle.std.proofs.Common.{◌≡◌, length}
use Rattle.open_calls.specs.Nest.{closed_to}
use Rattle.open_calls.proofs.calls.Calls.close_to.Given as goal

-- what is left to close gives the same in the end
abbrev pub invariant-loop-self : goal.invariant-loop-self
invariant-loop-self l = record {
  nest : closed_to l.fn.self.hart l.keep l.self.nest ≡ closed_to l.fn.self.hart l.keep l.fn.self.nest;
  hart : l.self.hart ≡ l.fn.self.hart;
  acts : l.self.acts ≡ l.fn.self.acts;
}

abbrev pub decreases-loop-self : goal.decreases-loop-self
decreases-loop-self l = length l.self.nest.outers
