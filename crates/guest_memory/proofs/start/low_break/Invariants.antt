use Rattle.std.proofs.Common.{◌≡◌, max, drop}
use Rattle.guest_words.specs.Start.{low_break}
use Rattle.guest_memory.proofs.start.low_break.Given as goal

-- with the loads that are left it comes to the low break of all
abbrev pub invariant-loop-load : goal.invariant-loop-load
invariant-loop-load l = max l.low (low_break (drop l.load-index l.loads)) ≡ low_break l.loads
