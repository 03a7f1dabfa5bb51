use Rattle.std.proofs.Common.{◌≡◌, drop}
use Rattle.history_file.specs.Starts.{first_illegal}
use Rattle.rescue_audit.proofs.Replaying.{counted}
use Rattle.rescue_audit.proofs.replay.first_illegal.Given as goal

abbrev pub invariant-loop-index : goal.invariant-loop-index
invariant-loop-index l =
    counted l.index (first_illegal l.plain (drop l.index l.fn.entries)) ≡ first_illegal l.fn.start l.fn.entries
