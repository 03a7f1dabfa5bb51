use Rattle.std.proofs.Common.{length}
use Rattle.open_calls.proofs.room.+refill.Given as goal

abbrev pub decreases-refill : goal.decreases-refill
decreases-refill l = length l.outers.now
