use Rattle.std.proofs.Common.{length}
use Rattle.point_frames.proofs.closing.+closed_after.Given as goal

abbrev pub decreases-closed_after : goal.decreases-closed_after
decreases-closed_after l = length l.frames.now
