use Rattle.std.proofs.Common.{◌-◌}
use Rattle.guest_pages.proofs.AreaSearch.{IsLowest}
use Rattle.guest_pages.proofs.area.lowest_gap.Given as goal

-- the pages that are passed end before the place, and nothing fits before it
abbrev pub invariant-loop-index : goal.invariant-loop-index
invariant-loop-index l = IsLowest l.pages l.count l.place l.index

abbrev pub decreases-loop-index : goal.decreases-loop-index
decreases-loop-index l = l.last - l.index
