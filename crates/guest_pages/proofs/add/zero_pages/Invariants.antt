use Rattle.guest_pages.specs.Buffers.{AreZeros}
use Rattle.guest_pages.proofs.add.zero_pages.Given as goal

-- so many pages are there
abbrev pub invariant-loop-index : goal.invariant-loop-index
invariant-loop-index l = AreZeros l.from l.index l.rights l.pages.items
