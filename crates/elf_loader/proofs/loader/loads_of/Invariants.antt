use Rattle.std.proofs.Common.{◌≡◌, map, take}
use Rattle.elf_loader.specs.Segment.{load_of}
use Rattle.elf_loader.proofs.loader.loads_of.Given as goal

abbrev pub invariant-loop-segment : goal.invariant-loop-segment
invariant-loop-segment l = l.loads.items ≡ map load_of (take l.segment-index l.segments)
