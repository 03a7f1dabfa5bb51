-- Segments, whose bytes are still a part of the file, as the loads that they become.
use Rattle.guest_words.specs.declared.image.Load.{Load}
use Rattle.elf_loader.specs.declared.segment.Segment.{Segment}

-- the load with the segment's bytes
abbrev pub load_of : Segment → Load
load_of s = record { address = s.address; size = s.size; bytes = s.bytes.now; rights = s.rights }
