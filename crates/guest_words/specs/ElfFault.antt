-- Printed names of the faults of ELF files.
use Rattle.std.specs.Prelude.{ℕ, List, codes}
use Rattle.guest_words.specs.declared.elf_fault.ElfFault.{ElfFault}
use Rattle.guest_words.specs.declared.elf_fault.ElfFault.TheVariants.{TooShort, Magic, Class, ByteOrder, Version, FileType, Machine, Flags, HeaderTable, HeadersOutside, Dynamic, SegmentSizes, SegmentOutside, SegmentPlace, WriteExecute, PageClash, Large, Entry}

-- the name of a fault, as ASCII
abbrev pub elf_fault_name : ElfFault → List ℕ
elf_fault_name TooShort = codes "too-short"
elf_fault_name Magic = codes "magic"
elf_fault_name Class = codes "class"
elf_fault_name ByteOrder = codes "data"
elf_fault_name Version = codes "version"
elf_fault_name FileType = codes "type"
elf_fault_name Machine = codes "machine"
elf_fault_name Flags = codes "flags"
elf_fault_name HeaderTable = codes "header-table"
elf_fault_name HeadersOutside = codes "headers-outside"
elf_fault_name Dynamic = codes "dynamic"
elf_fault_name SegmentSizes = codes "segment-sizes"
elf_fault_name SegmentOutside = codes "segment-outside"
elf_fault_name SegmentPlace = codes "segment-place"
elf_fault_name WriteExecute = codes "write-execute"
elf_fault_name PageClash = codes "page-clash"
elf_fault_name Large = codes "large"
elf_fault_name Entry = codes "entry"
