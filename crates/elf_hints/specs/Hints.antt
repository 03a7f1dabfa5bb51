-- What would be right in a program that is refused, by the rule that it breaks.
use Rattle.std.specs.Prelude.{ℕ, List, ◌++◌, codes}
use Rattle.elf_symbols.specs.declared.sym_fault.SymFault.{SymFault}
use Rattle.elf_symbols.specs.declared.sym_fault.SymFault.TheVariants.{SectionSize, SectionsOutside, EntrySize, TableOutside, StringSection, StringsOutside, NameOutside}
use Rattle.guest_words.specs.declared.elf_fault.ElfFault.{ElfFault}
use Rattle.guest_words.specs.declared.elf_fault.ElfFault.TheVariants.{TooShort, Magic, Class, ByteOrder, Version, FileType, Machine, Flags, HeaderTable, HeadersOutside, Dynamic, SegmentSizes, SegmentOutside, SegmentPlace, WriteExecute, PageClash, Large, Entry}

-- a line behind two spaces
abbrev pub hint_line : List ℕ → List ℕ
hint_line words = codes "  " ++ words ++ codes "\n"

abbrev pub elf_hint : ElfFault → List ℕ
elf_hint TooShort = hint_line (codes "the file is cut: a header has 64 bytes")
elf_hint Magic = hint_line (codes "a program is an ELF file, as riscv64-linux-gnu-gcc makes it")
elf_hint Class = hint_line (codes "a program has 64 bits: -march=rv64ima -mabi=lp64")
elf_hint ByteOrder = hint_line (codes "a program is little-endian, as compilers for riscv64 make it")
elf_hint Version = hint_line (codes "the version of the format is 1, as every linker writes it")
elf_hint FileType = hint_line (codes "a program is linked at fixed addresses: -static, and no -c, -pie or -shared")
elf_hint Machine = hint_line (codes "a program is for RISC-V: the compiler for riscv64, as riscv64-linux-gnu-gcc")
elf_hint Flags = hint_line (codes "a program has no compressed code and no floats in registers: -march=rv64ima -mabi=lp64") ++ hint_line (codes "the C library counts too: -nostdlib, or one that was built with these options")
elf_hint HeaderTable = hint_line (codes "a program has 1 to 64 program headers, of 56 bytes each")
elf_hint HeadersOutside = hint_line (codes "the file is cut: its program headers go past its end")
elf_hint Dynamic = hint_line (codes "a program asks for no dynamic linker: -static")
elf_hint SegmentSizes = hint_line (codes "a load has no more bytes in the file than in memory")
elf_hint SegmentOutside = hint_line (codes "the file is cut: a load goes past its end")
elf_hint SegmentPlace = hint_line (codes "loads lie from 0x1000 to 0x3f00000000, as the linker puts them by itself")
elf_hint WriteExecute = hint_line (codes "no load is both written and executed: no -n and no -N for the linker")
elf_hint PageClash = hint_line (codes "loads with other rights have pages of their own: no -z max-page-size below 4096")
elf_hint Large = hint_line (codes "the loads have at most 16384 pages, which are 64 MiB: smaller arrays")
elf_hint Entry = hint_line (codes "the entry is in an executable load, at a multiple of 4: _start in the code")

-- what does where a program has no symbols
abbrev pub without_symbols : List ℕ
without_symbols = hint_line (codes "strip takes the symbols away, and then a rescue file names its points by entry")

abbrev pub sym_hint : SymFault → List ℕ
sym_hint SectionSize = hint_line (codes "a section header has 64 bytes") ++ without_symbols
sym_hint SectionsOutside = hint_line (codes "the file is cut: its section headers go past its end") ++ without_symbols
sym_hint EntrySize = hint_line (codes "a symbol has 24 bytes, and the table is made of whole ones") ++ without_symbols
sym_hint TableOutside = hint_line (codes "the file is cut: its table of symbols goes past its end") ++ without_symbols
sym_hint StringSection = hint_line (codes "the table of symbols names a section of texts") ++ without_symbols
sym_hint StringsOutside = hint_line (codes "the file is cut: the texts of its symbols go past its end") ++ without_symbols
sym_hint NameOutside = hint_line (codes "a function's name ends in the section of texts, by a zero byte") ++ without_symbols
