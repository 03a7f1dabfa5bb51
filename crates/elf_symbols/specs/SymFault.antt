-- Printed names of the faults of symbol tables.
use Rattle.std.specs.Prelude.{ℕ, List, codes}
use Rattle.elf_symbols.specs.declared.sym_fault.SymFault.{SymFault}
use Rattle.elf_symbols.specs.declared.sym_fault.SymFault.TheVariants.{SectionSize, SectionsOutside, EntrySize, TableOutside, StringSection, StringsOutside, NameOutside}

-- the name of a fault, as ASCII
abbrev pub sym_fault_name : SymFault → List ℕ
sym_fault_name SectionSize = codes "section-size"
sym_fault_name SectionsOutside = codes "sections-outside"
sym_fault_name EntrySize = codes "entry-size"
sym_fault_name TableOutside = codes "table-outside"
sym_fault_name StringSection = codes "string-section"
sym_fault_name StringsOutside = codes "strings-outside"
sym_fault_name NameOutside = codes "name-outside"
