-- The rules on the symbols of an ELF file in their order, and the list of its function symbols.
-- System V gABI, 'Sections', 'String Table' and 'Symbol Table'.
use Rattle.std.specs.Prelude.{ℕ, zero, suc, ◌+◌, ◌*◌, ◌/◌, ◌%◌, ◌==◌, nat_lt, nat_le, Bool, not, ◌&&◌, ◌||◌, List, [], ◌∷◌, ◌++◌, length, take, drop, map, Option, Some, None, bit_and, find, if◌then◌else◌}
use Rattle.std.specs.List.{before_first, flat_map}
use Rattle.std.specs.Str.{is_utf8}
use Rattle.guest_words.specs.Rules.{Rule, rule, first_broken}
use Rattle.guest_words.specs.ElfFields.{e_shoff, e_shentsize, e_shnum}
use Rattle.guest_words.specs.Image.{contains}
use Rattle.elf_symbols.specs.declared.sym_fault.SymFault.{SymFault}
use Rattle.elf_symbols.specs.declared.sym_fault.SymFault.TheVariants.{SectionSize, SectionsOutside, EntrySize, TableOutside, StringSection, StringsOutside, NameOutside}
use Rattle.elf_symbols.specs.declared.symbol.Symbol.{Symbol}
use Rattle.elf_symbols.specs.SymbolFields.{sh_type, sh_offset, sh_size, sh_link, sh_entsize, st_name, st_info, st_shndx, st_value, st_size}

-- so many places, the first at from, each so many bytes after the one before
unfoldable pub places : ℕ → ℕ → ℕ → List ℕ
places from step zero = []
places from step (suc k) = places from step k ++ (from + step * k) ∷ []

-- a file has sections where neither the offset nor the number of their headers is 0
abbrev pub has_sections : List ℕ → Bool
has_sections file = not (e_shoff file == 0) && not (e_shnum file == 0)

-- where a section's header stands, by the section's number
abbrev pub section_place : List ℕ → ℕ → ℕ
section_place file k = e_shoff file + 64 * k

-- the header of the symbol table: the first section of type 2
abbrev pub table_place : List ℕ → Option ℕ
table_place file = find (λ place. sh_type file place == 2) (places (e_shoff file) 64 (e_shnum file))

-- the header of the section with the names of a symbol table
abbrev pub strings_place : List ℕ → ℕ → ℕ
strings_place file table = section_place file (sh_link file table)

-- the bytes of that section
abbrev pub strings_of : List ℕ → ℕ → List ℕ
strings_of file table =
    let place = strings_place file table in
    take (sh_size file place) (drop (sh_offset file place) file)

-- where the symbols of a table stand
abbrev pub entries : List ℕ → ℕ → List ℕ
entries file table = places (sh_offset file table) 24 (sh_size file table / 24)

-- a symbol is a function where its type is 2 and its section isn't 0
abbrev pub is_function : List ℕ → ℕ → Bool
is_function file entry = (bit_and (st_info file entry) 15 == 2) && not (st_shndx file entry == 0)

-- what follows where the name of a symbol begins
abbrev pub name_tail : List ℕ → List ℕ → ℕ → List ℕ
name_tail file strings entry = drop (st_name file entry) strings

-- the name of a symbol: the bytes up to a zero byte
abbrev pub name_of : List ℕ → List ℕ → ℕ → List ℕ
name_of file strings entry = before_first (λ b. b == 0) (name_tail file strings entry)

-- the rules on the section headers
abbrev pub section_rules : List ℕ → List (Rule SymFault)
section_rules file =
    rule (not (e_shentsize file == 64)) SectionSize 58
    ∷ rule (nat_lt (length file) (e_shoff file + 64 * e_shnum file)) SectionsOutside 40
    ∷ []

-- the rules on the symbol table and the section with its names
abbrev pub table_rules : List ℕ → ℕ → List (Rule SymFault)
table_rules file table =
    let strings = strings_place file table in
    rule (not (sh_entsize file table == 24)) EntrySize (table + 56)
    ∷ rule (not (sh_size file table % 24 == 0)) EntrySize (table + 32)
    ∷ rule (nat_lt (length file) (sh_offset file table + sh_size file table))
    TableOutside (table + 24)
    ∷ rule (nat_le (e_shnum file) (sh_link file table) || not (sh_type file strings == 3))
    StringSection (table + 40)
    ∷ rule (nat_lt (length file) (sh_offset file strings + sh_size file strings))
    StringsOutside (strings + 24)
    ∷ []

-- the rule on a symbol: a function's name ends by a zero byte within the section of the names
abbrev pub name_rule : List ℕ → List ℕ → ℕ → Rule SymFault
name_rule file strings entry =
    rule (is_function file entry && not (contains (name_tail file strings entry) 0))
    NameOutside entry

-- all rules on the symbols of a table, if there is one
abbrev pub rules_at : List ℕ → Option ℕ → List (Rule SymFault)
rules_at file None = []
rules_at file (Some table) =
    table_rules file table ++ map (name_rule file (strings_of file table)) (entries file table)

-- all rules, in the order in which they are tried
abbrev pub symbol_rules : List ℕ → List (Rule SymFault)
symbol_rules file =
    if has_sections file then section_rules file ++ rules_at file (table_place file) else []

-- the first rule on symbols that a file breaks, with its offset
unfoldable pub first_symbol_fault : List ℕ → Option (SymFault × ℕ)
first_symbol_fault file = first_broken (symbol_rules file)

-- the symbol at a place, if it is a function whose name is UTF-8
abbrev pub symbol_at : List ℕ → List ℕ → ℕ → List Symbol
symbol_at file strings entry =
    let name = name_of file strings entry in
    if is_function file entry && is_utf8 name
    then record { value = st_value file entry; size = st_size file entry; name = name } ∷ []
    else []

-- the function symbols of a table, if there is one
abbrev pub symbols_at : List ℕ → Option ℕ → List Symbol
symbols_at file None = []
symbols_at file (Some table) =
    flat_map (symbol_at file (strings_of file table)) (entries file table)

-- the function symbols of a file that breaks no rule, in the order of the table
unfoldable pub symbols_of : List ℕ → List Symbol
symbols_of file = if has_sections file then symbols_at file (table_place file) else []
