-- Symbol tables as they are read, and the symbols that they stand for.
use Rattle.std.specs.Prelude.{◌≡◌, ℕ, ◌/◌, List, [], Option, Some, None}
use Rattle.std.specs.List.{flat_map}
use Rattle.elf_symbols.specs.declared.symbol.Symbol.{Symbol}
use Rattle.elf_symbols.specs.declared.symbol_table.SymbolTable.{SymbolTable}
use Rattle.elf_symbols.specs.SymbolFields.{sh_offset, sh_size}
use Rattle.elf_symbols.specs.SymbolTable.{places, strings_of, symbol_at}

-- a table has the symbols and the names of the section header at a place of the file
pub record IsTableAt (file : List ℕ) (place : ℕ) (table : SymbolTable) : Type 0 where
  pub same : table.file.now ≡ file
  pub first : table.first ≡ sh_offset file place
  pub count : table.count ≡ sh_size file place / 24
  pub strings : table.strings.now ≡ strings_of file place

-- the functions of the table, and none without one
abbrev pub listed : Option SymbolTable → List Symbol
listed None = []
listed (Some table) =
    flat_map (symbol_at table.file.now table.strings.now) (places table.first 24 table.count)
