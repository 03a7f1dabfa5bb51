-- The first fault and the symbols of a file, as far as its rules have been tried.
use Rattle.std.proofs.Common.{◌≡◌, ◌≤◌, ℕ, List, [], ◌++◌, true, false, length, map, refl, ap, ◌∙◌, arith, lit<}
use Rattle.std.specs.Prelude.{Some, None}
use Rattle.std.specs.List.{flat_map}
use Rattle.std.proofs.lemmas.Bool.Decides.{nat_tests}
use Rattle.guest_words.specs.declared.elf_fault.ElfFault.TheVariants.{TooShort}
use Rattle.guest_words.specs.Rules.{rule, first_broken}
use Rattle.guest_words.specs.Image.{first_fault, header_rules, table_rules as elf_table_rules, entry_rules}
use Rattle.guest_words.specs.ElfFields.{e_phnum}
use Rattle.guest_words.proofs.RuleLaws.{first_broken-append_none, first_broken-append_some, kept_parts, All-from_first_broken}
use Rattle.elf_symbols.specs.declared.sym_fault.SymFault.{SymFault}
use Rattle.elf_symbols.specs.declared.symbol_table.SymbolTable.{SymbolTable}
use Rattle.elf_symbols.specs.Listed.{IsTableAt, listed}
use Rattle.elf_symbols.specs.SymbolTable.{places, has_sections, table_place, section_rules, table_rules, name_rule, rules_at, entries, strings_of, symbol_at, symbols_at, first_symbol_fault, symbols_of}

-- an accepted file has a whole header
pub long_enough : (file : List ℕ) → first_fault file ≡ None → 64 ≤ length file
unfolding first_fault
long_enough file kept =
    let header = header_rules file in
    let table = elf_table_rules file (e_phnum file) in
    let all = kept_parts (header ++ table) (entry_rules file) kept in
    let first = All-from_first_broken header (kept_parts header table all.0).0 0 (rule true TooShort 0) (lit< tt) in
    grind (arith, nat_tests, first)

pub no_sections : (file : List ℕ) → has_sections file ≡ false → (first_symbol_fault file ≡ None) × (symbols_of file ≡ [])
unfolding first_symbol_fault symbols_of
no_sections file none = (rw none refl, rw none refl)

pub section_fault : (file : List ℕ) (x : SymFault × ℕ) → has_sections file ≡ true → first_broken (section_rules file) ≡ Some x → first_symbol_fault file ≡ Some x
unfolding first_symbol_fault
section_fault file x some broken = rw some (first_broken-append_some (section_rules file) (rules_at file (table_place file)) x broken)

-- the rules after those on the section headers
after_sections : (file : List ℕ) → has_sections file ≡ true → first_broken (section_rules file) ≡ None → first_symbol_fault file ≡ first_broken (rules_at file (table_place file))
unfolding first_symbol_fault
after_sections file some kept = rw some (first_broken-append_none (section_rules file) (rules_at file (table_place file)) kept)

symbols_after : (file : List ℕ) → has_sections file ≡ true → symbols_of file ≡ symbols_at file (table_place file)
unfolding symbols_of
symbols_after file some = rw some refl

pub no_table : (file : List ℕ) → has_sections file ≡ true → first_broken (section_rules file) ≡ None → table_place file ≡ None → (first_symbol_fault file ≡ None) × (symbols_of file ≡ [])
no_table file some kept none = (
  after_sections file some kept ∙ ap (λ t. first_broken (rules_at file t)) none,
  symbols_after file some ∙ ap (symbols_at file) none,
)

-- the rules of a table and of its names
at_table : (file : List ℕ) (table : ℕ) → has_sections file ≡ true → first_broken (section_rules file) ≡ None → table_place file ≡ Some table → first_symbol_fault file ≡ first_broken (table_rules file table ++ map (name_rule file (strings_of file table)) (entries file table))
at_table file table some kept place = after_sections file some kept ∙ ap (λ t. first_broken (rules_at file t)) place

pub table_fault : (file : List ℕ) (table : ℕ) (x : SymFault × ℕ) → has_sections file ≡ true → first_broken (section_rules file) ≡ None → table_place file ≡ Some table → first_broken (table_rules file table) ≡ Some x → first_symbol_fault file ≡ Some x
table_fault file table x some kept place broken =
    at_table file table some kept place
    ∙ first_broken-append_some (table_rules file table) (map (name_rule file (strings_of file table)) (entries file table)) x broken

pub name_fault : (file : List ℕ) (table : ℕ) → has_sections file ≡ true → first_broken (section_rules file) ≡ None → table_place file ≡ Some table → first_broken (table_rules file table) ≡ None → first_symbol_fault file ≡ first_broken (map (name_rule file (strings_of file table)) (entries file table))
name_fault file table some kept place table_kept =
    at_table file table some kept place
    ∙ first_broken-append_none (table_rules file table) (map (name_rule file (strings_of file table)) (entries file table)) table_kept

pub symbols_are : (file : List ℕ) (table : ℕ) → has_sections file ≡ true → table_place file ≡ Some table → symbols_of file ≡ flat_map (symbol_at file (strings_of file table)) (entries file table)
symbols_are file table some place = symbols_after file some ∙ ap (symbols_at file) place

-- the rules on the names, and the symbols, as they are found from a table that was read
pub names_at :
    (file : List ℕ) (place : ℕ) (table : SymbolTable)
    → IsTableAt file place table
    → map (name_rule table.file.now table.strings.now) (places table.first 24 table.count) ≡ map (name_rule file (strings_of file place)) (entries file place)
names_at file place table is =
    λ i. map (name_rule (is.same i) (is.strings i)) (places (is.first i) 24 (is.count i))

pub listed_at :
    (file : List ℕ) (place : ℕ) (table : SymbolTable)
    → IsTableAt file place table
    → listed (Some table) ≡ flat_map (symbol_at file (strings_of file place)) (entries file place)
listed_at file place table is =
    λ i. flat_map (symbol_at (is.same i) (is.strings i)) (places (is.first i) 24 (is.count i))
