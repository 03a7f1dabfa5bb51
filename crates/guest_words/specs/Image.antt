-- The rules on ELF files in their order, and the image of a file that keeps them all.
-- System V gABI, 'ELF Header' and 'Program Header'; RISC-V psABI, 'ELF Object Files'.
use Rattle.std.specs.Prelude.{IsTrue, IsFalse, ◌≡◌, ℕ, zero, suc, ◌+◌, ◌-◌, ◌*◌, ◌/◌, ◌%◌, ◌<◌, ◌≤◌, ◌==◌, nat_lt, Bool, true, false, not, ◌&&◌, ◌||◌, List, [], ◌∷◌, ◌++◌, length, take, drop, Option, bit_and, if◌then◌else◌}
use Rattle.std.specs.List.{All, AllPairs, list_any, range_with_len, flat_map}
use Rattle.guest_words.specs.declared.image.Rights.{Rights}
use Rattle.guest_words.specs.declared.image.Load.{Load}
use Rattle.guest_words.specs.declared.image.Image.{Image}
use Rattle.guest_words.specs.declared.elf_fault.ElfFault.{ElfFault}
use Rattle.guest_words.specs.declared.elf_fault.ElfFault.TheVariants.{TooShort, Magic, Class, ByteOrder, Version, FileType, Machine, Flags, HeaderTable, HeadersOutside, Dynamic, SegmentSizes, SegmentOutside, SegmentPlace, WriteExecute, PageClash, Large, Entry}
use Rattle.guest_words.specs.declared.limits.TheConstants.{PAGE, PROGRAM_HEADERS, LOAD_PAGES, FIRST_ADDRESS, LOADS_END}
use Rattle.guest_words.specs.declared.elf.TheConstants.{PT_LOAD, PT_DYNAMIC, PT_INTERP}
use Rattle.guest_words.specs.Rules.{Rule, rule, first_broken, IsKept}
use Rattle.guest_words.specs.ElfFields.{number, e_type, e_machine, e_version, e_entry, e_phoff, e_flags, e_phentsize, e_phnum, header_place, p_type, p_flags, p_offset, p_vaddr, p_filesz, p_memsz}

-- read, write and exec are the flags 4, 2 and 1; write brings read
abbrev pub rights_of : ℕ → Rights
rights_of flags = record {
  read = not (bit_and flags 6 == 0);
  write = not (bit_and flags 2 == 0);
  exec = not (bit_and flags 1 == 0);
}

-- a program header is a load of the image where it has type 1 and bytes in memory
abbrev pub is_load : List ℕ → ℕ → Bool
is_load file place = (p_type file place == PT_LOAD) && not (p_memsz file place == 0)

-- the load that a program header describes
abbrev pub load_at : List ℕ → ℕ → Load
load_at file place = record {
  address = p_vaddr file place;
  size = p_memsz file place;
  bytes = take (p_filesz file place) (drop (p_offset file place) file);
  rights = rights_of (p_flags file place);
}

-- the loads among so many first program headers, in their order
unfoldable pub loads_before : List ℕ → ℕ → List Load
loads_before file zero = []
loads_before file (suc k) =
    loads_before file k
    ++ (if is_load file (header_place file k) then load_at file (header_place file k) ∷ [] else [])

abbrev pub loads_of : List ℕ → List Load
loads_of file = loads_before file (e_phnum file)

-- the addresses of a load's bytes
abbrev pub addresses_of : Load → List ℕ
addresses_of load = range_with_len load.address load.size

-- the numbers of the pages that a load has a byte in
abbrev pub pages_of : Load → List ℕ
pages_of load =
    let first = load.address / PAGE in
    range_with_len first ((load.address + load.size - 1) / PAGE + 1 - first)

abbrev pub contains : List ℕ → ℕ → Bool
contains numbers n = list_any (λ m. m == n) numbers

-- whether two lists have a number in common
abbrev pub meets : List ℕ → List ℕ → Bool
meets xs ys = list_any (contains ys) xs

abbrev pub same_right : Bool → Bool → Bool
same_right true b = b
same_right false b = not b

abbrev pub same_rights : Rights → Rights → Bool
same_rights a b = same_right a.read b.read && same_right a.write b.write && same_right a.exec b.exec

-- two loads clash where they have a page in common and other rights, or a byte in common
abbrev pub clashes : Load → Load → Bool
clashes a b =
    (meets (pages_of a) (pages_of b) && not (same_rights a.rights b.rights))
    || meets (addresses_of a) (addresses_of b)

-- how many different numbers a list has
abbrev pub count_of : List ℕ → ℕ
count_of [] = 0
count_of (n ∷ ns) = (if contains ns n then count_of ns else 1 + count_of ns)

-- how many pages the loads have, each counted once
unfoldable pub page_count : List Load → ℕ
page_count loads = count_of (flat_map pages_of loads)

-- the page of an address has exec
abbrev pub is_executable : List Load → ℕ → Bool
is_executable loads address =
    list_any (λ load. contains (pages_of load) (address / PAGE) && load.rights.exec) loads

-- the rules on the file's header
abbrev pub header_rules : List ℕ → List (Rule ElfFault)
header_rules file =
    rule (nat_lt (length file) 64) TooShort (length file)
    ∷ rule (not (number 4 0 file == 0x464c457f)) Magic 0
    ∷ rule (not (number 1 4 file == 2)) Class 4
    ∷ rule (not (number 1 5 file == 1)) ByteOrder 5
    ∷ rule (not (number 1 6 file == 1)) Version 6
    ∷ rule (not (e_type file == 2)) FileType 16
    ∷ rule (not (e_machine file == 243)) Machine 18
    ∷ rule (not (e_version file == 1)) Version 20
    ∷ rule (not (bit_and (e_flags file) 7 == 0)) Flags 48
    ∷ rule (not (e_phentsize file == 56)) HeaderTable 54
    ∷ rule ((e_phnum file == 0) || nat_lt PROGRAM_HEADERS (e_phnum file)) HeaderTable 56
    ∷ rule (nat_lt (length file) (e_phoff file + 56 * e_phnum file)) HeadersOutside 32
    ∷ []

-- the rules on a load that has bytes in memory, after the loads before it
abbrev pub load_rules : List ℕ → List Load → ℕ → List (Rule ElfFault)
load_rules file earlier place =
    let load = load_at file place in
    let from = p_offset file place in
    let size = p_filesz file place in
    rule (not (size == 0) && nat_lt (length file) (from + size)) SegmentOutside (place + 8)
    ∷ rule (nat_lt load.address FIRST_ADDRESS || nat_lt LOADS_END (load.address + load.size))
    SegmentPlace (place + 16)
    ∷ rule (load.rights.write && load.rights.exec) WriteExecute (place + 4)
    ∷ rule (list_any (λ other. clashes other load) earlier) PageClash (place + 16)
    ∷ rule (nat_lt LOAD_PAGES (page_count (earlier ++ load ∷ []))) Large (place + 40)
    ∷ []

-- the rules on a program header of any type
abbrev pub segment_rules : List ℕ → ℕ → List (Rule ElfFault)
segment_rules file place =
    rule ((p_type file place == PT_DYNAMIC) || (p_type file place == PT_INTERP)) Dynamic place
    ∷ rule ((p_type file place == PT_LOAD) && nat_lt (p_memsz file place) (p_filesz file place))
    SegmentSizes (place + 32)
    ∷ []

-- all rules on the program header at a place, after the loads before it
abbrev pub rules_at : List ℕ → List Load → ℕ → List (Rule ElfFault)
rules_at file earlier place =
    segment_rules file place
    ++ (if is_load file place then load_rules file earlier place else [])

-- the rules on so many first program headers, in their order
unfoldable pub table_rules : List ℕ → ℕ → List (Rule ElfFault)
table_rules file zero = []
table_rules file (suc k) =
    table_rules file k ++ rules_at file (loads_before file k) (header_place file k)

-- the rule on the entry
abbrev pub entry_rules : List ℕ → List (Rule ElfFault)
entry_rules file =
    rule (not (e_entry file % 4 == 0) || not (is_executable (loads_of file) (e_entry file)))
    Entry 24
    ∷ []

-- all rules, in the order in which they are tried
abbrev pub rules_of : List ℕ → List (Rule ElfFault)
rules_of file = header_rules file ++ table_rules file (e_phnum file) ++ entry_rules file

-- the first rule that a file breaks, with its offset
unfoldable pub first_fault : List ℕ → Option (ElfFault × ℕ)
first_fault file = first_broken (rules_of file)

-- a file that breaks no rule is related to the image of its loads and its entry
pub record IsImage (file : List ℕ) (image : Image) : Type 0 where
  pub kept : All IsKept (rules_of file)
  pub loads : image.loads ≡ loads_of file
  pub entry : image.entry ≡ e_entry file

-- what each load of an image keeps by itself
pub record IsLoad (load : Load) : Type 0 where
  pub filled : 0 < load.size
  pub within : length load.bytes ≤ load.size
  pub low : FIRST_ADDRESS ≤ load.address
  pub high : load.address + load.size ≤ LOADS_END
  pub readable : IsTrue load.rights.write → IsTrue load.rights.read
  pub sealed : IsFalse (load.rights.write && load.rights.exec)

-- what the loads of an image keep together: no two clash, and their pages are within the limit
pub record IsLoadList (loads : List Load) : Type 0 where
  pub each : All IsLoad loads
  pub apart : AllPairs (λ a b. IsFalse (clashes a b)) loads
  pub pages : page_count loads ≤ LOAD_PAGES
