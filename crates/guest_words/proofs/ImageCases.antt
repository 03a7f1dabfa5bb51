-- What the rules on ELF files say of small files, by computing.
use Rattle.std.proofs.Common.{◌≡◌, ℕ, List, [], ◌∷◌, ◌++◌, length, take, map, true, false, refl}
use Rattle.std.specs.Prelude.{Option, Some, None}
use Rattle.std.specs.List.{range_with_len}
use Rattle.guest_words.specs.declared.elf_fault.ElfFault.{ElfFault}
use Rattle.guest_words.specs.declared.elf_fault.ElfFault.TheVariants.{TooShort, HeadersOutside, SegmentOutside, WriteExecute, PageClash}
use Rattle.guest_words.specs.ElfFields.{number, e_entry}
use Rattle.guest_words.specs.Image.{loads_before, loads_of, page_count, table_rules, first_fault}

-- li x17, 93; li x10, 7; ecall
abbrev words : List ℕ
words = 0x93 ∷ 0x08 ∷ 0xd0 ∷ 0x05 ∷ 0x13 ∷ 0x05 ∷ 0x70 ∷ 0x00 ∷ 0x73 ∷ 0x00 ∷ 0x00 ∷ 0x00 ∷ []

-- the file's header, with so many program headers
abbrev header : ℕ → List ℕ
header count =
    0x7f ∷ 0x45 ∷ 0x4c ∷ 0x46 ∷ 2 ∷ 1 ∷ 1 ∷ 0 ∷ 0 ∷ 0 ∷ 0 ∷ 0 ∷ 0 ∷ 0 ∷ 0 ∷ 0
    ∷ 2 ∷ 0 ∷ 0xf3 ∷ 0 ∷ 1 ∷ 0 ∷ 0 ∷ 0 ∷ 0 ∷ 0 ∷ 1 ∷ 0 ∷ 0 ∷ 0 ∷ 0 ∷ 0
    ∷ 64 ∷ 0 ∷ 0 ∷ 0 ∷ 0 ∷ 0 ∷ 0 ∷ 0 ∷ 0 ∷ 0 ∷ 0 ∷ 0 ∷ 0 ∷ 0 ∷ 0 ∷ 0
    ∷ 0 ∷ 0 ∷ 0 ∷ 0 ∷ 64 ∷ 0 ∷ 56 ∷ 0 ∷ count ∷ 0 ∷ 64 ∷ 0 ∷ 0 ∷ 0 ∷ 0 ∷ 0 ∷ []

-- a program header of a load with these flags, of size bytes at place, for 0x10000 + 256 * page
abbrev load_header : ℕ → ℕ → ℕ → ℕ → List ℕ
load_header flags place page size =
    1 ∷ 0 ∷ 0 ∷ 0 ∷ flags ∷ 0 ∷ 0 ∷ 0 ∷ place ∷ 0 ∷ 0 ∷ 0 ∷ 0 ∷ 0 ∷ 0 ∷ 0
    ∷ 0 ∷ page ∷ 1 ∷ 0 ∷ 0 ∷ 0 ∷ 0 ∷ 0 ∷ 0 ∷ page ∷ 1 ∷ 0 ∷ 0 ∷ 0 ∷ 0 ∷ 0
    ∷ size ∷ 0 ∷ 0 ∷ 0 ∷ 0 ∷ 0 ∷ 0 ∷ 0 ∷ size ∷ 0 ∷ 0 ∷ 0 ∷ 0 ∷ 0 ∷ 0 ∷ 0
    ∷ 0 ∷ 0x10 ∷ 0 ∷ 0 ∷ 0 ∷ 0 ∷ 0 ∷ 0 ∷ []

-- the smallest program: it exits with 7
abbrev smallest : List ℕ
smallest = header 1 ++ load_header 5 120 0 12 ++ words

smallest_length : length smallest ≡ 132
smallest_length = refl

smallest_is_accepted : first_fault smallest ≡ None
unfolding first_fault table_rules loads_before page_count number
smallest_is_accepted = refl

smallest_entry : e_entry smallest ≡ 0x10000
unfolding number
smallest_entry = refl

smallest_loads :
    loads_of smallest
    ≡ record {
      address = 0x10000;
      size = 12;
      bytes = words;
      rights = record { read = true; write = false; exec = true };
    }
    ∷ []
unfolding loads_before number
smallest_loads = refl

-- the first faults of the smallest program's first bytes, for so many lengths from one on
abbrev cut_faults : ℕ → ℕ → List (Option (ElfFault × ℕ))
cut_faults from count = map (λ n. first_fault (take n smallest)) (range_with_len from count)

cut_before_64 : cut_faults 0 64 ≡ map (λ n. Some (TooShort, n)) (range_with_len 0 64)
unfolding first_fault table_rules loads_before page_count number
cut_before_64 = refl

cut_before_120 : cut_faults 64 56 ≡ map (λ _. Some (HeadersOutside, 32)) (range_with_len 64 56)
unfolding first_fault table_rules loads_before page_count number
cut_before_120 = refl

cut_before_132 : cut_faults 120 12 ≡ map (λ _. Some (SegmentOutside, 72)) (range_with_len 120 12)
unfolding first_fault table_rules loads_before page_count number
cut_before_132 = refl

-- a load with read, write and exec
writable_code : first_fault (header 1 ++ load_header 7 120 0 12 ++ words) ≡ Some (WriteExecute, 68)
unfolding first_fault table_rules loads_before page_count number
writable_code = refl

-- a load of 16 bytes with read and write at 0x10800, in the page of one with read and exec
shared_page :
    first_fault (header 2 ++ load_header 5 176 0 12 ++ load_header 6 120 8 16 ++ words)
    ≡ Some (PageClash, 136)
unfolding first_fault table_rules loads_before page_count number
shared_page = refl
