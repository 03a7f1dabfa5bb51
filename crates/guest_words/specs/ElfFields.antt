-- The fields of ELF files, by the names of the System V gABI, 'ELF Header' and 'Program Header'.
use Rattle.std.specs.Prelude.{ℕ, zero, suc, ◌+◌, ◌*◌, List, slice_index}

-- the number in so many bytes from a place on, the least significant byte first
unfoldable pub number : ℕ → ℕ → List ℕ → ℕ
number zero place file = 0
number (suc count) place file = slice_index file place + 256 * number count (place + 1) file

-- the fields of the file's header
abbrev pub e_type : List ℕ → ℕ
e_type file = number 2 16 file

abbrev pub e_machine : List ℕ → ℕ
e_machine file = number 2 18 file

abbrev pub e_version : List ℕ → ℕ
e_version file = number 4 20 file

abbrev pub e_entry : List ℕ → ℕ
e_entry file = number 8 24 file

abbrev pub e_phoff : List ℕ → ℕ
e_phoff file = number 8 32 file

abbrev pub e_shoff : List ℕ → ℕ
e_shoff file = number 8 40 file

abbrev pub e_flags : List ℕ → ℕ
e_flags file = number 4 48 file

abbrev pub e_phentsize : List ℕ → ℕ
e_phentsize file = number 2 54 file

abbrev pub e_phnum : List ℕ → ℕ
e_phnum file = number 2 56 file

abbrev pub e_shentsize : List ℕ → ℕ
e_shentsize file = number 2 58 file

abbrev pub e_shnum : List ℕ → ℕ
e_shnum file = number 2 60 file

-- where a program header stands, by its number
abbrev pub header_place : List ℕ → ℕ → ℕ
header_place file k = e_phoff file + 56 * k

-- the fields of the program header at a place
abbrev pub p_type : List ℕ → ℕ → ℕ
p_type file place = number 4 place file

abbrev pub p_flags : List ℕ → ℕ → ℕ
p_flags file place = number 4 (place + 4) file

abbrev pub p_offset : List ℕ → ℕ → ℕ
p_offset file place = number 8 (place + 8) file

abbrev pub p_vaddr : List ℕ → ℕ → ℕ
p_vaddr file place = number 8 (place + 16) file

abbrev pub p_filesz : List ℕ → ℕ → ℕ
p_filesz file place = number 8 (place + 32) file

abbrev pub p_memsz : List ℕ → ℕ → ℕ
p_memsz file place = number 8 (place + 40) file
