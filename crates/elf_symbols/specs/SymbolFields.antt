-- The fields of section headers and of symbols, by the names of the System V gABI, 'Sections' and
-- 'Symbol Table'.
use Rattle.std.specs.Prelude.{ℕ, ◌+◌, List}
use Rattle.guest_words.specs.ElfFields.{number}

-- the fields of the section header at a place
abbrev pub sh_type : List ℕ → ℕ → ℕ
sh_type file place = number 4 (place + 4) file

abbrev pub sh_offset : List ℕ → ℕ → ℕ
sh_offset file place = number 8 (place + 24) file

abbrev pub sh_size : List ℕ → ℕ → ℕ
sh_size file place = number 8 (place + 32) file

abbrev pub sh_link : List ℕ → ℕ → ℕ
sh_link file place = number 4 (place + 40) file

abbrev pub sh_entsize : List ℕ → ℕ → ℕ
sh_entsize file place = number 8 (place + 56) file

-- the fields of the symbol at a place
abbrev pub st_name : List ℕ → ℕ → ℕ
st_name file place = number 4 place file

abbrev pub st_info : List ℕ → ℕ → ℕ
st_info file place = number 1 (place + 4) file

abbrev pub st_shndx : List ℕ → ℕ → ℕ
st_shndx file place = number 2 (place + 6) file

abbrev pub st_value : List ℕ → ℕ → ℕ
st_value file place = number 8 (place + 8) file

abbrev pub st_size : List ℕ → ℕ → ℕ
st_size file place = number 8 (place + 16) file
