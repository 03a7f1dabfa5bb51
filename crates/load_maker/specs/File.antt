-- The load's program as an ELF file. System V gABI, 'ELF Header' and 'Program Header'; RISC-V
-- psABI, 'ELF Object Files'.
use Rattle.std.specs.Prelude.{ℕ, List, [], ◌∷◌, ◌++◌, replicate}
use Rattle.std.specs.Int.{w16, w32, w64, to_le_bytes}
use Rattle.std.specs.List.{flat_map}
use Rattle.guest_words.specs.declared.inst.Inst.{Inst}
use Rattle.load_maker.specs.Encoding.{word_of_inst}
use Rattle.load_maker.specs.Program.{program}

-- numbers of 2, 4 and 8 bytes, the least significant byte first
abbrev pub half : ℕ → List ℕ
half n = to_le_bytes w16 n

abbrev pub word : ℕ → List ℕ
word n = to_le_bytes w32 n

abbrev pub double : ℕ → List ℕ
double n = to_le_bytes w64 n

-- the file's header: 64-bit, little-endian, version 1; executable, for RISC-V, version 1; its
-- entry, the place of its program headers, no section headers, no flags; the sizes of a header, of
-- a program header and their number, the size of a section header, and no section
unfoldable pub file_header : List ℕ
file_header =
    (0x7f ∷ 0x45 ∷ 0x4c ∷ 0x46 ∷ 2 ∷ 1 ∷ 1 ∷ []) ++ replicate 9 0
    ++ half 2 ++ half 243 ++ word 1
    ++ double 0x10000 ++ double 64 ++ double 0 ++ word 0
    ++ half 64 ++ half 56 ++ half 2 ++ half 64 ++ half 0 ++ half 0

-- the header of a load: its flags, its place in the file, its address, how many bytes it has there
-- and in memory, and pages of 4,096 bytes
unfoldable pub load_header : ℕ → ℕ → ℕ → ℕ → ℕ → List ℕ
load_header flags place address filled size =
    word 1 ++ word flags
    ++ double place ++ double address ++ double address ++ double filled ++ double size
    ++ double 4096

-- the words of instructions
abbrev pub words_of : List Inst → List ℕ
words_of insts = flat_map (λ i. word (word_of_inst i)) insts

-- the file: 64 instructions at 0x10000, with read and exec, and 4,096 zero bytes at 0x20000, with
-- read and write; their headers stand behind the file's header, and the words behind these
unfoldable pub load_file : List ℕ
load_file =
    file_header
    ++ load_header 5 176 0x10000 256 256
    ++ load_header 6 432 0x20000 0 4096
    ++ words_of program
