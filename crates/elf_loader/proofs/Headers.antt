-- What a program header that was read describes.
use Rattle.std.proofs.Common.{◌≡◌, ℕ, List, take, drop}
use Rattle.guest_words.specs.Image.{load_at}
use Rattle.elf_loader.specs.declared.program_header.ProgramHeader.{ProgramHeader}
use Rattle.elf_loader.specs.ProgramHeader.{StandsAt, load_from}

-- it is the load of its place
pub load_from_at : (file : List ℕ) (place : ℕ) (header : ProgramHeader) → StandsAt file place header → load_from file header ≡ load_at file place
load_from_at file place header at =
    λ i. record { address = at.address i; size = at.size i; bytes = take (at.file_size i) (drop (at.offset i) file); rights = at.rights i }
