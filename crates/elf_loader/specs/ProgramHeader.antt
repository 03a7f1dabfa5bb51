-- Program headers as they are read. System V gABI, 'Program Header'.
use Rattle.std.specs.Prelude.{◌≡◌, ℕ, List, take, drop}
use Rattle.guest_words.specs.declared.image.Load.{Load}
use Rattle.guest_words.specs.ElfFields.{p_type, p_flags, p_offset, p_vaddr, p_filesz, p_memsz}
use Rattle.guest_words.specs.Image.{rights_of}
use Rattle.elf_loader.specs.declared.program_header.ProgramHeader.{ProgramHeader}

-- a header has the fields that stand at a place of the file
pub record StandsAt (file : List ℕ) (place : ℕ) (header : ProgramHeader) : Type 0 where
  pub kind : header.kind ≡ p_type file place
  pub rights : header.rights ≡ rights_of (p_flags file place)
  pub offset : header.offset ≡ p_offset file place
  pub address : header.address ≡ p_vaddr file place
  pub file_size : header.file_size ≡ p_filesz file place
  pub size : header.size ≡ p_memsz file place

-- the load that a header describes, with its bytes of the file
abbrev pub load_from : List ℕ → ProgramHeader → Load
load_from file header = record {
  address = header.address;
  size = header.size;
  bytes = take header.file_size (drop header.offset file);
  rights = header.rights;
}
