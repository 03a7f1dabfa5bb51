-- What the load's files give where they are read as any others.
use Rattle.std.specs.Prelude.{◌≡◌, ℕ, true, false, List, [], ◌∷◌, None, Ok, replicate}
use Rattle.guest_words.specs.declared.image.Load.{Load}
use Rattle.guest_words.specs.declared.image.Span.{Span}
use Rattle.guest_words.specs.declared.point.Kind.TheVariants.{Blocking}
use Rattle.guest_words.specs.declared.point.Point.{Point}
use Rattle.guest_words.specs.declared.point.Ret.TheVariants.{Code}
use Rattle.guest_words.specs.ElfFields.{e_entry}
use Rattle.guest_words.specs.Image.{first_fault, loads_of}
use Rattle.guest_words.specs.Word.{word_of}
use Rattle.elf_symbols.specs.SymbolTable.{first_symbol_fault, symbols_of}
use Rattle.rescue_config.specs.Document.{points_of}
use Rattle.load_maker.specs.File.{words_of}
use Rattle.load_maker.specs.Program.{neg, program}

-- the instructions, with read and exec
abbrev pub code_load : Load
code_load = record {
  address = 0x10000;
  size = 256;
  bytes = words_of program;
  rights = record { read = true; write = false; exec = true };
}

-- a page of zeros, with read and write
abbrev pub data_load : Load
data_load = record {
  address = 0x20000;
  size = 4096;
  bytes = [];
  rights = record { read = true; write = true; exec = false };
}

-- where the instructions stand
abbrev pub code_span : Span
code_span = record { from = 0x10000; size = 256 }

-- the point: a call that meets a fault, whichever it is, answers -1, as often as one does
abbrev pub load_point : Point
load_point = record {
  entry = 0x100d8;
  codes = replicate 8 (Code (word_of (neg 1)));
  kind = Blocking;
  left = None;
}

-- a program and a rescue file that break no rule, and give these loads and this point
pub record AreAccepted (elf points : List ℕ) : Type 0 where
  pub kept : first_fault elf ≡ None
  pub loads : loads_of elf ≡ code_load ∷ data_load ∷ []
  pub entry : e_entry elf ≡ 0x10000
  pub symbols_kept : first_symbol_fault elf ≡ None
  pub symbols : symbols_of elf ≡ []
  pub point : points_of points [] (code_span ∷ []) ≡ Ok (load_point ∷ [])
