-- The load's files are accepted, by computing.
use Rattle.std.proofs.Common.{◌≡◌, ℕ, List, [], ◌∷◌, refl, None}
use Rattle.std.specs.Prelude.{Ok}
use Rattle.std.specs.Str.{is_utf8, chars}
use Rattle.guest_words.specs.ElfFields.{number, e_entry}
use Rattle.guest_words.specs.Image.{loads_before, loads_of, page_count, table_rules, first_fault}
use Rattle.elf_symbols.specs.SymbolTable.{first_symbol_fault, symbols_of}
use Rattle.rescue_config.specs.Document.{points_rules, points_in, points_of}
use Rattle.rescue_config.specs.PointRules.{point_rules}
use Rattle.toml.proofs.OnLiterals.{toml_on_literals}
use Rattle.load_maker.specs.Accepted.{code_load, data_load, code_span, load_point, AreAccepted}
use Rattle.load_maker.specs.Encoding.{word_of_inst}
use Rattle.load_maker.specs.File.{file_header, load_header, load_file}
use Rattle.load_maker.specs.Program.{program, points_file}

kept : first_fault load_file ≡ None
unfolding first_fault table_rules loads_before page_count number load_file file_header load_header program word_of_inst
kept = refl

entry : e_entry load_file ≡ 0x10000
unfolding number load_file file_header
entry = refl

loads : loads_of load_file ≡ code_load ∷ data_load ∷ []
unfolding number load_file file_header load_header program word_of_inst loads_before
loads = refl

symbols_kept : first_symbol_fault load_file ≡ None
unfolding first_symbol_fault number load_file file_header
symbols_kept = refl

symbols : symbols_of load_file ≡ []
unfolding symbols_of number load_file file_header
symbols = refl

point : points_of points_file [] (code_span ∷ []) ≡ Ok (load_point ∷ [])
unfolding points_file is_utf8 chars toml_on_literals points_of points_rules points_in point_rules
point = refl

load_is_accepted : AreAccepted load_file points_file
load_is_accepted = record {
  kept = kept;
  loads = loads;
  entry = entry;
  symbols_kept = symbols_kept;
  symbols = symbols;
  point = point;
}

-- files that are the load's
pub AreAccepted-load : (elf points : List ℕ) → elf ≡ load_file → points ≡ points_file → AreAccepted elf points
AreAccepted-load elf points is_elf is_points = rw (is_elf, is_points) load_is_accepted
