-- The table by the fields of a word, for the steps of a decoder that looks at one field at a time.
use Rattle.std.specs.Prelude.{ℕ, ◌==◌, ◌≡◌, Bool, Option, find}
use Rattle.std.specs.Option.{option_map}
use Rattle.std.specs.List.{list_all}
use Rattle.guest_words.specs.Instructions.{bits, Named, opcode, f3, f5, f6, f7, rs2, whole, Row, table}
use Rattle.guest_words.specs.declared.format.Format.{Format}
use Rattle.guest_words.specs.declared.inst.Op.{Op}

-- the fields that rows name, of some word
pub record Fields : Type 0 where
  pub opcode : ℕ
  pub f3 : ℕ
  pub f5 : ℕ
  pub f6 : ℕ
  pub f7 : ℕ
  pub rs2 : ℕ
  pub whole : ℕ

-- the fields of a word
abbrev pub fields_of : ℕ → Fields
fields_of w = record {
  opcode = bits 6 0 w;
  f3 = bits 14 12 w;
  f5 = bits 31 27 w;
  f6 = bits 31 26 w;
  f7 = bits 31 25 w;
  rs2 = bits 24 20 w;
  whole = w;
}

-- a word with these fields has what a row names
abbrev pub shows : Fields → Named → Bool
shows w (opcode v) = w.opcode == v
shows w (f3 v) = w.f3 == v
shows w (f5 v) = w.f5 == v
shows w (f6 v) = w.f6 == v
shows w (f7 v) = w.f7 == v
shows w (rs2 v) = w.rs2 == v
shows w (whole v) = w.whole == v

-- the row that a word with these fields fits
unfoldable pub row_at : Fields → Option Row
row_at w = find (λ r. list_all (shows w) r.named) table

-- that row's instruction and format
abbrev pub form_of : Row → Op × Format
form_of r = (r.op, r.format)

-- an instruction in a format
abbrev pub in_format : Format → Op → Op × Format
in_format format op = (op, format)

-- a word with these fields fits the row of that instruction in that format, or no row
unfoldable pub FitsRow : Fields → Format → Option Op → Type 0
FitsRow w format found = option_map form_of (row_at w) ≡ option_map (in_format format) found
