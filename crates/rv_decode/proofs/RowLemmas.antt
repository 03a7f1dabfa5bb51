-- Lemmas on rows found by fields.
use Rattle.std.proofs.Common.{◌≡◌, ℕ, refl, subst, ap, ◌∙◌}
use Rattle.std.specs.Prelude.{Option, Some, None}
use Rattle.std.proofs.lemmas.Bool.{ne_eqb}
use Rattle.std.specs.Option.{option_map}
use Rattle.guest_words.specs.Instructions.{bits, Row, read, row_of, instruction_of}
use Rattle.guest_words.specs.declared.format.Format.{Format}
use Rattle.guest_words.specs.declared.inst.Op.{Op}
use Rattle.rv_decode.specs.Rows.{Fields, fields_of, row_at, form_of, in_format, FitsRow}

-- the fields of a word tell its row
pub row_of-fields : (w : ℕ) → row_of w ≡ row_at (fields_of w)
unfolding row_of row_at
row_of-fields w = refl

-- fields are equal where each of them is
fields-same : (v w : Fields)
    → v.opcode ≡ w.opcode
    → v.f3 ≡ w.f3
    → v.f5 ≡ w.f5
    → v.f6 ≡ w.f6
    → v.f7 ≡ w.f7
    → v.rs2 ≡ w.rs2
    → v.whole ≡ w.whole
    → v ≡ w
fields-same v w eopcode ef3 ef5 ef6 ef7 ers2 ewhole = λ i. record {
  opcode = eopcode i;
  f3 = ef3 i;
  f5 = ef5 i;
  f6 = ef6 i;
  f7 = ef7 i;
  rs2 = ers2 i;
  whole = ewhole i;
}

-- a row that is found by some fields is the row of the word that has them
pub FitsRow-word : (v : Fields) (w : ℕ) (format : Format) (op : Option Op)
    → v.opcode ≡ (fields_of w).opcode
    → v.f3 ≡ (fields_of w).f3
    → v.f5 ≡ (fields_of w).f5
    → v.f6 ≡ (fields_of w).f6
    → v.f7 ≡ (fields_of w).f7
    → v.rs2 ≡ (fields_of w).rs2
    → v.whole ≡ (fields_of w).whole
    → FitsRow v format op → FitsRow (fields_of w) format op
FitsRow-word v w format op eopcode ef3 ef5 ef6 ef7 ers2 ewhole fit =
    subst (λ (u : Fields). FitsRow u format op) (fields-same v (fields_of w) eopcode ef3 ef5 ef6 ef7 ers2 ewhole) fit

-- a row is read in its format
read-form : (w : ℕ) (format : Format) (row : Option Row) (op : Option Op)
    → option_map form_of row ≡ option_map (in_format format) op
    → option_map (λ r. read r.format r.op w) row ≡ option_map (λ o. read format o w) op
read-form w format None None e = refl
read-form w format None (Some o) e = cc
read-form w format (Some r) None e = cc
read-form w format (Some r) (Some o) e =
    let form : form_of r ≡ (o, format) = cc in
    let same : r.format ≡ format = ap (λ (p : Op × Format). p.1) form in
    let op_same : r.op ≡ o = ap (λ (p : Op × Format). p.0) form in
    cc

-- the instruction of a word whose row was found
instruction_of-found : (w : ℕ) (format : Format) (found : Option Op)
    → FitsRow (fields_of w) format found
    → instruction_of w ≡ option_map (λ o. read format o w) found
unfolding FitsRow instruction_of
instruction_of-found w format found fit =
    read-form w format (row_of w) found (rw row_of-fields fit)

pub instruction_of-some : (w : ℕ) (format : Format) (found : Option Op) (op : Op)
    → FitsRow (fields_of w) format found → found ≡ Some op
    → instruction_of w ≡ Some (read format op w)
instruction_of-some w format found op fit is =
    instruction_of-found w format found fit ∙ ap (option_map (λ o. read format o w)) is

pub instruction_of-none : (w : ℕ) (format : Format) (found : Option Op)
    → FitsRow (fields_of w) format found → found ≡ None → instruction_of w ≡ None
instruction_of-none w format found fit is =
    instruction_of-found w format found fit ∙ ap (option_map (λ o. read format o w)) is

-- no row has another opcode
row_at-other : (w : Fields)
    → (w.opcode ≡ 0x37 → ⊥)
    → (w.opcode ≡ 0x17 → ⊥)
    → (w.opcode ≡ 0x6f → ⊥)
    → (w.opcode ≡ 0x67 → ⊥)
    → (w.opcode ≡ 0x63 → ⊥)
    → (w.opcode ≡ 0x03 → ⊥)
    → (w.opcode ≡ 0x23 → ⊥)
    → (w.opcode ≡ 0x13 → ⊥)
    → (w.opcode ≡ 0x1b → ⊥)
    → (w.opcode ≡ 0x33 → ⊥)
    → (w.opcode ≡ 0x3b → ⊥)
    → (w.opcode ≡ 0x0f → ⊥)
    → (w.opcode ≡ 0x73 → ⊥)
    → (w.opcode ≡ 0x2f → ⊥)
    → row_at w ≡ None
unfolding row_at
row_at-other w n37 n17 n6f n67 n63 n03 n23 n13 n1b n33 n3b n0f n73 n2f =
    simp (
      ne_eqb w.opcode 0x37 n37,
      ne_eqb w.opcode 0x17 n17,
      ne_eqb w.opcode 0x6f n6f,
      ne_eqb w.opcode 0x67 n67,
      ne_eqb w.opcode 0x63 n63,
      ne_eqb w.opcode 0x03 n03,
      ne_eqb w.opcode 0x23 n23,
      ne_eqb w.opcode 0x13 n13,
      ne_eqb w.opcode 0x1b n1b,
      ne_eqb w.opcode 0x33 n33,
      ne_eqb w.opcode 0x3b n3b,
      ne_eqb w.opcode 0x0f n0f,
      ne_eqb w.opcode 0x73 n73,
      ne_eqb w.opcode 0x2f n2f,
    )

-- a word of another opcode is no instruction
pub instruction_of-other : (w : ℕ)
    → (bits 6 0 w ≡ 0x37 → ⊥)
    → (bits 6 0 w ≡ 0x17 → ⊥)
    → (bits 6 0 w ≡ 0x6f → ⊥)
    → (bits 6 0 w ≡ 0x67 → ⊥)
    → (bits 6 0 w ≡ 0x63 → ⊥)
    → (bits 6 0 w ≡ 0x03 → ⊥)
    → (bits 6 0 w ≡ 0x23 → ⊥)
    → (bits 6 0 w ≡ 0x13 → ⊥)
    → (bits 6 0 w ≡ 0x1b → ⊥)
    → (bits 6 0 w ≡ 0x33 → ⊥)
    → (bits 6 0 w ≡ 0x3b → ⊥)
    → (bits 6 0 w ≡ 0x0f → ⊥)
    → (bits 6 0 w ≡ 0x73 → ⊥)
    → (bits 6 0 w ≡ 0x2f → ⊥)
    → instruction_of w ≡ None
unfolding instruction_of
instruction_of-other w n37 n17 n6f n67 n63 n03 n23 n13 n1b n33 n3b n0f n73 n2f =
    rw (row_of-fields, row_at-other (fields_of w) n37 n17 n6f n67 n63 n03 n23 n13 n1b n33 n3b n0f n73 n2f)
