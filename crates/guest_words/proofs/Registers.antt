-- A decoded instruction names registers among the 32.
use Rattle.std.proofs.Common.{◌≡◌, ℕ, ◌<◌, subst, arith}
use Rattle.std.specs.Prelude.{Option, Some, None}
use Rattle.std.specs.Option.{option_map}
use Rattle.guest_words.specs.Instructions.{Row, read, rd_of, rs1_of, rs2_of, row_of, instruction_of, NamesRegisters}
use Rattle.guest_words.specs.declared.format.Format.{Format}
use Rattle.guest_words.specs.declared.format.Format.TheVariants.{Upper, Jump, Branch, Store, Register, Bare}
use Rattle.guest_words.specs.declared.inst.Inst.{Inst}
use Rattle.guest_words.specs.declared.inst.Op.{Op}

rd_of-lt : (format : Format) (w : ℕ) → rd_of format w < 32
rd_of-lt Branch w = omega arith
rd_of-lt Store w = omega arith
rd_of-lt Bare w = omega arith
rd_of-lt _ w = omega arith

rs1_of-lt : (format : Format) (w : ℕ) → rs1_of format w < 32
rs1_of-lt Upper w = omega arith
rs1_of-lt Jump w = omega arith
rs1_of-lt Bare w = omega arith
rs1_of-lt _ w = omega arith

rs2_of-lt : (format : Format) (w : ℕ) → rs2_of format w < 32
rs2_of-lt Register w = omega arith
rs2_of-lt Store w = omega arith
rs2_of-lt Branch w = omega arith
rs2_of-lt _ w = omega arith

pub NamesRegisters-read : (format : Format) (op : Op) (w : ℕ) → NamesRegisters (read format op w)
NamesRegisters-read format op w = record {
  rd = rd_of-lt format w;
  rs1 = rs1_of-lt format w;
  rs2 = rs2_of-lt format w;
}

names-found : (w : ℕ) (found : Option Row) (inst : Inst)
    → option_map (λ r. read r.format r.op w) found ≡ Some inst → NamesRegisters inst
names-found w None inst e = absurd (cc)
names-found w (Some r) inst e =
    let same : read r.format r.op w ≡ inst = cc in
    subst NamesRegisters same (NamesRegisters-read r.format r.op w)

-- a word's instruction names registers
pub NamesRegisters-instruction_of : (w : ℕ) (inst : Inst)
    → instruction_of w ≡ Some inst → NamesRegisters inst
unfolding instruction_of
NamesRegisters-instruction_of w inst e = names-found w (row_of w) inst e
