-- Each row of the table: the word that is made of an instruction in its format.
use Rattle.std.proofs.Common.{◌≡◌, ℕ, ◌+◌, ◌*◌, ◌%◌, ◌^◌, ◌<◌, ◌≤◌, List, [], ◌∷◌, refl, ap, sym, subst, ◌∙◌, arith, w32, pos}
use Rattle.std.proofs.lemmas.Bool.Decides.{nat_tests}
use Rattle.std.proofs.lemmas.Int.{ints}
use Rattle.std.specs.Prelude.{Bool, true, false, ◌==◌, ◌&&◌}
use Rattle.std.specs.Int.{cast_unsigned}
use Rattle.std.specs.List.{list_all}
use Rattle.guest_words.specs.Word.{sign_extended}
use Rattle.guest_words.specs.Instructions.{bits, immediate_of, rd_of, rs1_of, rs2_of, read, Named, opcode, f3, f5, f6, f7, rs2, whole, has, Row, row, fits, table}
use Rattle.guest_words.specs.declared.format.Format.{Format}
use Rattle.guest_words.specs.declared.format.Format.TheVariants.{Upper, Jump, Immediate, Branch, Store, Shift, WordShift, Register, Bare}
use Rattle.guest_words.specs.declared.inst.Op.{Op}
use Rattle.guest_words.specs.declared.inst.Op.TheVariants.{Lui, Auipc, Jal, Jalr, Beq, Bne, Blt, Bge, Bltu, Bgeu, Lb, Lh, Lw, Ld, Lbu, Lhu, Lwu, Sb, Sh, Sw, Sd, Addi, Slti, Sltiu, Xori, Ori, Andi, Slli, Srli, Srai, Addiw, Slliw, Srliw, Sraiw, Add, Sll, Slt, Sltu, Xor, Srl, Or, And, Sub, Sra, Mul, Mulh, Mulhsu, Mulhu, Div, Divu, Rem, Remu, Addw, Sllw, Srlw, Subw, Sraw, Mulw, Divw, Divuw, Remw, Remuw, Fence, Ecall, Ebreak, LrW, ScW, AmoswapW, AmoaddW, AmoxorW, AmoandW, AmoorW, AmominW, AmomaxW, AmominuW, AmomaxuW, LrD, ScD, AmoswapD, AmoaddD, AmoxorD, AmoandD, AmoorD, AmominD, AmomaxD, AmominuD, AmomaxuD}
use Rattle.load_maker.specs.Encoding.{fields_at, form_of}
use Rattle.load_maker.proofs.Placed.{low_12, low_13, low_21, low_32}

-- a word fits the row and is read as another word is, and isn't greater
pub record Makes (r : Row) (w e : ℕ) : Type 0 where
  pub fit : fits e r ≡ true
  pub same : read r.format r.op e ≡ read r.format r.op w
  pub least : e ≤ w

-- the word that is made of what a word is in a row
abbrev pub made : Row → ℕ → ℕ
made r w = (form_of r.op).1 + fields_at (form_of r.op).0 (read r.format r.op w)

abbrev pub IsMade : Row → Type 0
IsMade r = (w : ℕ) → fits w r ≡ true → Makes r w (made r w)

-- ---- words of 32 bits

abbrev is_field : Named → Bool
is_field (whole v) = false
is_field _ = true

has-low : (w : ℕ) (n : Named) → is_field n ≡ true → has (w % 4294967296) n ≡ has w n
has-low w (opcode v) e = ap (λ m. m == v) (omega arith)
has-low w (f3 v) e = ap (λ m. m == v) (omega arith)
has-low w (f5 v) e = ap (λ m. m == v) (omega arith)
has-low w (f6 v) e = ap (λ m. m == v) (omega arith)
has-low w (f7 v) e = ap (λ m. m == v) (omega arith)
has-low w (rs2 v) e = ap (λ m. m == v) (omega arith)
has-low w (whole v) e = absurd (cc)

both : (a b : Bool) → (a && b) ≡ true → (a ≡ true) × (b ≡ true)
both true b e = (refl, e)
both false b e = absurd (cc)

all-low : (w : ℕ) (ns : List Named) → list_all is_field ns ≡ true → list_all (has (w % 4294967296)) ns ≡ list_all (has w) ns
all-low w [] e = refl
all-low w (n ∷ ns) e =
    let here = both (is_field n) (list_all is_field ns) e in
    rw (has-low w n here.0) (ap (λ b. has w n && b) (all-low w ns here.1))

rd-low : (format : Format) (w : ℕ) → rd_of format (w % 4294967296) ≡ rd_of format w
rd-low Store w = refl
rd-low Branch w = refl
rd-low Bare w = refl
rd-low _ w = omega arith

rs1-low : (format : Format) (w : ℕ) → rs1_of format (w % 4294967296) ≡ rs1_of format w
rs1-low Upper w = refl
rs1-low Jump w = refl
rs1-low Bare w = refl
rs1-low _ w = omega arith

rs2-low : (format : Format) (w : ℕ) → rs2_of format (w % 4294967296) ≡ rs2_of format w
rs2-low Register w = omega arith
rs2-low Store w = omega arith
rs2-low Branch w = omega arith
rs2-low _ w = refl

immediate-low : (format : Format) (w : ℕ) → immediate_of format (w % 4294967296) ≡ immediate_of format w
immediate-low Immediate w = ap (sign_extended 12) (omega arith)
immediate-low Store w = ap (sign_extended 12) (omega arith)
immediate-low Branch w = ap (sign_extended 13) (omega arith)
immediate-low Upper w = ap (sign_extended 32) (omega arith)
immediate-low Jump w = ap (sign_extended 21) (omega arith)
immediate-low Shift w = ap pos (omega arith)
immediate-low WordShift w = ap pos (omega arith)
immediate-low Register w = refl
immediate-low Bare w = refl

read-low : (format : Format) (op : Op) (w : ℕ) → read format op (w % 4294967296) ≡ read format op w
read-low format op w = λ i. record {
  op = op;
  rd = rd-low format w i;
  rs1 = rs1-low format w i;
  rs2 = rs2-low format w i;
  imm = immediate-low format w i;
}

-- the same word but for what is past 32 bits
low : (r : Row) (w e : ℕ) → list_all is_field r.named ≡ true → fits w r ≡ true → e ≡ w % 4294967296 → Makes r w e
low r w e fields fit is =
    subst (λ (n : ℕ). Makes r w n) (sym is)
    (record { fit = all-low w r.named fields ∙ fit; same = read-low r.format r.op w; least = omega arith })

eq-of : (m v : ℕ) → (m == v) ≡ true → m ≡ v
eq-of m v e = grind (arith, nat_tests)

-- ---- each format

upper : (op : Op) (o : ℕ) → form_of op ≡ (Upper, o) → IsMade (row op Upper (opcode o ∷ []))
upper op o form w fit =
    let named = both (bits 6 0 w == o) true fit in
    let here : bits 6 0 w ≡ o = eq-of _ _ named.0 in
    let imm = low_32 (bits 31 12 w * 4096) (omega arith) in
    let laid : o + fields_at Upper (read Upper op w) ≡ w % 4294967296 = omega (arith, here, imm) in
    low (row op Upper (opcode o ∷ [])) w _ refl fit (ap (λ (f : Format × ℕ). f.1 + fields_at f.0 (read Upper op w)) form ∙ laid)

jump : (op : Op) (o : ℕ) → form_of op ≡ (Jump, o) → IsMade (row op Jump (opcode o ∷ []))
jump op o form w fit =
    let named = both (bits 6 0 w == o) true fit in
    let here : bits 6 0 w ≡ o = eq-of _ _ named.0 in
    let imm = low_21 (bits 31 31 w * 2 ^ 20 + bits 19 12 w * 2 ^ 12 + bits 20 20 w * 2 ^ 11 + bits 30 21 w * 2) (omega arith) in
    let laid : o + fields_at Jump (read Jump op w) ≡ w % 4294967296 = omega (arith, here, imm) in
    low (row op Jump (opcode o ∷ [])) w _ refl fit (ap (λ (f : Format × ℕ). f.1 + fields_at f.0 (read Jump op w)) form ∙ laid)

immediate : (op : Op) (o a : ℕ) → form_of op ≡ (Immediate, o + a * 4096) → IsMade (row op Immediate (opcode o ∷ f3 a ∷ []))
immediate op o a form w fit =
    let named = both (bits 6 0 w == o) ((bits 14 12 w == a) && true) fit in
    let more = both (bits 14 12 w == a) true named.1 in
    let here : bits 6 0 w ≡ o = eq-of _ _ named.0 in
    let there : bits 14 12 w ≡ a = eq-of _ _ more.0 in
    let imm = low_12 (bits 31 20 w) (omega arith) in
    let laid : o + a * 4096 + fields_at Immediate (read Immediate op w) ≡ w % 4294967296 = omega (arith, here, there, imm) in
    low (row op Immediate (opcode o ∷ f3 a ∷ [])) w _ refl fit (ap (λ (f : Format × ℕ). f.1 + fields_at f.0 (read Immediate op w)) form ∙ laid)

branch : (op : Op) (o a : ℕ) → form_of op ≡ (Branch, o + a * 4096) → IsMade (row op Branch (opcode o ∷ f3 a ∷ []))
branch op o a form w fit =
    let named = both (bits 6 0 w == o) ((bits 14 12 w == a) && true) fit in
    let more = both (bits 14 12 w == a) true named.1 in
    let here : bits 6 0 w ≡ o = eq-of _ _ named.0 in
    let there : bits 14 12 w ≡ a = eq-of _ _ more.0 in
    let imm = low_13 (bits 31 31 w * 2 ^ 12 + bits 7 7 w * 2 ^ 11 + bits 30 25 w * 2 ^ 5 + bits 11 8 w * 2) (omega arith) in
    let laid : o + a * 4096 + fields_at Branch (read Branch op w) ≡ w % 4294967296 = omega (arith, here, there, imm) in
    low (row op Branch (opcode o ∷ f3 a ∷ [])) w _ refl fit (ap (λ (f : Format × ℕ). f.1 + fields_at f.0 (read Branch op w)) form ∙ laid)

store : (op : Op) (o a : ℕ) → form_of op ≡ (Store, o + a * 4096) → IsMade (row op Store (opcode o ∷ f3 a ∷ []))
store op o a form w fit =
    let named = both (bits 6 0 w == o) ((bits 14 12 w == a) && true) fit in
    let more = both (bits 14 12 w == a) true named.1 in
    let here : bits 6 0 w ≡ o = eq-of _ _ named.0 in
    let there : bits 14 12 w ≡ a = eq-of _ _ more.0 in
    let imm = low_12 (bits 31 25 w * 2 ^ 5 + bits 11 7 w) (omega arith) in
    let laid : o + a * 4096 + fields_at Store (read Store op w) ≡ w % 4294967296 = omega (arith, here, there, imm) in
    low (row op Store (opcode o ∷ f3 a ∷ [])) w _ refl fit (ap (λ (f : Format × ℕ). f.1 + fields_at f.0 (read Store op w)) form ∙ laid)

small : (n : ℕ) → n < 64 → cast_unsigned w32 (pos n) ≡ n
small n below = grind (arith, ints)

shift : (op : Op) (o a b : ℕ) → form_of op ≡ (Shift, o + a * 4096 + b * 67108864) → IsMade (row op Shift (opcode o ∷ f3 a ∷ f6 b ∷ []))
shift op o a b form w fit =
    let named = both (bits 6 0 w == o) ((bits 14 12 w == a) && ((bits 31 26 w == b) && true)) fit in
    let more = both (bits 14 12 w == a) ((bits 31 26 w == b) && true) named.1 in
    let last = both (bits 31 26 w == b) true more.1 in
    let here : bits 6 0 w ≡ o = eq-of _ _ named.0 in
    let there : bits 14 12 w ≡ a = eq-of _ _ more.0 in
    let above : bits 31 26 w ≡ b = eq-of _ _ last.0 in
    let imm : cast_unsigned w32 (pos (bits 25 20 w)) ≡ bits 25 20 w = small (bits 25 20 w) (omega arith) in
    let laid : o + a * 4096 + b * 67108864 + fields_at Shift (read Shift op w) ≡ w % 4294967296 = omega (arith, imm, here, there, above) in
    low (row op Shift (opcode o ∷ f3 a ∷ f6 b ∷ [])) w _ refl fit (ap (λ (f : Format × ℕ). f.1 + fields_at f.0 (read Shift op w)) form ∙ laid)

word_shift : (op : Op) (o a b : ℕ) → form_of op ≡ (WordShift, o + a * 4096 + b * 33554432) → IsMade (row op WordShift (opcode o ∷ f3 a ∷ f7 b ∷ []))
word_shift op o a b form w fit =
    let named = both (bits 6 0 w == o) ((bits 14 12 w == a) && ((bits 31 25 w == b) && true)) fit in
    let more = both (bits 14 12 w == a) ((bits 31 25 w == b) && true) named.1 in
    let last = both (bits 31 25 w == b) true more.1 in
    let here : bits 6 0 w ≡ o = eq-of _ _ named.0 in
    let there : bits 14 12 w ≡ a = eq-of _ _ more.0 in
    let above : bits 31 25 w ≡ b = eq-of _ _ last.0 in
    let imm : cast_unsigned w32 (pos (bits 24 20 w)) ≡ bits 24 20 w = small (bits 24 20 w) (omega arith) in
    let laid : o + a * 4096 + b * 33554432 + fields_at WordShift (read WordShift op w) ≡ w % 4294967296 = omega (arith, imm, here, there, above) in
    low (row op WordShift (opcode o ∷ f3 a ∷ f7 b ∷ [])) w _ refl fit (ap (λ (f : Format × ℕ). f.1 + fields_at f.0 (read WordShift op w)) form ∙ laid)

register : (op : Op) (o a b : ℕ) → form_of op ≡ (Register, o + a * 4096 + b * 33554432) → IsMade (row op Register (opcode o ∷ f3 a ∷ f7 b ∷ []))
register op o a b form w fit =
    let named = both (bits 6 0 w == o) ((bits 14 12 w == a) && ((bits 31 25 w == b) && true)) fit in
    let more = both (bits 14 12 w == a) ((bits 31 25 w == b) && true) named.1 in
    let last = both (bits 31 25 w == b) true more.1 in
    let here : bits 6 0 w ≡ o = eq-of _ _ named.0 in
    let there : bits 14 12 w ≡ a = eq-of _ _ more.0 in
    let above : bits 31 25 w ≡ b = eq-of _ _ last.0 in
    let laid : o + a * 4096 + b * 33554432 + fields_at Register (read Register op w) ≡ w % 4294967296 = omega (arith, here, there, above) in
    low (row op Register (opcode o ∷ f3 a ∷ f7 b ∷ [])) w _ refl fit (ap (λ (f : Format × ℕ). f.1 + fields_at f.0 (read Register op w)) form ∙ laid)

-- ---- the atomic rows, whose bits 26 and 25 are free

pub record Cut (w e : ℕ) : Type 0 where
  pub opcode_same : bits 6 0 e ≡ bits 6 0 w
  pub rd_same : bits 11 7 e ≡ bits 11 7 w
  pub f3_same : bits 14 12 e ≡ bits 14 12 w
  pub rs1_same : bits 19 15 e ≡ bits 19 15 w
  pub rs2_same : bits 24 20 e ≡ bits 24 20 w
  pub f5_same : bits 31 27 e ≡ bits 31 27 w
  pub least : e ≤ w

cut : (w e : ℕ) → e + bits 26 25 w * 33554432 ≡ w % 4294967296 → Cut w e
cut w e is = record {
  opcode_same = omega (arith, is);
  rd_same = omega (arith, is);
  f3_same = omega (arith, is);
  rs1_same = omega (arith, is);
  rs2_same = omega (arith, is);
  f5_same = omega (arith, is);
  least = omega (arith, is);
}

read-cut : (op : Op) (w e : ℕ) → Cut w e → read Register op e ≡ read Register op w
read-cut op w e c = λ i. record {
  op = op;
  rd = c.rd_same i;
  rs1 = c.rs1_same i;
  rs2 = c.rs2_same i;
  imm = pos 0;
}

atomic : (op : Op) (o a b : ℕ) → form_of op ≡ (Register, o + a * 4096 + b * 134217728) → IsMade (row op Register (opcode o ∷ f3 a ∷ f5 b ∷ []))
atomic op o a b form w fit =
    let named = both (bits 6 0 w == o) ((bits 14 12 w == a) && ((bits 31 27 w == b) && true)) fit in
    let more = both (bits 14 12 w == a) ((bits 31 27 w == b) && true) named.1 in
    let last = both (bits 31 27 w == b) true more.1 in
    let here : bits 6 0 w ≡ o = eq-of _ _ named.0 in
    let there : bits 14 12 w ≡ a = eq-of _ _ more.0 in
    let above : bits 31 27 w ≡ b = eq-of _ _ last.0 in
    let r = row op Register (opcode o ∷ f3 a ∷ f5 b ∷ []) in
    let is : made r w ≡ o + a * 4096 + b * 134217728 + fields_at Register (read Register op w) = ap (λ (f : Format × ℕ). f.1 + fields_at f.0 (read Register op w)) form in
    let laid : o + a * 4096 + b * 134217728 + fields_at Register (read Register op w) + bits 26 25 w * 33554432 ≡ w % 4294967296 = omega (arith, here, there, above) in
    let c = cut w (made r w) (ap (λ n. n + bits 26 25 w * 33554432) is ∙ laid) in
    record {
      fit = rw (c.opcode_same, c.f3_same, c.f5_same) fit;
      same = read-cut op w (made r w) c;
      least = c.least;
    }

reserve : (op : Op) (o a b : ℕ) → form_of op ≡ (Register, o + a * 4096 + b * 134217728) → IsMade (row op Register (opcode o ∷ f3 a ∷ f5 b ∷ rs2 0 ∷ []))
reserve op o a b form w fit =
    let named = both (bits 6 0 w == o) ((bits 14 12 w == a) && ((bits 31 27 w == b) && ((bits 24 20 w == 0) && true))) fit in
    let more = both (bits 14 12 w == a) ((bits 31 27 w == b) && ((bits 24 20 w == 0) && true)) named.1 in
    let last = both (bits 31 27 w == b) ((bits 24 20 w == 0) && true) more.1 in
    let here : bits 6 0 w ≡ o = eq-of _ _ named.0 in
    let there : bits 14 12 w ≡ a = eq-of _ _ more.0 in
    let above : bits 31 27 w ≡ b = eq-of _ _ last.0 in
    let r = row op Register (opcode o ∷ f3 a ∷ f5 b ∷ rs2 0 ∷ []) in
    let is : made r w ≡ o + a * 4096 + b * 134217728 + fields_at Register (read Register op w) = ap (λ (f : Format × ℕ). f.1 + fields_at f.0 (read Register op w)) form in
    let laid : o + a * 4096 + b * 134217728 + fields_at Register (read Register op w) + bits 26 25 w * 33554432 ≡ w % 4294967296 = omega (arith, here, there, above) in
    let c = cut w (made r w) (ap (λ n. n + bits 26 25 w * 33554432) is ∙ laid) in
    record {
      fit = rw (c.opcode_same, c.f3_same, c.f5_same, c.rs2_same) fit;
      same = read-cut op w (made r w) c;
      least = c.least;
    }

-- ---- the rows with no field

fence : IsMade (row Fence Bare (opcode 0x0f ∷ f3 0 ∷ []))
fence w fit =
    let named = both (bits 6 0 w == 0x0f) ((bits 14 12 w == 0) && true) fit in
    let here : bits 6 0 w ≡ 0x0f = eq-of _ _ named.0 in
    record { fit = refl; same = refl; least = omega (arith, here) }

ecall : IsMade (row Ecall Bare (opcode 0x73 ∷ whole 0x00000073 ∷ []))
ecall w fit =
    let named = both (bits 6 0 w == 0x73) ((w == 0x00000073) && true) fit in
    let here : w ≡ 0x00000073 = eq-of _ _ (both (w == 0x00000073) true named.1).0 in
    record { fit = refl; same = refl; least = omega (arith, here) }

ebreak : IsMade (row Ebreak Bare (opcode 0x73 ∷ whole 0x00100073 ∷ []))
ebreak w fit =
    let named = both (bits 6 0 w == 0x73) ((w == 0x00100073) && true) fit in
    let here : w ≡ 0x00100073 = eq-of _ _ (both (w == 0x00100073) true named.1).0 in
    record { fit = refl; same = refl; least = omega (arith, here) }

-- ---- the table

abbrev pub EachIsMade : List Row → Type 0
EachIsMade [] = Unit {0}
EachIsMade (r ∷ rs) = IsMade r × EachIsMade rs

pub table-made : EachIsMade table
table-made = (
  upper Lui 0x37 refl,
  (
    upper Auipc 0x17 refl,
    (
      jump Jal 0x6f refl,
      (
        immediate Jalr 0x67 0 refl,
        (
          branch Beq 0x63 0 refl,
          (
            branch Bne 0x63 1 refl,
            (
              branch Blt 0x63 4 refl,
              (
                branch Bge 0x63 5 refl,
                (
                  branch Bltu 0x63 6 refl,
                  (
                    branch Bgeu 0x63 7 refl,
                    (
                      immediate Lb 0x03 0 refl,
                      (
                        immediate Lh 0x03 1 refl,
                        (
                          immediate Lw 0x03 2 refl,
                          (
                            immediate Ld 0x03 3 refl,
                            (
                              immediate Lbu 0x03 4 refl,
                              (
                                immediate Lhu 0x03 5 refl,
                                (
                                  immediate Lwu 0x03 6 refl,
                                  (
                                    store Sb 0x23 0 refl,
                                    (
                                      store Sh 0x23 1 refl,
                                      (
                                        store Sw 0x23 2 refl,
                                        (
                                          store Sd 0x23 3 refl,
                                          (
                                            immediate Addi 0x13 0 refl,
                                            (
                                              immediate Slti 0x13 2 refl,
                                              (
                                                immediate Sltiu 0x13 3 refl,
                                                (
                                                  immediate Xori 0x13 4 refl,
                                                  (
                                                    immediate Ori 0x13 6 refl,
                                                    (
                                                      immediate Andi 0x13 7 refl,
                                                      (
                                                        shift Slli 0x13 1 0x00 refl,
                                                        (
                                                          shift Srli 0x13 5 0x00 refl,
                                                          (
                                                            shift Srai 0x13 5 0x10 refl,
                                                            (
                                                              immediate Addiw 0x1b 0 refl,
                                                              (
                                                                word_shift Slliw 0x1b 1 0x00 refl,
                                                                (
                                                                  word_shift Srliw 0x1b 5 0x00 refl,
                                                                  (
                                                                    word_shift Sraiw 0x1b 5 0x20 refl,
                                                                    (
                                                                      register Add 0x33 0 0x00 refl,
                                                                      (
                                                                        register Sll 0x33 1 0x00 refl,
                                                                        (
                                                                          register Slt 0x33 2 0x00 refl,
                                                                          (
                                                                            register Sltu 0x33 3 0x00 refl,
                                                                            (
                                                                              register Xor 0x33 4 0x00 refl,
                                                                              (
                                                                                register Srl 0x33 5 0x00 refl,
                                                                                (
                                                                                  register Or 0x33 6 0x00 refl,
                                                                                  (
                                                                                    register And 0x33 7 0x00 refl,
                                                                                    (
                                                                                      register Sub 0x33 0 0x20 refl,
                                                                                      (
                                                                                        register Sra 0x33 5 0x20 refl,
                                                                                        (
                                                                                          register Mul 0x33 0 0x01 refl,
                                                                                          (
                                                                                            register Mulh 0x33 1 0x01 refl,
                                                                                            (
                                                                                              register Mulhsu 0x33 2 0x01 refl,
                                                                                              (
                                                                                                register Mulhu 0x33 3 0x01 refl,
                                                                                                (
                                                                                                  register Div 0x33 4 0x01 refl,
                                                                                                  (
                                                                                                    register Divu 0x33 5 0x01 refl,
                                                                                                    (
                                                                                                      register Rem 0x33 6 0x01 refl,
                                                                                                      (
                                                                                                        register Remu 0x33 7 0x01 refl,
                                                                                                        (
                                                                                                          register Addw 0x3b 0 0x00 refl,
                                                                                                          (
                                                                                                            register Sllw 0x3b 1 0x00 refl,
                                                                                                            (
                                                                                                              register Srlw 0x3b 5 0x00 refl,
                                                                                                              (
                                                                                                                register Subw 0x3b 0 0x20 refl,
                                                                                                                (
                                                                                                                  register Sraw 0x3b 5 0x20 refl,
                                                                                                                  (
                                                                                                                    register Mulw 0x3b 0 0x01 refl,
                                                                                                                    (
                                                                                                                      register Divw 0x3b 4 0x01 refl,
                                                                                                                      (
                                                                                                                        register Divuw 0x3b 5 0x01 refl,
                                                                                                                        (
                                                                                                                          register Remw 0x3b 6 0x01 refl,
                                                                                                                          (
                                                                                                                            register Remuw 0x3b 7 0x01 refl,
                                                                                                                            (
                                                                                                                              fence,
                                                                                                                              (
                                                                                                                                ecall,
                                                                                                                                (
                                                                                                                                  ebreak,
                                                                                                                                  (
                                                                                                                                    reserve LrW 0x2f 2 0x02 refl,
                                                                                                                                    (
                                                                                                                                      atomic ScW 0x2f 2 0x03 refl,
                                                                                                                                      (
                                                                                                                                        atomic AmoswapW 0x2f 2 0x01 refl,
                                                                                                                                        (
                                                                                                                                          atomic AmoaddW 0x2f 2 0x00 refl,
                                                                                                                                          (
                                                                                                                                            atomic AmoxorW 0x2f 2 0x04 refl,
                                                                                                                                            (
                                                                                                                                              atomic AmoandW 0x2f 2 0x0c refl,
                                                                                                                                              (
                                                                                                                                                atomic AmoorW 0x2f 2 0x08 refl,
                                                                                                                                                (
                                                                                                                                                  atomic AmominW 0x2f 2 0x10 refl,
                                                                                                                                                  (
                                                                                                                                                    atomic AmomaxW 0x2f 2 0x14 refl,
                                                                                                                                                    (
                                                                                                                                                      atomic AmominuW 0x2f 2 0x18 refl,
                                                                                                                                                      (
                                                                                                                                                        atomic AmomaxuW 0x2f 2 0x1c refl,
                                                                                                                                                        (
                                                                                                                                                          reserve LrD 0x2f 3 0x02 refl,
                                                                                                                                                          (
                                                                                                                                                            atomic ScD 0x2f 3 0x03 refl,
                                                                                                                                                            (
                                                                                                                                                              atomic AmoswapD 0x2f 3 0x01 refl,
                                                                                                                                                              (
                                                                                                                                                                atomic AmoaddD 0x2f 3 0x00 refl,
                                                                                                                                                                (
                                                                                                                                                                  atomic AmoxorD 0x2f 3 0x04 refl,
                                                                                                                                                                  (
                                                                                                                                                                    atomic AmoandD 0x2f 3 0x0c refl,
                                                                                                                                                                    (
                                                                                                                                                                      atomic AmoorD 0x2f 3 0x08 refl,
                                                                                                                                                                      (
                                                                                                                                                                        atomic AmominD 0x2f 3 0x10 refl,
                                                                                                                                                                        (
                                                                                                                                                                          atomic AmomaxD 0x2f 3 0x14 refl,
                                                                                                                                                                          (
                                                                                                                                                                            atomic AmominuD 0x2f 3 0x18 refl,
                                                                                                                                                                            (
                                                                                                                                                                              atomic AmomaxuD 0x2f 3 0x1c refl,
                                                                                                                                                                              tt,
                                                                                                                                                                            ),
                                                                                                                                                                          ),
                                                                                                                                                                        ),
                                                                                                                                                                      ),
                                                                                                                                                                    ),
                                                                                                                                                                  ),
                                                                                                                                                                ),
                                                                                                                                                              ),
                                                                                                                                                            ),
                                                                                                                                                          ),
                                                                                                                                                        ),
                                                                                                                                                      ),
                                                                                                                                                    ),
                                                                                                                                                  ),
                                                                                                                                                ),
                                                                                                                                              ),
                                                                                                                                            ),
                                                                                                                                          ),
                                                                                                                                        ),
                                                                                                                                      ),
                                                                                                                                    ),
                                                                                                                                  ),
                                                                                                                                ),
                                                                                                                              ),
                                                                                                                            ),
                                                                                                                          ),
                                                                                                                        ),
                                                                                                                      ),
                                                                                                                    ),
                                                                                                                  ),
                                                                                                                ),
                                                                                                              ),
                                                                                                            ),
                                                                                                          ),
                                                                                                        ),
                                                                                                      ),
                                                                                                    ),
                                                                                                  ),
                                                                                                ),
                                                                                              ),
                                                                                            ),
                                                                                          ),
                                                                                        ),
                                                                                      ),
                                                                                    ),
                                                                                  ),
                                                                                ),
                                                                              ),
                                                                            ),
                                                                          ),
                                                                        ),
                                                                      ),
                                                                    ),
                                                                  ),
                                                                ),
                                                              ),
                                                            ),
                                                          ),
                                                        ),
                                                      ),
                                                    ),
                                                  ),
                                                ),
                                              ),
                                            ),
                                          ),
                                        ),
                                      ),
                                    ),
                                  ),
                                ),
                              ),
                            ),
                          ),
                        ),
                      ),
                    ),
                  ),
                ),
              ),
            ),
          ),
        ),
      ),
    ),
  ),
)
