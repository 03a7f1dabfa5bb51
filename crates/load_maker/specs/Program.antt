-- The program of the load, and its points.
use Rattle.std.specs.Prelude.{ℕ, ◌-◌, ℤ, pos, negsuc, List, [], ◌∷◌, ◌++◌, codes}
use Rattle.guest_words.specs.declared.inst.Inst.{Inst}
use Rattle.guest_words.specs.declared.inst.Op.{Op}
use Rattle.guest_words.specs.declared.inst.Op.TheVariants.{Lui, Addi, Slli, Add, Ecall, Beq, Bne, Bge, Lbu, Jal, AmoaddW, Lw, AmoaddD, Sd, Ld, Jalr}

-- an instruction by its rd, rs1, rs2 and immediate
abbrev pub inst : Op → ℕ → ℕ → ℕ → ℤ → Inst
inst op rd rs1 rs2 imm = record { op = op; rd = rd; rs1 = rs1; rs2 = rs2; imm = imm }

-- the same of a line of a table
abbrev pub inst_of : Op × ℕ × ℕ × ℕ × ℤ → Inst
inst_of line = inst line.0 line.1 line.2 line.3 line.4

-- a negative number by its size, from 1 on
abbrev pub neg : ℕ → ℤ
neg n = negsuc (n - 1)

-- the data stand from x8 on: the sum, the count of workers that are done at 8, buffers at 64; x9 is
-- the worker's number, x18 how many are still to begin
abbrev pub start : List Inst
start =
    inst Lui 8 0 0 (pos 0x20000)
    ∷ inst Addi 9 0 0 (pos 0)
    ∷ inst Addi 18 0 0 (pos 3)
    ∷ []

-- clones the next worker, on a stack of its own
abbrev pub clone_next : List Inst
clone_next =
    inst Lui 10 0 0 (pos 0x10000)
    ∷ inst Addi 10 10 0 (pos 256)
    ∷ inst Addi 9 9 0 (pos 1)
    ∷ inst Slli 11 9 0 (pos 10)
    ∷ inst Add 11 11 8 (pos 0)
    ∷ inst Addi 11 11 0 (pos 1024)
    ∷ inst Addi 17 0 0 (pos 220)
    ∷ inst Ecall 0 0 0 (pos 0)
    ∷ inst Beq 0 10 0 (pos 16)
    ∷ inst Addi 18 18 0 (neg 1)
    ∷ inst Bne 0 18 0 (neg 40)
    ∷ inst Addi 9 0 0 (pos 0)
    ∷ []

-- the worker's own buffer
abbrev pub buffer : List Inst
buffer =
    inst Slli 19 9 0 (pos 3)
    ∷ inst Add 19 19 8 (pos 0)
    ∷ inst Addi 19 19 0 (pos 64)
    ∷ []

-- reads a byte and passes it to the point, until none is left
abbrev pub read_all : List Inst
read_all =
    inst Addi 10 0 0 (pos 0)
    ∷ inst Addi 11 19 0 (pos 0)
    ∷ inst Addi 12 0 0 (pos 1)
    ∷ inst Addi 17 0 0 (pos 63)
    ∷ inst Ecall 0 0 0 (pos 0)
    ∷ inst Bge 0 0 10 (pos 16)
    ∷ inst Lbu 10 19 0 (pos 0)
    ∷ inst Jal 1 0 0 (pos 116)
    ∷ inst Jal 0 0 0 (neg 32)
    ∷ []

-- one more is done
abbrev pub count_done : List Inst
count_done =
    inst Addi 5 8 0 (pos 8)
    ∷ inst Addi 6 0 0 (pos 1)
    ∷ inst AmoaddW 7 5 6 (pos 0)
    ∷ inst Bne 0 9 0 (pos 64)
    ∷ []

-- the first worker waits for all four, and writes the sum
abbrev pub write_sum : List Inst
write_sum =
    inst Lw 12 8 0 (pos 8)
    ∷ inst Addi 7 0 0 (pos 4)
    ∷ inst Beq 0 12 7 (pos 28)
    ∷ inst Addi 10 8 0 (pos 8)
    ∷ inst Addi 11 0 0 (pos 0)
    ∷ inst Addi 13 0 0 (pos 0)
    ∷ inst Addi 17 0 0 (pos 98)
    ∷ inst Ecall 0 0 0 (pos 0)
    ∷ inst Jal 0 0 0 (neg 32)
    ∷ inst Addi 10 0 0 (pos 1)
    ∷ inst Addi 11 8 0 (pos 0)
    ∷ inst Addi 12 0 0 (pos 8)
    ∷ inst Addi 17 0 0 (pos 64)
    ∷ inst Ecall 0 0 0 (pos 0)
    ∷ inst Jal 0 0 0 (pos 24)
    ∷ []

-- the others wake it
abbrev pub wake_first : List Inst
wake_first =
    inst Addi 10 8 0 (pos 8)
    ∷ inst Addi 11 0 0 (pos 1)
    ∷ inst Addi 12 0 0 (pos 1)
    ∷ inst Addi 17 0 0 (pos 98)
    ∷ inst Ecall 0 0 0 (pos 0)
    ∷ []

-- exits
abbrev pub exit : List Inst
exit =
    inst Addi 10 0 0 (pos 0)
    ∷ inst Addi 17 0 0 (pos 93)
    ∷ inst Ecall 0 0 0 (pos 0)
    ∷ []

-- the point: adds the byte to the sum, or 1,000 for a zero byte, which then faults
abbrev pub point : List Inst
point =
    inst Addi 2 2 0 (neg 16)
    ∷ inst Addi 5 10 0 (pos 0)
    ∷ inst Bne 0 10 0 (pos 8)
    ∷ inst Addi 5 0 0 (pos 1000)
    ∷ inst AmoaddD 6 8 5 (pos 0)
    ∷ inst Sd 0 2 6 (pos 0)
    ∷ inst Bne 0 10 0 (pos 8)
    ∷ inst Ld 7 0 0 (pos 0)
    ∷ inst Addi 2 2 0 (pos 16)
    ∷ inst Jalr 0 1 0 (pos 0)
    ∷ []

-- the whole program, from 0x10000 on
unfoldable pub program : List Inst
program =
    start ++ clone_next ++ buffer ++ read_all ++ count_done ++ write_sum ++ wake_first ++ exit
    ++ point

-- the rescue file: a fault in the point makes it answer -1
unfoldable pub points_file : List ℕ
points_file =
    codes "version = 1" ++ 10 ∷ []
    ++ codes "[[point]]" ++ 10 ∷ []
    ++ codes "entry = 65752" ++ 10 ∷ []
    ++ codes "returns = -1" ++ 10 ∷ []
    ++ codes "kind = \"blocking\"" ++ 10 ∷ []
