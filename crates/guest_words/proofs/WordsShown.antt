-- The words of small programs, as the GNU assembler and disassembler for riscv64 read them.
use Rattle.std.proofs.Common.{refl, [], ◌∷◌}
use Rattle.std.specs.Prelude.{pos}
use Rattle.guest_words.specs.Instructions.{instruction_of, row_of}
use Rattle.guest_words.specs.declared.inst.Op.TheVariants.{Add, Addi, Ecall, Jal, Lbu, Ld, Lui, Mul, Sb}
use Rattle.guest_words.proofs.Listing.{Reads, at, neg}

-- x17 is 93, x10 is 7, a call
pub smallest_program : Reads
    (at 0x05d00893 Addi 17 0 0 (pos 93)
    ∷ at 0x00700513 Addi 10 0 0 (pos 7)
    ∷ at 0x00000073 Ecall 0 0 0 (pos 0) ∷ [])
unfolding instruction_of row_of
smallest_program = refl

-- the call of write, and then of exit
pub write_to_out : Reads
    (at 0x00100513 Addi 10 0 0 (pos 1)
    ∷ at 0x000205b7 Lui 11 0 0 (pos 131072)
    ∷ at 0x00300613 Addi 12 0 0 (pos 3)
    ∷ at 0x04000893 Addi 17 0 0 (pos 64)
    ∷ at 0x00000073 Ecall 0 0 0 (pos 0)
    ∷ at 0x00000513 Addi 10 0 0 (pos 0)
    ∷ at 0x05d00893 Addi 17 0 0 (pos 93)
    ∷ at 0x00000073 Ecall 0 0 0 (pos 0) ∷ [])
unfolding instruction_of row_of
write_to_out = refl

-- the same at a place that is not mapped, and with no bytes
pub refused_write : Reads
    (at 0x000305b7 Lui 11 0 0 (pos 196608)
    ∷ at 0x00000613 Addi 12 0 0 (pos 0) ∷ [])
unfolding instruction_of row_of
refused_write = refl

-- a load 4 bytes before the end of a page
pub load_across_pages : Reads
    (at 0x00021337 Lui 6 0 0 (pos 135168)
    ∷ at 0xffc33283 Ld 5 6 0 (neg 4) ∷ [])
unfolding instruction_of row_of
load_across_pages = refl

-- a jump by 2
pub jump_to_two_modulo_four : Reads
    (at 0x0020006f Jal 0 0 0 (pos 2) ∷ [])
unfolding instruction_of row_of
jump_to_two_modulo_four = refl

-- a point that writes a byte twice and then faults
pub byte_written_twice : Reads
    (at 0x00020437 Lui 8 0 0 (pos 131072)
    ∷ at 0x014000ef Jal 1 0 0 (pos 20)
    ∷ at 0x00044283 Lbu 5 8 0 (pos 0)
    ∷ at 0x00550533 Add 10 10 5 (pos 0)
    ∷ at 0x05d00893 Addi 17 0 0 (pos 93)
    ∷ at 0x00000073 Ecall 0 0 0 (pos 0)
    ∷ at 0x02200293 Addi 5 0 0 (pos 34)
    ∷ at 0x00540023 Sb 0 8 5 (pos 0)
    ∷ at 0x03300293 Addi 5 0 0 (pos 51)
    ∷ at 0x00540023 Sb 0 8 5 (pos 0)
    ∷ at 0x00003383 Ld 7 0 0 (pos 0) ∷ [])
unfolding instruction_of row_of
byte_written_twice = refl

-- the call of futex to wait
pub waiting : Reads
    (at 0x00020537 Lui 10 0 0 (pos 131072)
    ∷ at 0x00000593 Addi 11 0 0 (pos 0)
    ∷ at 0x00000613 Addi 12 0 0 (pos 0)
    ∷ at 0x00000693 Addi 13 0 0 (pos 0)
    ∷ at 0x06200893 Addi 17 0 0 (pos 98)
    ∷ at 0x00000073 Ecall 0 0 0 (pos 0) ∷ [])
unfolding instruction_of row_of
waiting = refl

-- a jump to itself
pub budget_of_a_loop : Reads
    (at 0x0000006f Jal 0 0 0 (pos 0) ∷ [])
unfolding instruction_of row_of
budget_of_a_loop = refl

-- a product
pub product : Reads
    (at 0x02c58533 Mul 10 11 12 (pos 0) ∷ [])
unfolding instruction_of row_of
product = refl

-- a call with the number 999
pub unknown_call : Reads
    (at 0x3e700893 Addi 17 0 0 (pos 999)
    ∷ at 0x00000073 Ecall 0 0 0 (pos 0)
    ∷ at 0x05d00893 Addi 17 0 0 (pos 93)
    ∷ at 0x00000073 Ecall 0 0 0 (pos 0) ∷ [])
unfolding instruction_of row_of
unknown_call = refl
