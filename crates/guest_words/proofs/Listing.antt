-- A listing: words beside what the table reads them as.
use Rattle.std.proofs.Common.{◌≡◌, ℕ, List, map}
use Rattle.std.specs.Prelude.{ℤ, pos, neg_ℤ, Some, IsTrue, is_none}
use Rattle.std.specs.List.{list_all}
use Rattle.guest_words.specs.declared.inst.Inst.{Inst}
use Rattle.guest_words.specs.declared.inst.Op.{Op}
use Rattle.guest_words.specs.Instructions.{instruction_of}

-- -n
abbrev pub neg : ℕ → ℤ
neg n = neg_ℤ (pos n)

-- a line of a listing: a word, its instruction, rd, rs1, rs2 and the immediate
abbrev pub at : ℕ → Op → ℕ → ℕ → ℕ → ℤ → ℕ × Inst
at word op rd rs1 rs2 imm = (word, record { op = op; rd = rd; rs1 = rs1; rs2 = rs2; imm = imm })

-- each word of the listing is the instruction beside it
abbrev pub Reads : List (ℕ × Inst) → Type 0
Reads lines = map (λ line. instruction_of line.0) lines ≡ map (λ line. Some line.1) lines

-- none of the words is an instruction
abbrev pub ReadsNone : List ℕ → Type 0
ReadsNone words = IsTrue (list_all (λ word. is_none (instruction_of word)) words)
