use Rattle.std.proofs.Common.{◌≡◌, ℕ, ◌-◌, ◌%◌, ◌^◌, ◌<◌, true}
use Rattle.std.specs.FinMap.{get}
use Rattle.std.specs.List.{All, list_any}
use Rattle.guest_words.specs.Space.{has_right}
use Rattle.hart_step.specs.Registers.{is_in, Tells}
use Rattle.hart_step.proofs.text.words_in.Given as goal

-- what may be executed below an address lies in the words so far
abbrev pub invariant-loop-from : goal.invariant-loop-from
invariant-loop-from l = record {
  aligned : l.at % 4096 ≡ 0;
  tells : All (Tells l.memory.space) l.words.items;
  has : (pc : ℕ)
      → pc < l.at
      → has_right (λ rights. rights.exec) (get l.memory.space pc) ≡ true
      → list_any (is_in pc) l.words.items ≡ true;
}

abbrev pub decreases-loop-from : goal.decreases-loop-from
decreases-loop-from l = 2 ^ 64 - l.at
