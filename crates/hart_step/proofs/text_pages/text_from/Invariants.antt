use Rattle.std.proofs.Common.{◌≡◌, ℕ, ◌-◌, ◌%◌, ◌^◌, ◌<◌, ◌≤◌}
use Rattle.hart_step.specs.TextPages.{IsBare}
use Rattle.hart_step.proofs.text_pages.text_from.Given as goal

abbrev pub invariant-loop-page : goal.invariant-loop-page
invariant-loop-page l = record {
  aligned : l.at % 4096 ≡ 0;
  low : l.address ≤ l.at;
  bare : (a : ℕ) → l.address ≤ a → a < l.at → IsBare l.memory.space a;
}

abbrev pub decreases-loop-page : goal.decreases-loop-page
decreases-loop-page l = 2 ^ 64 - l.at
