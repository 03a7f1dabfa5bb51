use Rattle.std.proofs.Common.{◌≡◌, ◌+◌, ◌-◌, ◌≤◌, ◌<◌, vec_len, vec_capacity, All}
use Rattle.stop_gate.specs.Passes.{IsNewOf}
use Rattle.stop_gate.proofs.gate.Gate.deal.Given as goal

abbrev pub invariant-loop : goal.invariant-loop
invariant-loop g l = record {
  some : (0 < l.counter) × (l.counter ≤ l.count);
  first : IsNewOf l.self (l.count - l.counter) l.first;
  made : vec_len l.passes + 1 ≡ l.counter;
  room : l.count ≤ vec_capacity l.passes;
  passes : All (λ p. IsNewOf l.self 0 p) l.passes.items;
}
