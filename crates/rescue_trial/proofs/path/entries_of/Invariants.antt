use Rattle.std.proofs.Common.{◌≡◌, ◌≤◌, map, reverse, take, length}
use Rattle.rescue_trial.specs.Path.{firsts}
use Rattle.rescue_trial.proofs.Firsts.{joined_firsts}
use Rattle.rescue_trial.proofs.path.entries_of.Given as goal

abbrev pub invariant-loop-calls : goal.invariant-loop-calls
invariant-loop-calls l =
    (length l.path.items ≤ 64)
    × (take 64 (joined_firsts l.path.items (map (λ call. call.point.entry) (reverse l.calls.items)))
    ≡ take 64 (firsts (map (λ call. call.point.entry) (reverse l.fn.calls.items))))

abbrev pub decreases-loop-calls : goal.decreases-loop-calls
decreases-loop-calls l = length l.calls.items
