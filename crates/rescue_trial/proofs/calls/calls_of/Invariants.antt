use Rattle.std.proofs.Common.{◌≡◌, true, drop, []}
use Rattle.run_history.specs.Run.{is_run}
use Rattle.rescue_trial.specs.Begins.{begins}
use Rattle.rescue_trial.specs.Path.{calls_over}
use Rattle.rescue_trial.proofs.calls.calls_of.Given as goal

abbrev pub invariant-loop-entry : goal.invariant-loop-entry
invariant-loop-entry l =
    (is_run l.plain (drop l.entry-index l.entries) ≡ true)
    × (calls_over (begins l.functions) l.hart l.plain (drop l.entry-index l.entries) l.calls.items
    ≡ calls_over (begins l.functions) l.hart l.fn.start l.fn.entries [])
