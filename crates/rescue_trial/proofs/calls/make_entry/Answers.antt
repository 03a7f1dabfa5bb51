use Rattle.std.proofs.Common.{◌≡◌, true, sym, ap, ◌∙◌}
use Rattle.run_history.specs.After.{after}
use Rattle.run_history.specs.Legal.{legal}
use Rattle.run_history.proofs.Entries.{after-Ran}
use Rattle.rescue_trial.proofs.Acts.{can_run-legal}
use Rattle.rescue_trial.proofs.calls.make_entry.Goals as goal

pub make_acts-requires : goal.make_acts-requires
make_acts-requires c =
    let is : legal c.args.plain c.args.entry.now ≡ true = c.requires.legal in
    record { runs = can_run-legal c.args.plain c.in-Ran.actor c.in-Ran.count (sym (ap (legal c.args.plain) c.in-Ran.is) ∙ is) }

pub returns-in_ok-make_acts-in-Ran-clause-after : goal.returns-in_ok-make_acts-in-Ran-clause-after
returns-in_ok-make_acts-in-Ran-clause-after c =
    c.in_ok-make_acts-in-Ran.ensures.after
    ∙ sym (ap (after c.args.plain) c.in-Ran.is ∙ after-Ran c.args.plain c.in-Ran.actor c.in-Ran.count)
