use Rattle.std.proofs.Common.{ap, sym, ◌∙◌}
use Rattle.run_history.proofs.LastEntries.{can_lengthen_in_by, ends_in_ran_of-last}
use Rattle.run_history.proofs.history.ends_in_ran_of.Goals as goal

pub returns-in-Some : goal.returns-in-Some
returns-in-Some c = record {
  value = c.can_lengthen_by.ensures.value
      ∙ sym (ends_in_ran_of-last c.args.hart c.args.more c.args.entries.now ∙ ap (can_lengthen_in_by c.args.hart c.args.more) (sym c.in-Some.ensures.value));
}
