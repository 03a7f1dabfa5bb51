use Rattle.std.proofs.Common.{List, ap, sym, ◌∙◌}
use Rattle.run_history.specs.declared.entry.Entry.{Entry}
use Rattle.run_history.specs.Counts.{records_of, records_of_all}
use Rattle.run_history.proofs.Insides.{records_of-Rescued}
use Rattle.trial_runs.specs.Failures.{has_failed}
use Rattle.trial_runs.proofs.failures.+failures.Goals as goal

pub in_entry-returns-in-Rescued : goal.in_entry-returns-in-Rescued
in_entry-returns-in-Rescued t c =
    let r = c.in-Rescued in record {
      value = c.any_failed.ensures.value
          ∙ ap (λ (es : List Entry). has_failed (records_of_all es)) c.as_slice.ensures
          ∙ sym (ap (λ (e : Entry). has_failed (records_of e)) r.is ∙ ap has_failed (records_of-Rescued r.hart r.point r.fault r.inside));
    }
