use Rattle.std.proofs.Common.{◌≡◌, ◌+◌, ap, sym, ◌∙◌, subst, length, arith}
use Rattle.std.specs.Prelude.{OnOk}
use Rattle.run_history.specs.Counts.{steps_of, steps_of_all, records_of, records_of_all}
use Rattle.run_history.proofs.Insides.{steps_of-Rescued, records_of-Rescued}
use Rattle.rescue_report.specs.Rescues.{rescues_of, rescues_of_all}
use Rattle.rescue_report.proofs.Insides.{rescues_of-Rescued}
use Rattle.rescue_report.proofs.counts.Counts.+counts.Goals as goal

pub add-returns-in_ok-self-in-Rescued-clause-steps : goal.add-returns-in_ok-self-in-Rescued-clause-steps
add-returns-in_ok-self-in-Rescued-clause-steps t c =
    let r = c.in-Rescued in
    subst (λ n. OnOk c.add_all.result (c.add_all.new.self.steps ≡ c.args.self.now.steps + n))
    (ap steps_of_all c.as_slice.ensures ∙ sym (ap steps_of r.is ∙ steps_of-Rescued r.hart r.point r.fault r.inside))
    c.add_all.ensures.steps

pub add-returns-in_ok-self-in-Rescued-clause-records : goal.add-returns-in_ok-self-in-Rescued-clause-records
add-returns-in_ok-self-in-Rescued-clause-records t c =
    let r = c.in-Rescued in
    subst (λ rs. OnOk c.add_all.result (c.add_all.new.self.records ≡ c.args.self.now.records + length rs))
    (ap records_of_all c.as_slice.ensures ∙ sym (ap records_of r.is ∙ records_of-Rescued r.hart r.point r.fault r.inside))
    c.add_all.ensures.records

pub add-returns-in_ok-self-in-Rescued-clause-rescues : goal.add-returns-in_ok-self-in-Rescued-clause-rescues
add-returns-in_ok-self-in-Rescued-clause-rescues t c =
    let r = c.in-Rescued in
    let one_more = c.in_ok-self-in-Rescued.ensures.ok in
    let inside = ap rescues_of_all c.as_slice.ensures in
    let whole = ap rescues_of r.is ∙ rescues_of-Rescued r.hart r.point r.fault r.inside in
    subst (λ n. OnOk c.add_all.result (c.add_all.new.self.rescues ≡ n))
    (omega (arith, one_more, inside, whole))
    c.add_all.ensures.rescues
