use Rattle.std.proofs.Common.{◌∷◌, ◌++◌, [], sym, ap, ◌∙◌, option_to_list}
use Rattle.run_history.specs.LastEntry.{ends_in_ran, lengthened}
use Rattle.run_history.specs.HistoryView.{HistoryView}
use Rattle.run_history.proofs.LastEntries.{lengthened-append, ends_in_ran-append}
use Rattle.run_history.proofs.history.History.lengthen.Goals as goal

pub longer-requires : goal.longer-requires
longer-requires c =
    let old = sym (ap (λ (p : HistoryView). p.entries) c.self.view_is) ∙ c.pop.ensures.items ∙ ap (λ o. c.pop.new.self.items ++ option_to_list o) c.in-Some.is in
    record { ran = sym (ends_in_ran-append c.pop.new.self.items c.in-Some.last) ∙ sym (ap ends_in_ran old) ∙ c.requires.last }

pub returns-in-Some-clause-entries : goal.returns-in-Some-clause-entries
returns-in-Some-clause-entries c =
    let old = sym (ap (λ (p : HistoryView). p.entries) c.self.view_is) ∙ c.pop.ensures.items ∙ ap (λ o. c.pop.new.self.items ++ option_to_list o) c.in-Some.is in
    c.push_reserved.ensures.items ∙ ap (λ e. c.pop.new.self.items ++ e ∷ []) c.longer.ensures.value
    ∙ sym (ap lengthened old ∙ lengthened-append c.pop.new.self.items c.in-Some.last)
