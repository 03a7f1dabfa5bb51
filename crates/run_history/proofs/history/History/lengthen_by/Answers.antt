use Rattle.std.proofs.Common.{◌∷◌, ◌++◌, [], sym, ap, ◌∙◌, option_to_list}
use Rattle.run_history.specs.LastEntry.{ends_in_ran_of, lengthened_by}
use Rattle.run_history.specs.HistoryView.{HistoryView}
use Rattle.run_history.proofs.LastEntries.{lengthened_by-append, ends_in_ran_of-append}
use Rattle.run_history.proofs.history.History.lengthen_by.Goals as goal

pub longer_by-requires : goal.longer_by-requires
longer_by-requires c =
    let h = c.args.hart in
    let n = c.args.count in
    let old = sym (ap (λ (p : HistoryView). p.entries) c.self.view_is) ∙ c.pop.ensures.items ∙ ap (λ o. c.pop.new.self.items ++ option_to_list o) c.in-Some.is in
    record { ran = sym (ends_in_ran_of-append h n c.pop.new.self.items c.in-Some.last) ∙ sym (ap (ends_in_ran_of h n) old) ∙ c.requires.last }

pub returns-in-Some-clause-entries : goal.returns-in-Some-clause-entries
returns-in-Some-clause-entries c =
    let n = c.args.count in
    let old = sym (ap (λ (p : HistoryView). p.entries) c.self.view_is) ∙ c.pop.ensures.items ∙ ap (λ o. c.pop.new.self.items ++ option_to_list o) c.in-Some.is in
    c.push_reserved.ensures.items ∙ ap (λ e. c.pop.new.self.items ++ e ∷ []) c.longer_by.ensures.value
    ∙ sym (ap (lengthened_by n) old ∙ lengthened_by-append n c.pop.new.self.items c.in-Some.last)
