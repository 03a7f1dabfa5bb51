use Rattle.std.proofs.Common.{◌≡◌, List, Option, Some, None, ap, sym, ◌∙◌}
use Rattle.run_history.specs.declared.entry.Entry.{Entry}
use Rattle.history_file.specs.Starts.{start_by}
use Rattle.rescue_audit.specs.Verdict.{first_no}
use Rattle.rescue_audit.specs.declared.no.No.{No}
use Rattle.rescue_audit.proofs.Verdicts.{as_said, finds_none}
use Rattle.rescue_audit.proofs.verdict.audit.Goals as goal

abbrev some_no : No → Option No
some_no x = Some x

found_none : (x : No) → some_no x ≡ None → ⊥
found_none x is = cc

pub returns-in-Some-clause-none : goal.returns-in-Some-clause-none
returns-in-Some-clause-none c = λ h.
    let none = sym c.in-Some.is ∙ c.in_ok-no.ensures.ok ∙ ap (λ (es : List Entry). first_no (start_by c.args.image.now c.args.points.now c.args.head.now) c.args.head.now.ports es c.args.files.now) c.items.ensures.list
    ∙ finds_none c.args.image.now c.args.points.now c.args.head.now c.args.history.now.entries c.args.files.now h in
    absurd (found_none c.in-Some.no none)

pub returns-in-None-clause-only : goal.returns-in-None-clause-only
returns-in-None-clause-only c = λ yes.
    as_said c.args.image.now c.args.points.now c.args.head.now c.args.history.now.entries c.args.files.now
    (sym (c.in_ok-no.ensures.ok ∙ ap (λ (es : List Entry). first_no (start_by c.args.image.now c.args.points.now c.args.head.now) c.args.head.now.ports es c.args.files.now) c.items.ensures.list) ∙ c.in-None.is)
